use Rattle.std.proofs.Common.{is_some, ap, ◌∙◌}
use Rattle.std.specs.FinMap as map
use Rattle.f2_format.specs.Offsets.{direct_of}
use Rattle.f2_index.specs.Paged.{Paged, with_address}
use Rattle.f2_index.specs.Nodes.{dirty_of}
use Rattle.f2_index.proofs.Indexed.{same_shown, AreNodesOf-there, dirty_of-with_pages, node_of_page}
use Rattle.f2_index.proofs.index.Index.place.Goals as goal

pub touch-requires : goal.touch-requires
touch-requires c =
    let there = ap (λ (v : Paged). is_some (map.get v.pages c.args.page)) c.self.view_is ∙ c.requires in
    λ offset direct. node_of_page c.self.inside.pages c.self.inside.nodes c.self.invariant c.args.page offset there direct

pub invariant_of-self : goal.invariant_of-self
invariant_of-self c =
    let there = ap (λ (v : Paged). is_some (map.get v.pages c.args.page)) c.self.view_is ∙ c.requires in
    rw (c.replace.ensures, c.touch.ensures)
    (AreNodesOf-there c.self.inside.pages c.self.inside.nodes c.self.invariant c.args.page c.args.at there)

pub returns : goal.returns
returns c =
    let dirty = ap dirty_of c.touch.ensures ∙ dirty_of-with_pages c.self.inside.nodes (direct_of c.args.page) 0 in
    let changed = same_shown c.replace.ensures dirty in
    changed ∙ ap (λ v. with_address v c.args.page c.args.at) c.self.view_is
