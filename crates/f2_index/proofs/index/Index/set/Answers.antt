use Rattle.std.proofs.Common.{◌≡◌, None, is_some, arith, ap, sym, ◌∙◌}
use Rattle.std.specs.FinMap as map
use Rattle.f2_format.specs.Offsets.{direct_of}
use Rattle.f2_index.specs.Paged.{with_address}
use Rattle.f2_index.specs.Nodes.{AreNodesOf, dirty_of, with_pages}
use Rattle.f2_index.proofs.Tables.{by_result, map_ok, none_unless}
use Rattle.f2_index.proofs.Indexed.{same_shown, AreNodesOf-new, counted-le, dirty_of-with_pages}
use Rattle.f2_index.proofs.index.Index.set.Goals as goal

pub add_page-requires-clause-room : goal.add_page-requires-clause-room
add_page-requires-clause-room c = λ offset. omega (arith, counted-le c.self.inside.pages c.self.inside.nodes c.self.invariant offset)

pub invariant_of-self : goal.invariant_of-self
invariant_of-self c =
    let page = c.args.page in
    let at = c.args.at in
    let was = c.self.inside in
    let new : map.get was.pages page ≡ None = none_unless (map.get was.pages page) (sym (ap is_some c.get.ensures) ∙ sym c.is_some.ensures ∙ c.if-is_some.false) in
    by_result c.add_page.result
    (c.add_page.new.pages ≡ map.insert was.pages page at)
    (c.add_page.new.nodes ≡ with_pages was.nodes (direct_of page) 1)
    (c.add_page.new.pages ≡ was.pages)
    (c.add_page.new.nodes ≡ was.nodes)
    (AreNodesOf c.add_page.new.pages c.add_page.new.nodes)
    c.add_page.ensures.pages c.add_page.ensures.nodes c.add_page.ensures.err_pages c.add_page.ensures.err_nodes
    (λ pages nodes. rw (pages, nodes) (AreNodesOf-new was.pages was.nodes c.self.invariant page at c.requires new))
    (λ pages nodes. rw (pages, nodes) c.self.invariant)

pub returns-clause-ok : goal.returns-clause-ok
returns-clause-ok c =
    let page = c.args.page in
    let at = c.args.at in
    let was = c.self.inside in
    map_ok c.add_page.result
    (c.add_page.new.pages ≡ map.insert was.pages page at)
    (c.add_page.new.nodes ≡ with_pages was.nodes (direct_of page) 1)
    _
    c.add_page.ensures.pages c.add_page.ensures.nodes
    (λ pages nodes.
    let dirty = ap dirty_of nodes ∙ dirty_of-with_pages was.nodes (direct_of page) 1 in
    let changed = same_shown pages dirty in
    changed ∙ ap (λ v. with_address v page at) c.self.view_is)
