use Rattle.std.proofs.Common.{ap, ◌∙◌}
use Rattle.std.specs.FinMap as map
use Rattle.f2_index.specs.Slots.{nodes_of}
use Rattle.f2_index.proofs.Slots.{AreKept-removed, no_place-cleaned, nodes_of-remove, remove-cleaned}
use Rattle.f2_index.proofs.nodes.NodeTable.remove.Goals as goal

pub invariant_of-self : goal.invariant_of-self
invariant_of-self c =
    rw c.remove.ensures
    (AreKept-removed c.self.inside.slots c.self.inside.dirty.items _ c.self.invariant c.args.offset (no_place-cleaned c.self.inside.slots c.args.self.now c.args.offset (c.self.view_is ∙ c.clean.ensures)))

pub returns : goal.returns
returns c =
    ap nodes_of c.remove.ensures ∙ nodes_of-remove c.self.inside.slots c.args.offset
    ∙ ap (λ m. map.remove m c.args.offset) (c.self.view_is ∙ c.clean.ensures) ∙ remove-cleaned c.args.self.now c.args.offset
