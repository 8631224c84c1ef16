use Rattle.std.proofs.Common.{Some, ap, sym, ◌∙◌}
use Rattle.std.specs.Prelude.{option_map}
use Rattle.std.specs.FinMap as map
use Rattle.f2_index.specs.Slots.{node_of}
use Rattle.f2_index.proofs.Slots.{get-nodes_of}
use Rattle.f2_index.proofs.nodes.NodeTable.get.Goals as goal

pub returns-in_err-slot : goal.returns-in_err-slot
returns-in_err-slot c =
    c.from_residual.ensures ∙ ap (option_map node_of) c.in_err-slot.ensures ∙ sym (get-nodes_of c.self.inside.slots c.args.offset)
    ∙ ap (λ m. map.get m c.args.offset) c.self.view_is

pub returns : goal.returns
returns c =
    ap (λ b. Some (record { pages = c.in_ok-slot.slot.pages; dirty = b })) c.is_some.ensures
    ∙ ap (option_map node_of) c.in_ok-slot.ensures ∙ sym (get-nodes_of c.self.inside.slots c.args.offset)
    ∙ ap (λ m. map.get m c.args.offset) c.self.view_is
