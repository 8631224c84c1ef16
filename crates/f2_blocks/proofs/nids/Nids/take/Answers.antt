use Rattle.std.proofs.Common.{ap, sym, ◌∙◌}
use Rattle.std.specs.FinMap as map
use Rattle.f2_index.proofs.Tables.{get-view, view-remove}
use Rattle.f2_blocks.proofs.nids.Nids.take.Goals as goal

pub returns-clause-taken : goal.returns-clause-taken
returns-clause-taken c =
    c.remove.ensures.value ∙ sym (get-view c.self.inside.nids.entries c.args.offset) ∙ ap (λ m. map.get m c.args.offset) c.self.view_is

pub returns-clause-left : goal.returns-clause-left
returns-clause-left c =
    view-remove c.self.inside.nids.entries c.remove.new.self.entries c.args.offset c.remove.ensures.updates.0
    ∙ ap (λ m. map.remove m c.args.offset) c.self.view_is
