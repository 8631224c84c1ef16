use Rattle.std.proofs.Common.{◌∙◌}
use Rattle.f2_model.proofs.MapViews.{lookup-seen, seen-remove}
use Rattle.f2_takeover.proofs.rows.TakenRows.take.Goals as goal

pub returns-clause-taken : goal.returns-clause-taken
returns-clause-taken c = c.remove.ensures.value ∙ lookup-seen _ _ c.self.view_is c.args.ino

pub returns-clause-left : goal.returns-clause-left
returns-clause-left c = seen-remove _ _ c.self.view_is _ c.args.ino c.remove.ensures.updates.0
