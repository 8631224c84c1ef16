use Rattle.f2_model.proofs.MapViews.{seen-insert}
use Rattle.f2_takeover.proofs.rows.TakenRows.put.Goals as goal

pub returns : goal.returns
returns c = seen-insert _ _ c.self.view_is _ c.args.ino c.args.row c.in_ok-insert.ensures.updates.0
