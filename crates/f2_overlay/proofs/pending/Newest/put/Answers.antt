use Rattle.f2_model.proofs.MapViews.{seen-insert}
use Rattle.f2_overlay.proofs.pending.Newest.put.Goals as goal

pub returns : goal.returns
returns c = seen-insert _ _ c.self.view_is _ c.args.offset c.args.place c.in_ok-insert.ensures.updates.0
