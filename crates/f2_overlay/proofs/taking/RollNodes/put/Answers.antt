use Rattle.f2_model.proofs.MapViews.{seen-insert}
use Rattle.f2_overlay.proofs.taking.RollNodes.put.Goals as goal

pub returns-clause-ok : goal.returns-clause-ok
returns-clause-ok c = seen-insert _ _ c.self.view_is _ c.args.offset c.args.node c.in_ok-insert.ensures.updates.0
