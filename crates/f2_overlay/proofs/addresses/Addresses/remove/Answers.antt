use Rattle.f2_model.proofs.MapViews.{seen-remove}
use Rattle.f2_overlay.proofs.addresses.Addresses.remove.Goals as goal

pub returns : goal.returns
returns c = seen-remove _ _ c.self.view_is _ c.args.page c.remove.ensures.updates.0
