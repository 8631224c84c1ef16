use Rattle.std.proofs.Common.{◌∙◌}
use Rattle.f2_model.proofs.MapViews.{length-seen}
use Rattle.f2_overlay.proofs.addresses.Addresses.len.Goals as goal

pub returns-clause-len : goal.returns-clause-len
returns-clause-len c = c.len.ensures.len ∙ length-seen _ _ c.self.view_is c.len.ensures.ordered
