use Rattle.std.proofs.Common.{◌∙◌}
use Rattle.f2_model.proofs.MapViews.{values_of-seen}
use Rattle.f2_laid.proofs.places.Places.places.Goals as goal

pub returns-clause-places : goal.returns-clause-places
returns-clause-places c = c.values.ensures.rest ∙ values_of-seen _ _ c.self.view_is c.values.ensures.ordered
