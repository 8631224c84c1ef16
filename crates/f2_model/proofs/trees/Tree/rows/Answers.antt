use Rattle.std.proofs.Common.{◌∙◌}
use Rattle.f2_model.proofs.MapViews.{values_of-seen}
use Rattle.f2_model.proofs.trees.Tree.rows.Goals as goal

pub returns-clause-rows : goal.returns-clause-rows
returns-clause-rows c = c.values.ensures.rest ∙ values_of-seen _ _ c.self.view_is c.values.ensures.ordered
