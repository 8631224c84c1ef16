use Rattle.std.proofs.Common.{◌∙◌}
use Rattle.f2_model.proofs.MapViews.{length-shown_seen}
use Rattle.f2_model.proofs.page_maps.Pages.len.Goals as goal

pub returns-clause-len : goal.returns-clause-len
returns-clause-len c = c.len.ensures.len ∙ length-shown_seen c.self.inside.pages.entries (λ b. b.value) _ c.self.view_is c.len.ensures.ordered
