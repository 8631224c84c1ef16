use Rattle.f2_model.proofs.MapViews.{shown_seen-remove}
use Rattle.f2_model.proofs.page_maps.Pages.remove.Goals as goal

pub returns : goal.returns
returns c = shown_seen-remove c.self.inside.pages.entries (λ b. b.value) _ c.self.view_is _ c.args.page c.remove.ensures.updates.0
