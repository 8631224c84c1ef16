use Rattle.std.proofs.Common.{◌∙◌, ap}
use Rattle.std.specs.FinMap as map
use Rattle.f2_model.proofs.MapViews.{shown_seen-insert}
use Rattle.f2_model.proofs.page_maps.Pages.put.Goals as goal

pub returns-clause-ok : goal.returns-clause-ok
returns-clause-ok c =
    shown_seen-insert c.self.inside.pages.entries (λ b. b.value) _ c.self.view_is _ c.args.page c.in_ok-content.content c.in_ok-insert.ensures.updates.0
    ∙ ap (map.insert c.args.self.now c.args.page) c.in_ok-content.ensures.ok
