use Rattle.std.proofs.Common.{rules}
use Rattle.f2_model.proofs.MapViews.{keys_of-shown_seen}
use Rattle.f2_model.proofs.page_maps.Pages.numbers.Goals as goal

pub returns : goal.returns
returns c =
    let keys = keys_of-shown_seen c.self.inside.pages.entries (λ b. b.value) _ c.self.view_is c.keys.ensures.ordered in
    rw (← keys) (search rules)
