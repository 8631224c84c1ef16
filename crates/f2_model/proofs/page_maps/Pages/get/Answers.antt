use Rattle.std.proofs.Common.{ap, ◌∙◌, Some}
use Rattle.std.specs.Option.{option_map}
use Rattle.f2_model.proofs.MapViews.{lookup-shown_seen}
use Rattle.f2_model.proofs.page_maps.Pages.get.Goals as goal

pub returns-in_err-content : goal.returns-in_err-content
returns-in_err-content c =
    let seen = lookup-shown_seen c.self.inside.pages.entries (λ b. b.value) _ c.self.view_is c.args.page in
    rw c.from_residual.ensures (ap (option_map (λ b. b.value)) c.in_err-content.ensures.value ∙ seen)

pub returns : goal.returns
returns c =
    let seen = lookup-shown_seen c.self.inside.pages.entries (λ b. b.value) _ c.self.view_is c.args.page in
    ap Some c.deref.ensures ∙ ap (option_map (λ b. b.value)) c.in_ok-content.ensures.value ∙ seen
