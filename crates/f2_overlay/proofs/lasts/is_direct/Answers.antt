use Rattle.std.proofs.Common.{◌≡◌, ℕ, true, false, refl, sym, ◌∙◌}
use Rattle.std.specs.Prelude.{Option, Some, None}
use Rattle.std.specs.Option.{is_some, IfSome, IsNone}
use Rattle.std.proofs.lemmas.Bool.{true≢false}
use Rattle.f2_image.specs.Reached.{IsDirect}
use Rattle.f2_shape.specs.Routes.{IsFirstPage}
use Rattle.f2_overlay.proofs.LastPlaces.{direct_from_page, page_from_direct}
use Rattle.f2_overlay.proofs.lasts.is_direct.Goals as goal

found : (offset : ℕ) (first : Option ℕ) → IfSome first (IsFirstPage offset) → is_some first ≡ true → IsDirect offset
found offset None page some = absurd (true≢false (sym some))
found offset (Some page) is some = direct_from_page page offset is.held

pub returns-clause-direct : goal.returns-clause-direct
returns-clause-direct c = λ is. found c.args.offset c.first_page.result c.first_page.ensures.first (sym c.is_some.ensures ∙ is)

none : (first : Option ℕ) → is_some first ≡ false → IsNone first
none None isnt = refl
none (Some page) isnt = absurd (true≢false isnt)

pub returns-clause-other : goal.returns-clause-other
returns-clause-other c = λ isnt d. let page = page_from_direct c.args.offset d in c.first_page.ensures.none.0 (none c.first_page.result (sym c.is_some.ensures ∙ isnt)) page.0 page.1
