use Rattle.std.proofs.Common.{◌≡◌, ℕ, ◌<◌, true, false, sym, ap, ◌∙◌, arith}
use Rattle.std.specs.Prelude.{None, is_some}
use Rattle.std.specs.FinMap as map
use Rattle.std.proofs.lemmas.Map.Keys.{ge_from_not_lt}
use Rattle.f2_model.proofs.MapViews.{lookup-seen}
use Rattle.f2_overlay.proofs.Maps.{if_none, no_entries}
use Rattle.f2_overlay.proofs.addresses.Addresses.last.Goals as goal

no_length : (n : ℕ) → (0 < n → false ≡ true) → n ≡ 0
no_length n h = grind (arith, h)

pub returns-in_err-page-clause-none : goal.returns-in_err-page-clause-none
returns-in_err-page-clause-none c =
    if_none _ ((page : ℕ) → map.get c.args.self.now page ≡ None) (λ page. sym (lookup-seen _ _ c.self.view_is page) ∙ no_entries _ _ (no_length _ c.in_err-page.ensures.variant.1))

pub returns-clause-there : goal.returns-clause-there
returns-clause-there c = sym (lookup-seen _ _ c.self.view_is c.in_ok-page.page.now) ∙ c.in_ok-page.ensures.value

pub returns-clause-last : goal.returns-clause-last
returns-clause-last c page at there =
    ge_from_not_lt c.in_ok-page.page.now page (c.in_ok-page.ensures.greatest page (ap (λ o. is_some o) (lookup-seen _ _ c.self.view_is page ∙ there)))
