use Rattle.std.proofs.Common.{◌≡◌, ◌≢◌, ℕ, ◌+◌, ◌*◌, ◌<◌, Some, true, false, is_some, refl, sym, ap, subst, arith}
use Rattle.f2_format.specs.Offsets.{direct_limit, direct_number, direct_of, nth_direct}
use Rattle.f2_shape.specs.Routes.{IsFirstPage}
use Rattle.f2_shape.proofs.Parts.{IsFirstPage-number, number_of-direct}
use Rattle.f2_shape.proofs.first.first_page.Goals as goal

-- no page has the direct node, where no number has
none_has : (d : ℕ) → ((k : ℕ) → k < direct_limit → nth_direct k ≢ d) → (page : ℕ) → direct_of page ≢ Some d
none_has d none page has =
    let number = number_of-direct page d has in
    let below : direct_number page < direct_limit = omega (arith, number) in
    none (direct_number page) below number.2

pub returns-in_err-number-clause-none : goal.returns-in_err-number-clause-none
returns-in_err-number-clause-none c =
    (λ _. none_has c.args.offset (c.in_err-number.ensures.none refl), λ _. ap is_some c.from_residual.ensures)

pub returns-clause-first : goal.returns-clause-first
returns-clause-first c =
    let ensured = c.in_ok-number.ensures in
    let page : 923 + c.from.result * c.from-2.result ≡ 923 + c.in_ok-number.number * 1018 =
    λ i. 923 + c.from.ensures i * c.from-2.ensures i
    in
    subst (IsFirstPage c.args.offset) (sym page) (IsFirstPage-number c.in_ok-number.number c.args.offset ensured.bound ensured.direct)

pub returns-clause-none : goal.returns-clause-none
returns-clause-none c =
    (λ none. let wrong : ◌≡◌ true false = none in absurd (cc), λ none. absurd (none _ (returns-clause-first c).held))
