-- Where one seat alone is in flight, nobody is once it left.
use Rattle.std.proofs.Common.{◌≡◌, ℕ, Bool, true, false, cond, refl, sym, ap, ◌∙◌, nat_cmp}
use Rattle.std.specs.Prelude.{Option, Some, None}
use Rattle.std.specs.Cmp.{nat_cmp_total, unsigned_tied}
use Rattle.std.specs.Ordering.{eq_by_cmp}
use Rattle.std.specs.FinMap as map
use Rattle.f2_image_laws.proofs.Numbers.{test_same}

module _ {X : Type 0} (flights : map.FinMap nat_cmp X) (seat : ℕ) where
  pub left_none : map.get (map.remove flights seat) seat ≡ None
  left_none = map.get-remove nat_cmp_total flights seat seat ∙ ap (λ b. cond b None (map.get flights seat)) (unsigned_tied seat seat ∙ test_same seat seat refl)

  -- who is in flight after it was before
  pub was_there : (other : ℕ) (one : X) → map.get (map.remove flights seat) other ≡ Some one → map.get flights other ≡ Some one
  was_there other one found = by_tie (eq_by_cmp nat_cmp other seat) (sym (map.get-remove nat_cmp_total flights seat other) ∙ found)
    where
      by_tie : (b : Bool) → cond b None (map.get flights other) ≡ Some one → map.get flights other ≡ Some one
      by_tie true h = cc
      by_tie false h = h

  pub nobody : ((other : ℕ) (one : X) → map.get flights other ≡ Some one → other ≡ seat) → (other : ℕ) (one : X) → ¬ (map.get (map.remove flights seat) other ≡ Some one)
  nobody alone other one found =
      let same : other ≡ seat = alone other one (was_there other one found) in
      let wrong : ◌≡◌ {A = Option X} None (Some one) = sym left_none ∙ ap (map.get (map.remove flights seat)) (sym same) ∙ found in cc
