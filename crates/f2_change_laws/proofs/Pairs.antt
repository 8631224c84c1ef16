-- A map from pairs of numbers, with one entry more.
use Rattle.std.proofs.Common.{◌≡◌, ◌⊎◌, inl, inr, ℕ, Bool, true, false, cond, refl, sym, ap, ◌∙◌, true≢false}
use Rattle.std.specs.Prelude.{Some}
use Rattle.std.specs.Ordering.{ordering_then, eq_by_cmp, is_eq}
use Rattle.std.specs.declared.cmp.Ordering.{Ordering}
use Rattle.std.specs.declared.cmp.Ordering.TheVariants.{Less, Equal, Greater}
use Rattle.std.specs.Cmp.{IsTotalOrder, nat_cmp_total, on_total, then_total}
use Rattle.std.specs.FinMap.{IsAntisymmetric, nat_cmp-IsAntisymmetric}
use Rattle.std.specs.FinMap as map
use Rattle.f2_model.specs.State.{pair_cmp}
use Rattle.f2_stored.specs.Layout.{Nids}

pair_cmp_total : IsTotalOrder pair_cmp
pair_cmp_total = then_total (on_total (λ pair. pair.0) nat_cmp_total) (on_total (λ pair. pair.1) nat_cmp_total)

both_equal : (a b : Ordering) → ordering_then a b ≡ Equal → (a ≡ Equal) × (b ≡ Equal)
both_equal Less b e = absurd (cc)
both_equal Equal b e = (refl, e)
both_equal Greater b e = absurd (cc)

equal_parts : IsAntisymmetric pair_cmp
equal_parts x y e =
    let parts = both_equal _ _ e in
    let first : x.0 ≡ y.0 = nat_cmp-IsAntisymmetric x.0 y.0 parts.0 in
    let second : x.1 ≡ y.1 = nat_cmp-IsAntisymmetric x.1 y.1 parts.1 in
    λ i. (first i, second i)

is_equal : (o : Ordering) → is_eq o ≡ true → o ≡ Equal
is_equal Less e = absurd (true≢false (sym e))
is_equal Equal e = refl
is_equal Greater e = absurd (true≢false (sym e))

some_same : (m n : ℕ) → Some m ≡ Some n → m ≡ n
some_same m n e = cc

module _ (nids : Nids) (key : ℕ × ℕ) (nid : ℕ) where
  -- what the longer map says comes from the new entry or from the old ones
  pub got : (q : ℕ × ℕ) (n : ℕ) → map.get (map.insert nids key nid) q ≡ Some n → ((q ≡ key) × (n ≡ nid)) ⊎ (map.get nids q ≡ Some n)
  got q n is = by_test (eq_by_cmp pair_cmp q key) refl
    where
      by_test : (t : Bool) → eq_by_cmp pair_cmp q key ≡ t → ((q ≡ key) × (n ≡ nid)) ⊎ (map.get nids q ≡ Some n)
      by_test true e = inl (equal_parts q key (is_equal (pair_cmp q key) e), some_same n nid (sym is ∙ map.get-insert pair_cmp_total nids key nid q ∙ ap (λ b. cond b (Some nid) (map.get nids q)) e))
      by_test false e = inr (sym (map.get-insert pair_cmp_total nids key nid q ∙ ap (λ b. cond b (Some nid) (map.get nids q)) e) ∙ is)

  -- and it says what the old one did, where the new entry does
  pub gets_still : ((n : ℕ) → map.get nids key ≡ Some n → n ≡ nid) → (q : ℕ × ℕ) (n : ℕ) → map.get nids q ≡ Some n → map.get (map.insert nids key nid) q ≡ Some n
  gets_still known q n is = map.get-insert pair_cmp_total nids key nid q ∙ by_test (eq_by_cmp pair_cmp q key) refl
    where
      by_test : (t : Bool) → eq_by_cmp pair_cmp q key ≡ t → cond t (Some nid) (map.get nids q) ≡ Some n
      by_test true e =
          let same : q ≡ key = equal_parts q key (is_equal (pair_cmp q key) e) in
          ap Some (sym (known n (sym (ap (map.get nids) same) ∙ is)))
      by_test false e = is
