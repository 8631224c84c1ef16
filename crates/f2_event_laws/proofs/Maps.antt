-- Maps by numbers after a change, key by key.
use Rattle.std.proofs.Common.{◌≡◌, ◌≢◌, ◌⊎◌, inl, inr, ℕ, cond, sym, ap, ◌∙◌, arith}
use Rattle.std.specs.Prelude.{Some, None}
use Rattle.std.specs.Ordering.{nat_cmp}
use Rattle.std.specs.Cmp.{nat_cmp_total, unsigned_tied}
use Rattle.std.proofs.lemmas.Bool.{ne_eqb, cases_eq}
use Rattle.std.specs.FinMap as map
use Rattle.std.specs.FinMap.{FinMap, gets, get-insert, get-remove}

module _ {X : Type 0} (m : FinMap nat_cmp X) (k : ℕ) where
  pub put_here : (v : X) → map.get (map.insert m k v) k ≡ Some v
  put_here v = grind (arith, gets)

  pub put_other : (v : X) (q : ℕ) → q ≢ k → map.get (map.insert m k v) q ≡ map.get m q
  put_other v q other = get-insert nat_cmp_total m k v q ∙ ap (λ b. cond b (Some v) (map.get m q)) (unsigned_tied q k ∙ ne_eqb q k other)

  pub taken_here : map.get (map.remove m k) k ≡ None
  taken_here = grind (arith, gets)

  pub taken_other : (q : ℕ) → q ≢ k → map.get (map.remove m k) q ≡ map.get m q
  taken_other q other = get-remove nat_cmp_total m k q ∙ ap (λ b. cond b None (map.get m q)) (unsigned_tied q k ∙ ne_eqb q k other)

  -- what is found after a value was put in is that value, or it was there
  pub found_put : (v : X) (q : ℕ) (x : X) → map.get (map.insert m k v) q ≡ Some x → ((q ≡ k) × (x ≡ v)) ⊎ ((q ≢ k) × (map.get m q ≡ Some x))
  found_put v q x there = by_case (cases_eq q k)
    where
      by_case : (q ≡ k) ⊎ (q ≢ k) → ((q ≡ k) × (x ≡ v)) ⊎ ((q ≢ k) × (map.get m q ≡ Some x))
      by_case (inl same) = let is : Some x ≡ Some v = sym there ∙ ap (map.get (map.insert m k v)) same ∙ put_here v in inl (same, cc)
      by_case (inr other) = inr (other, sym (put_other v q other) ∙ there)

  pub found_left : (q : ℕ) (x : X) → map.get (map.remove m k) q ≡ Some x → (q ≢ k) × (map.get m q ≡ Some x)
  found_left q x there = by_case (cases_eq q k)
    where
      by_case : (q ≡ k) ⊎ (q ≢ k) → (q ≢ k) × (map.get m q ≡ Some x)
      by_case (inl same) = let is : Some x ≡ None = sym there ∙ ap (map.get (map.remove m k)) same ∙ taken_here in absurd (cc)
      by_case (inr other) = (other, sym (taken_other q other) ∙ there)
