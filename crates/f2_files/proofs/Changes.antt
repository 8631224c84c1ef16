-- Maps after a key was put or taken, and the same key once more.
use Rattle.std.proofs.Common.{◌≡◌, ◌≢◌, ◌⊎◌, inl, inr, ℕ, sym, ap, ◌∙◌}
use Rattle.std.specs.Prelude.{Some, None}
use Rattle.std.specs.Ordering.{nat_cmp}
use Rattle.std.specs.Cmp.{nat_cmp_total}
use Rattle.std.specs.FinMap as map
use Rattle.std.specs.FinMap.{FinMap, nat_cmp-IsAntisymmetric}
use Rattle.f2_laws.proofs.Maps.{get_put, get_put-other, get_taken, get_taken-other}
use Rattle.f2_laws.proofs.Places.{same_or_other}

module _ {X : Type 0} (m : FinMap nat_cmp X) (k : ℕ) where
  pub put_same : (v : X) → map.get m k ≡ Some v → map.insert m k v ≡ m
  put_same v there = map.same_map nat_cmp_total nat_cmp-IsAntisymmetric _ _ (λ q. by_key q (same_or_other q k))
    where
      by_key : (q : ℕ) → (q ≡ k) ⊎ (q ≢ k) → map.get (map.insert m k v) q ≡ map.get m q
      by_key q (inl at) = ap (λ i. map.get (map.insert m k v) i) at ∙ get_put m k v ∙ sym there ∙ ap (λ i. map.get m i) (sym at)
      by_key q (inr other) = get_put-other m k v q other

  pub put_taken : (v : X) → map.get m k ≡ None → map.remove (map.insert m k v) k ≡ m
  put_taken v free = map.same_map nat_cmp_total nat_cmp-IsAntisymmetric _ _ (λ q. by_key q (same_or_other q k))
    where
      by_key : (q : ℕ) → (q ≡ k) ⊎ (q ≢ k) → map.get (map.remove (map.insert m k v) k) q ≡ map.get m q
      by_key q (inl at) = ap (λ i. map.get (map.remove (map.insert m k v) k) i) at ∙ get_taken (map.insert m k v) k ∙ sym free ∙ ap (λ i. map.get m i) (sym at)
      by_key q (inr other) = get_taken-other (map.insert m k v) k q other ∙ get_put-other m k v q other

  pub put_twice : (v w : X) → map.insert (map.insert m k v) k w ≡ map.insert m k w
  put_twice v w = map.same_map nat_cmp_total nat_cmp-IsAntisymmetric _ _ (λ q. by_key q (same_or_other q k))
    where
      by_key : (q : ℕ) → (q ≡ k) ⊎ (q ≢ k) → map.get (map.insert (map.insert m k v) k w) q ≡ map.get (map.insert m k w) q
      by_key q (inl at) = ap (λ i. map.get (map.insert (map.insert m k v) k w) i) at ∙ get_put (map.insert m k v) k w ∙ sym (get_put m k w) ∙ ap (λ i. map.get (map.insert m k w) i) (sym at)
      by_key q (inr other) = get_put-other (map.insert m k v) k w q other ∙ get_put-other m k v q other ∙ sym (get_put-other m k w q other)
