-- Maps and sets by pairs after a change, key by key.
use Rattle.std.proofs.Common.{◌≡◌, ◌≢◌, ◌⊎◌, inl, inr, ℕ, ◌+◌, Bool, true, false, cond, not, ◌||◌, ◌&&◌, is_some, IsSome, refl, sym, ap, ◌∙◌, true≢false}
use Rattle.std.specs.Prelude.{Some}
use Rattle.std.specs.Ordering.{eq_by_cmp, is_eq}
use Rattle.std.specs.Cmp.{IsTotalOrder, nat_cmp_total, on_total, then_total, tied_itself}
use Rattle.std.specs.FinMap as map
use Rattle.std.specs.FinMap.{FinMap, get-insert, len-insert}
use Rattle.std.specs.FinSet as set
use Rattle.std.specs.FinSet.{contains-insert, contains-remove}
use Rattle.f2_model.specs.State.{pair_cmp, Pairs}
use Rattle.f2_place_laws.proofs.Keys.{same_pair}

-- two numbers as a pair
abbrev pub pair : ℕ → ℕ → ℕ × ℕ
pair a b = (a, b)

pub pair_cmp_total : IsTotalOrder pair_cmp
pair_cmp_total = then_total (on_total (λ pair. pair.0) nat_cmp_total) (on_total (λ pair. pair.1) nat_cmp_total)

-- a pair ties with itself and with no other one
pub tied : (p : ℕ × ℕ) → eq_by_cmp pair_cmp p p ≡ true
tied p = ap is_eq (tied_itself pair_cmp_total p)

pub apart : (p q : ℕ × ℕ) → p ≢ q → eq_by_cmp pair_cmp p q ≡ false
apart p q other = by_test (eq_by_cmp pair_cmp p q) refl
  where
    by_test : (b : Bool) → eq_by_cmp pair_cmp p q ≡ b → b ≡ false
    by_test true is = absurd (other (same_pair p q is))
    by_test false is = refl

-- two pairs are one or not
pub same_or_other : (p q : ℕ × ℕ) → (p ≡ q) ⊎ (p ≢ q)
same_or_other p q = by_test (eq_by_cmp pair_cmp p q) refl
  where
    by_test : (b : Bool) → eq_by_cmp pair_cmp p q ≡ b → (p ≡ q) ⊎ (p ≢ q)
    by_test true is = inl (same_pair p q is)
    by_test false is = inr (λ same. true≢false (sym (tied p) ∙ ap (λ r. eq_by_cmp pair_cmp p r) same ∙ is))

module _ {X : Type 0} (m : FinMap pair_cmp X) (k : ℕ × ℕ) (v : X) where
  pub put_here : map.get (map.insert m k v) k ≡ Some v
  put_here = get-insert pair_cmp_total m k v k ∙ ap (λ b. cond b (Some v) (map.get m k)) (tied k)

  pub put_other : (q : ℕ × ℕ) → q ≢ k → map.get (map.insert m k v) q ≡ map.get m q
  put_other q other = get-insert pair_cmp_total m k v q ∙ ap (λ b. cond b (Some v) (map.get m q)) (apart q k other)

  -- what was there is there, and nothing more where the key was there
  pub still_there : (q : ℕ × ℕ) → IsSome (map.get m q) → IsSome (map.get (map.insert m k v) q)
  still_there q there = by_test (eq_by_cmp pair_cmp q k) (get-insert pair_cmp_total m k v q)
    where
      by_test : (b : Bool) → map.get (map.insert m k v) q ≡ cond b (Some v) (map.get m q) → IsSome (map.get (map.insert m k v) q)
      by_test true is = ap is_some is
      by_test false is = ap is_some is ∙ there

  module _ (old : IsSome (map.get m k)) where
    pub was_there : (q : ℕ × ℕ) → IsSome (map.get (map.insert m k v) q) → IsSome (map.get m q)
    was_there q there = by_case (same_or_other q k)
      where
        by_case : (q ≡ k) ⊎ (q ≢ k) → IsSome (map.get m q)
        by_case (inl same) = ap (λ p. is_some (map.get m p)) same ∙ old
        by_case (inr other) = sym (ap is_some (put_other q other)) ∙ there

    pub as_many : map.len (map.insert m k v) ≡ map.len m
    as_many = len-insert pair_cmp_total m k v ∙ ap (λ b. cond b (map.len m) (map.len m + 1)) old

-- what isn't in a set with one more is not that one, and not in the set
either : (a b : Bool) → (a || b) ≡ false → (a ≡ false) × (b ≡ false)
either true b is = absurd (true≢false is)
either false b is = (refl, is)

pub not_put : (s : Pairs) (k q : ℕ × ℕ) → set.contains (set.insert s k) q ≡ false → (q ≢ k) × (set.contains s q ≡ false)
not_put s k q out =
    let parts = either (eq_by_cmp pair_cmp q k) (set.contains s q) (sym (contains-insert pair_cmp_total s k q) ∙ out) in
    (λ same. true≢false (sym (tied k) ∙ ap (λ p. eq_by_cmp pair_cmp p k) (sym same) ∙ parts.0), parts.1)

-- what isn't in a set without one isn't in the set either, but for that one
pub not_left : (s : Pairs) (k q : ℕ × ℕ) → q ≢ k → set.contains (set.remove s k) q ≡ false → set.contains s q ≡ false
not_left s k q other out = sym (contains-remove pair_cmp_total s k q ∙ ap (λ b. not b && set.contains s q) (apart q k other)) ∙ out
