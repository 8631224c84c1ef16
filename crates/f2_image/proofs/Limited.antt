-- What going through the numbers below a limit, or through a list, comes to: a decision, a map, a list.
use Rattle.std.proofs.Common.{◌≡◌, ℕ, zero, suc, ◌+◌, ◌<◌, ◌==◌, Bool, true, false, cond, IsTrue, List, [], ◌∷◌, filter, refl, sym, ap, ◌∙◌, subst, arith}
use Rattle.std.specs.Prelude.{Option, Some, None}
use Rattle.std.specs.List.{AllZip, range_with_len}
use Rattle.std.specs.Ordering.{nat_cmp}
use Rattle.std.specs.Cmp.{nat_cmp_total, unsigned_tied}
use Rattle.std.specs.FinMap as map
use Rattle.std.proofs.lemmas.Option.{none-some}
use native.Mathlib.Decide.{ℕ_discrete}

-- whether some number below a limit has a property
pub some_below : (P : ℕ → Type 0) → ((k : ℕ) → Dec (P k)) → (n : ℕ) → Dec ((k : ℕ) × (k < n) × P k)
some_below P decide zero = no (λ found. let small = found.1 in absurd (omega (arith, small)))
some_below P decide (suc n) = at_last (decide n) (some_below P decide n)
  where
    last_is : (k : ℕ) → k < suc n → P k → ¬ (P n) → ¬ ((k : ℕ) × (k < n) × P k) → Dec (k ≡ n) → ⊥
    last_is k small p none lower (yes e) = none (subst P e p)
    last_is k small p none lower (no other) = lower (k, omega (arith, small, other), p)

    at_last : Dec (P n) → Dec ((k : ℕ) × (k < n) × P k) → Dec ((k : ℕ) × (k < suc n) × P k)
    at_last (yes p) lower = yes (n, omega arith, p)
    at_last (no none) (yes found) = let small = found.1 in yes (found.0, omega (arith, small), found.2)
    at_last (no none) (no lower) = no (λ found. last_is found.0 found.1 found.2 none lower (ℕ_discrete found.0 n))

-- a map that has below a limit what a function says, and else nothing
pub record MapBelow {X : Type 0} (n : ℕ) (f : ℕ → Option X) : Type 0 where
  pub entries : map.FinMap nat_cmp X
  pub below : (k : ℕ) → k < n → map.get entries k ≡ f k
  pub within : (k : ℕ) (x : X) → map.get entries k ≡ Some x → k < n

module _ {X : Type 0} (f : ℕ → Option X) where
  -- a key that the map can't have
  none_at : (n : ℕ) (entries : map.FinMap nat_cmp X) → ((k : ℕ) (x : X) → map.get entries k ≡ Some x → k < n) → map.get entries n ≡ None
  none_at n entries within = by_answer (map.get entries n) refl
    where
      by_answer : (o : Option X) → map.get entries n ≡ o → map.get entries n ≡ None
      by_answer None e = e
      by_answer (Some x) e = let past = within n x e in absurd (omega (arith, past))

  insert_same : (entries : map.FinMap nat_cmp X) (n k : ℕ) (x : X) → k ≡ n → map.get (map.insert entries n x) k ≡ Some x
  insert_same entries n k x e = map.get-insert nat_cmp_total entries n x k ∙ ap (λ b. cond b (Some x) (map.get entries k)) (unsigned_tied k n ∙ is k n e)
    where
      is : (k n : ℕ) → k ≡ n → (k == n) ≡ true
      is k n e = grind (arith, e)

  insert_other : (entries : map.FinMap nat_cmp X) (n k : ℕ) (x : X) → ¬ (k ≡ n) → map.get (map.insert entries n x) k ≡ map.get entries k
  insert_other entries n k x other = map.get-insert nat_cmp_total entries n x k ∙ ap (λ b. cond b (Some x) (map.get entries k)) (unsigned_tied k n ∙ is k n other)
    where
      is : (k n : ℕ) → ¬ (k ≡ n) → (k == n) ≡ false
      is k n other = grind (arith, other)

  skipped : (n : ℕ) → f n ≡ None → MapBelow n f → MapBelow (suc n) f
  skipped n none lower = record {
    entries = lower.entries;
    below = λ k small. by_key k small (ℕ_discrete k n);
    within = λ k x e. let small = lower.within k x e in omega (arith, small);
  }
    where
      by_key : (k : ℕ) → k < suc n → Dec (k ≡ n) → map.get lower.entries k ≡ f k
      by_key k small (yes e) = ap (map.get lower.entries) e ∙ none_at n lower.entries lower.within ∙ sym none ∙ sym (ap f e)
      by_key k small (no other) = lower.below k (omega (arith, small, other))

  added : (n : ℕ) (x : X) → f n ≡ Some x → MapBelow n f → MapBelow (suc n) f
  added n x is lower = record {
    entries = map.insert lower.entries n x;
    below = λ k small. by_key k small (ℕ_discrete k n);
    within = λ k y e. kept k y e (ℕ_discrete k n);
  }
    where
      by_key : (k : ℕ) → k < suc n → Dec (k ≡ n) → map.get (map.insert lower.entries n x) k ≡ f k
      by_key k small (yes e) = insert_same lower.entries n k x e ∙ sym is ∙ sym (ap f e)
      by_key k small (no other) = insert_other lower.entries n k x other ∙ lower.below k (omega (arith, small, other))

      kept : (k : ℕ) (y : X) → map.get (map.insert lower.entries n x) k ≡ Some y → Dec (k ≡ n) → k < suc n
      kept k y e (yes same) = omega (arith, same)
      kept k y e (no other) = let small = lower.within k y (sym (insert_other lower.entries n k x other) ∙ e) in omega (arith, small)

  pub map_below : (n : ℕ) → MapBelow n f
  map_below zero = record {
    entries = map.empty;
    below = λ k small. absurd (omega (arith, small));
    within = λ k x e. absurd (none-some x (sym (map.get-empty nat_cmp k) ∙ e));
  }
  map_below (suc n) = by_value (f n) refl (map_below n)
    where
      by_value : (o : Option X) → f n ≡ o → MapBelow n f → MapBelow (suc n) f
      by_value None e lower = skipped n e lower
      by_value (Some x) e lower = added n x e lower

-- each of the numbers that pass a test goes with something, so a list goes with the list of them
pub zipped : {Y : Type 0} (R : ℕ → Y → Type 0) (p : ℕ → Bool) (limit : ℕ) → ((k : ℕ) → k < limit → IsTrue (p k) → (y : Y) × R k y)
    → (from many : ℕ) → from + many ≡ limit → (ys : List Y) × AllZip R (filter p (range_with_len from many)) ys
zipped {Y = Y} R p limit each from zero all = ([], tt)
zipped {Y = Y} R p limit each from (suc many) all = by_test (p from) refl (zipped R p limit each (from + 1) many (omega (arith, all)))
  where
    by_test : (b : Bool) → p from ≡ b → (ys : List Y) × AllZip R (filter p (range_with_len (from + 1) many)) ys
        → (ys : List Y) × AllZip R (cond b (from ∷ filter p (range_with_len (from + 1) many)) (filter p (range_with_len (from + 1) many))) ys
    by_test false e rest = rest
    by_test true e rest = let first = each from (omega (arith, all)) e in (first.0 ∷ rest.0, (first.1, rest.1))
