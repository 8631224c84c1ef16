-- Pairs in their order: the first from an ino on, and the first of a file.
use Rattle.std.proofs.Common.{◌≡◌, ◌≢◌, ℕ, ◌<◌, ◌≤◌, Bool, true, false, cond, not, ◌==◌, List, [], ◌∷◌, refl, sym, ap, ◌∙◌, arith, true≢false, Bor}
use Rattle.std.specs.Prelude.{Option, Some, None, MatchOption, nat_lt}
use Rattle.std.specs.Option.{option_copied}
use Rattle.std.specs.List.{find, filter, AllByRecursion}
use Rattle.std.specs.List.Sorted.{IsStrictlySortedBy}
use Rattle.std.specs.Ordering.{is_lt, is_le}
use Rattle.std.specs.declared.cmp.Ordering.TheVariants.{Less}
use Rattle.std.proofs.lemmas.Bool.{ltb-true, ltb-false, ne_eqb, eq-eqb}
use Rattle.std.proofs.lemmas.Bool.Decides.{nat_tests}
use Rattle.f2_model.specs.Goes.{second_of}
use Rattle.f2_model.specs.State.{pair_cmp}

abbrev pub Pair : Type 0
Pair = ℕ × ℕ

abbrev pub from_ino : ℕ → Pair → Bool
from_ino ino pair = not (nat_lt pair.0 ino)

pub from_start : (ino : ℕ) (q : Pair) → is_le (pair_cmp (ino, 0) q) ≡ from_ino ino q
from_start ino q = grind (arith, nat_tests)

abbrev first_of : List Pair → Option Pair
first_of [] = None
first_of (x ∷ xs) = Some x

-- the first that passes is the first of those that pass
found_first : (p : Pair → Bool) (xs : List Pair) → first_of (filter p xs) ≡ find p xs
found_first p [] = refl
found_first p (x ∷ xs) = by_test (p x) (found_first p xs)
  where
    by_test : (b : Bool) → first_of (filter p xs) ≡ find p xs → first_of (cond b (x ∷ filter p xs) (filter p xs)) ≡ cond b (Some x) (find p xs)
    by_test true rest = refl
    by_test false rest = rest

pub found_same : (p q : Pair → Bool) → ((x : Pair) → p x ≡ q x) → (xs : List Pair) → find p xs ≡ find q xs
found_same p q same [] = refl
found_same p q same (x ∷ xs) = ap (λ b. cond b (Some x) (find p xs)) (same x) ∙ ap (cond (q x) (Some x)) (found_same p q same xs)

pub filter_same : (p q : Pair → Bool) → ((x : Pair) → p x ≡ q x) → (xs : List Pair) → filter p xs ≡ filter q xs
filter_same p q same [] = refl
filter_same p q same (x ∷ xs) = ap (λ b. cond b (x ∷ filter p xs) (filter p xs)) (same x) ∙ ap (λ ys. cond (q x) (x ∷ ys) ys) (filter_same p q same xs)

pub next_first : (r : Option (Bor Pair)) (s t : List Pair) → MatchOption r ((s ≡ []) × (t ≡ [])) (λ x. s ≡ x.now ∷ t) → option_copied r ≡ first_of s
next_first None s t h = ap first_of (sym h.0)
next_first (Some x) s t h = ap first_of (sym h)

pub next_found : (r : Option (Bor Pair)) (s t : List Pair) → MatchOption r ((s ≡ []) × (t ≡ [])) (λ x. s ≡ x.now ∷ t) → (p : Pair → Bool) (xs : List Pair) → s ≡ filter p xs → option_copied r ≡ find p xs
next_found r s t h p xs is = next_first r s t h ∙ ap first_of is ∙ found_first p xs

-- a pair behind another one in the order has no lesser ino
pub not_less : (x y : Pair) → pair_cmp x y ≡ Less → x.0 ≤ y.0
not_less x y h = by_test (nat_lt y.0 x.0) refl
  where
    by_test : (b : Bool) → nat_lt y.0 x.0 ≡ b → x.0 ≤ y.0
    by_test false is = ltb-false y.0 x.0 is
    by_test true is = absurd (true≢false (sym (ap is_lt h) ∙ greater))
      where
        greater : is_lt (pair_cmp x y) ≡ false
        greater = grind (arith, nat_tests)

keep_if : ℕ → Option Pair → Option Pair
keep_if ino None = None
keep_if ino (Some pair) = cond (pair.0 == ino) (Some pair) None

none_behind : (ino : ℕ) (x : Pair) (xs : List Pair) → ino < x.0 → AllByRecursion (λ y. pair_cmp x y ≡ Less) xs → find (λ (pair : Pair). pair.0 == ino) xs ≡ None
none_behind ino x [] above behind = refl
none_behind ino x (y ∷ ys) above behind =
    let less = not_less x y behind.0 in
    ap (λ b. cond b (Some y) (find (λ (pair : Pair). pair.0 == ino) ys)) (ne_eqb y.0 ino (λ same. omega (arith, above, less, same))) ∙ none_behind ino x ys above behind.1

-- the first of a file is the first from its ino on, where that is one of it
first_is : (ino : ℕ) (xs : List Pair) → IsStrictlySortedBy pair_cmp xs → find (λ (pair : Pair). pair.0 == ino) xs ≡ keep_if ino (find (from_ino ino) xs)
unfolding IsStrictlySortedBy keep_if
first_is ino [] sorted = refl
first_is ino (x ∷ xs) sorted = by_below (first_is ino xs sorted.1) (nat_lt x.0 ino) refl
  where
    by_same : (b : Bool) → (x.0 == ino) ≡ b → ino ≤ x.0 → cond b (Some x) (find (λ (pair : Pair). pair.0 == ino) xs) ≡ cond b (Some x) None
    by_same true is above = refl
    by_same false is above = none_behind ino x xs (grind (arith, nat_tests)) sorted.0

    by_below : find (λ (pair : Pair). pair.0 == ino) xs ≡ keep_if ino (find (from_ino ino) xs) → (b : Bool) → nat_lt x.0 ino ≡ b → cond (x.0 == ino) (Some x) (find (λ (pair : Pair). pair.0 == ino) xs) ≡ keep_if ino (cond (not b) (Some x) (find (from_ino ino) xs))
    by_below rest true is = let less = ltb-true x.0 ino is in ap (λ b. cond b (Some x) (find (λ (pair : Pair). pair.0 == ino) xs)) (ne_eqb x.0 ino (λ same. omega (arith, less, same))) ∙ rest
    by_below rest false is = by_same (x.0 == ino) refl (ltb-false x.0 ino is)

module _ (ino : ℕ) (xs : List Pair) (sorted : IsStrictlySortedBy pair_cmp xs) where
  pub least_none : find (from_ino ino) xs ≡ None → None ≡ second_of (find (λ pair. pair.0 == ino) xs)
  unfolding keep_if
  least_none h = sym (ap second_of (first_is ino xs sorted ∙ ap (keep_if ino) h))

  pub least_some : (pair : Pair) → find (from_ino ino) xs ≡ Some pair → pair.0 ≡ ino → Some pair.1 ≡ second_of (find (λ one. one.0 == ino) xs)
  unfolding keep_if
  least_some pair h same = sym (ap second_of (first_is ino xs sorted ∙ ap (keep_if ino) h ∙ ap (λ b. cond b (Some pair) None) (eq-eqb pair.0 ino same)))

  pub least_other : (pair : Pair) → find (from_ino ino) xs ≡ Some pair → pair.0 ≢ ino → None ≡ second_of (find (λ one. one.0 == ino) xs)
  unfolding keep_if
  least_other pair h apart = sym (ap second_of (first_is ino xs sorted ∙ ap (keep_if ino) h ∙ ap (λ b. cond b (Some pair) None) (ne_eqb pair.0 ino apart)))
