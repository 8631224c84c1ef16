-- What can be decided, and isn't false, holds.
use Rattle.std.proofs.Common.{◌≡◌, ◌≢◌, ℕ, ◌<◌, ◌≤◌, Bool, true, false, List, [], ◌∷◌, refl, sym, ap, true≢false, arith}
use Rattle.std.specs.Prelude.{Option, Some, None}
use Rattle.std.specs.List.{AllByRecursion}
use Rattle.std.proofs.lemmas.Option.{none-some}
use native.Mathlib.Decide.{ℕ_discrete, dec_lt}
use Rattle.f2_image.proofs.OneBase.{same_some}

-- a fact that isn't false
abbrev pub NotFalse : Type 0 → Type 0
NotFalse A = ¬ (¬ A)

pub decided : {A P : Type 0} → Dec P → NotFalse A → (A → P) → P
decided (yes p) known gives = p
decided (no none) known gives = absurd (known (λ a. none (gives a)))

pub not_false : {A B : Type 0} → NotFalse A → (A → B) → NotFalse B
not_false known gives none = known (λ a. none (gives a))

pub both_not_false : {A B : Type 0} → NotFalse A → NotFalse B → NotFalse (A × B)
both_not_false a b none = a (λ x. b (λ y. none (x, y)))

pub bool_is : (a b : Bool) → Dec (a ≡ b)
bool_is true true = yes refl
bool_is true false = no true≢false
bool_is false true = no (λ e. true≢false (sym e))
bool_is false false = yes refl

pub option_is : (o : Option ℕ) (m : ℕ) → Dec (o ≡ Some m)
option_is None m = no (λ e. none-some m e)
option_is (Some n) m = by_number (ℕ_discrete n m)
  where
    by_number : Dec (n ≡ m) → Dec (Some n ≡ Some m)
    by_number (yes e) = yes (ap Some e)
    by_number (no other) = no (λ e. other (same_some n m e))

-- numbers that aren't different are the same, and a number that isn't past another is at most that one
pub same_number : {A : Type 0} (a b : ℕ) → NotFalse A → (A → a ≡ b) → a ≡ b
same_number a b known gives = decided (ℕ_discrete a b) known gives

pub not_other : (a b : ℕ) → ¬ (a ≢ b) → a ≡ b
not_other a b none = decided (ℕ_discrete a b) none (λ same. same)

pub is_true : {A : Type 0} (b : Bool) → NotFalse A → (A → b ≡ true) → b ≡ true
is_true b known gives = decided (bool_is b true) known gives

pub at_most : (a b : ℕ) → ¬ (b < a) → a ≤ b
at_most a b none = by_order (dec_lt b a)
  where
    by_order : Dec (b < a) → a ≤ b
    by_order (yes more) = absurd (none more)
    by_order (no less) = omega (arith, less)

-- facts of the things of a list, none of which is false, are together not false
pub all_not_false : {X : Type 0} (P : X → Type 0) (xs : List X) → AllByRecursion (λ x. NotFalse (P x)) xs → NotFalse (AllByRecursion P xs)
all_not_false P [] all none = none tt
all_not_false P (x ∷ xs) all none = all.0 (λ p. all_not_false P xs all.1 (λ rest. none (p, rest)))
