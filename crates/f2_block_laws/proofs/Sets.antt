-- The set of a list of numbers, and the list with each of them once.
use Rattle.std.proofs.Common.{◌≡◌, ◌≢◌, ◌⊎◌, inl, inr, ℕ, ◌+◌, Bool, true, false, cond, List, [], ◌∷◌, length, refl, sym, ◌∙◌, subst, arith, true≢false}
use Rattle.std.specs.Ordering.{nat_cmp, eq_by_cmp}
use Rattle.std.specs.Cmp.{nat_cmp_total}
use Rattle.std.specs.FinSet as set
use Rattle.std.proofs.lemmas.Bool.Decides.{nat_tests}
use Rattle.f2_image.specs.Reached.{AllDiffer}
use Rattle.f2_block_laws.proofs.Members.{IsIn, in_any, from_any, all_from}

-- numbers that are tied are the same
pub tied_same : (q k : ℕ) → eq_by_cmp nat_cmp q k ≡ true → q ≡ k
tied_same q k tied = grind (arith, nat_tests)

pub tied_itself : (n : ℕ) → eq_by_cmp nat_cmp n n ≡ true
tied_itself n = grind (arith, nat_tests)

abbrev set_of : List ℕ → set.FinSet nat_cmp
set_of xs = set.from_list {R = nat_cmp} xs

-- a set has the numbers of its list
pub from_set : (xs : List ℕ) (n : ℕ) → set.contains (set_of xs) n ≡ true → IsIn n xs
from_set xs n has =
    let found = from_any (eq_by_cmp nat_cmp n) xs (sym (set.contains-from_list nat_cmp_total xs n) ∙ has) in
    subst (λ m. IsIn m xs) (sym (tied_same n found.0 found.2)) found.1

pub in_set : (xs : List ℕ) (n : ℕ) → IsIn n xs → set.contains (set_of xs) n ≡ true
in_set xs n there = set.contains-from_list nat_cmp_total xs n ∙ in_any (eq_by_cmp nat_cmp n) n xs (tied_itself n) there

-- each number of a list once
abbrev pub once_each : List ℕ → List ℕ
once_each [] = []
once_each (x ∷ xs) = cond (set.contains (set_of xs) x) (once_each xs) (x ∷ once_each xs)

pub in_once : (n : ℕ) (xs : List ℕ) → IsIn n xs → IsIn n (once_each xs)
in_once n [] h = absurd h
in_once n (x ∷ xs) h = by_test (in_once n xs) (set.contains (set_of xs) x) refl h
  where
    by_test : (IsIn n xs → IsIn n (once_each xs)) → (b : Bool) → set.contains (set_of xs) x ≡ b → (n ≡ x) ⊎ IsIn n xs → IsIn n (cond b (once_each xs) (x ∷ once_each xs))
    by_test rest true is (inl e) = rest (subst (λ m. IsIn m xs) (sym e) (from_set xs x is))
    by_test rest true is (inr later) = rest later
    by_test rest false is (inl e) = inl e
    by_test rest false is (inr later) = inr (rest later)

pub from_once : (n : ℕ) (xs : List ℕ) → IsIn n (once_each xs) → IsIn n xs
from_once n [] h = absurd h
from_once n (x ∷ xs) h = by_test (from_once n xs) (set.contains (set_of xs) x) h
  where
    by_test : (IsIn n (once_each xs) → IsIn n xs) → (b : Bool) → IsIn n (cond b (once_each xs) (x ∷ once_each xs)) → (n ≡ x) ⊎ IsIn n xs
    by_test rest true later = inr (rest later)
    by_test rest false (inl e) = inl e
    by_test rest false (inr later) = inr (rest later)

pub once_differ : (xs : List ℕ) → AllDiffer (once_each xs)
once_differ [] = tt
once_differ (x ∷ xs) = by_test (once_differ xs) (set.contains (set_of xs) x) refl
  where
    by_test : AllDiffer (once_each xs) → (b : Bool) → set.contains (set_of xs) x ≡ b → AllDiffer (cond b (once_each xs) (x ∷ once_each xs))
    by_test rest true is = rest
    by_test rest false is = (all_from (λ y. x ≢ y) (once_each xs) (λ y there same. true≢false (sym (in_set xs x (subst (λ m. IsIn m xs) (sym same) (from_once y xs there))) ∙ is)), rest)

-- a set has as many members
pub length-once : (xs : List ℕ) → length (once_each xs) ≡ set.len (set_of xs)
length-once [] = sym (set.len-empty nat_cmp)
length-once (x ∷ xs) = by_test (length-once xs) (set.contains (set_of xs) x) ∙ sym (set.len-insert nat_cmp_total (set_of xs) x)
  where
    by_test : length (once_each xs) ≡ set.len (set_of xs) → (b : Bool) → length (cond b (once_each xs) (x ∷ once_each xs)) ≡ cond b (set.len (set_of xs)) (set.len (set_of xs) + 1)
    by_test rest true = rest
    by_test rest false = omega (arith, rest)
