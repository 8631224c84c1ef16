-- Lists whose members differ.
use Rattle.std.proofs.Common.{◌≡◌, ◌≢◌, inl, inr, suc, ◌≤◌, List, [], ◌∷◌, ◌++◌, length, refl, sym, ap, ◌∙◌, arith}
use Rattle.std.specs.List.{AllByRecursion}
use Rattle.std.specs.List.Sorted.{IsStrictlySortedBy}
use Rattle.std.specs.Cmp.{IsTotalOrder, tied_itself}
use Rattle.std.specs.declared.cmp.Ordering.{Ordering}
use Rattle.std.specs.declared.cmp.Ordering.TheVariants.{Less, Equal}
use Rattle.f2_image.specs.Reached.{AllDiffer}
use Rattle.f2_block_laws.proofs.Members.{IsIn, of_all}

all_front : {X : Type 0} (P : X → Type 0) (xs ys : List X) → AllByRecursion P (xs ++ ys) → AllByRecursion P xs
all_front P [] ys all = tt
all_front P (x ∷ xs) ys all = (all.0, all_front P xs ys all.1)

all_back : {X : Type 0} (P : X → Type 0) (xs ys : List X) → AllByRecursion P (xs ++ ys) → AllByRecursion P ys
all_back P [] ys all = all
all_back P (x ∷ xs) ys all = all_back P xs ys all.1

pub differ_front : {X : Type 0} (xs ys : List X) → AllDiffer (xs ++ ys) → AllDiffer xs
differ_front [] ys differ = tt
differ_front (x ∷ xs) ys differ = (all_front (λ y. x ≢ y) xs ys differ.0, differ_front xs ys differ.1)

pub differ_back : {X : Type 0} (xs ys : List X) → AllDiffer (xs ++ ys) → AllDiffer ys
differ_back [] ys differ = differ
differ_back (x ∷ xs) ys differ = differ_back xs ys differ.1

-- a member of the front is none of the rest
pub differ_across : {X : Type 0} (xs ys : List X) → AllDiffer (xs ++ ys) → (x y : X) → IsIn x xs → IsIn y ys → x ≢ y
differ_across [] ys differ x y here there = absurd here
differ_across (z ∷ xs) ys differ x y (inl e) there = λ same. of_all (λ w. z ≢ w) y ys (all_back (λ w. z ≢ w) xs ys differ.0) there (sym e ∙ same)
differ_across (z ∷ xs) ys differ x y (inr here) there = differ_across xs ys differ.1 x y here there

-- members that rise differ
module _ {K : Type 0} {R : K → K → Ordering} (o : IsTotalOrder R) where
  less_differ : (x y : K) → R x y ≡ Less → x ≢ y
  less_differ x y less same =
      let tied : R x y ≡ Equal = ap (R x) (sym same) ∙ tied_itself o x in
      let bad : Less ≡ Equal = sym less ∙ tied in
      cc

  above_differ : (x : K) (ys : List K) → AllByRecursion (λ y. R x y ≡ Less) ys → AllByRecursion (λ y. x ≢ y) ys
  above_differ x [] above = tt
  above_differ x (y ∷ ys) above = (less_differ x y above.0, above_differ x ys above.1)

  pub rising_differ : (xs : List K) → IsStrictlySortedBy R xs → AllDiffer xs
  unfolding IsStrictlySortedBy
  rising_differ [] rises = tt
  rising_differ (x ∷ xs) rises = (above_differ x xs rises.0, rising_differ xs rises.1)

-- a list without a member at its place
without : {X : Type 0} (x : X) (xs : List X) → IsIn x xs → List X
without x [] h = absurd h
without x (y ∷ xs) (inl e) = xs
without x (y ∷ xs) (inr h) = y ∷ without x xs h

length-without : {X : Type 0} (x : X) (xs : List X) (h : IsIn x xs) → length xs ≡ suc (length (without x xs h))
unfolding without
length-without x [] h = absurd h
length-without x (y ∷ xs) (inl e) = refl
length-without x (y ∷ xs) (inr h) = ap (λ n. suc n) (length-without x xs h)

still_in : {X : Type 0} (x : X) (xs : List X) (h : IsIn x xs) (y : X) → x ≢ y → IsIn y xs → IsIn y (without x xs h)
unfolding without
still_in x [] h y other there = absurd h
still_in x (z ∷ xs) (inl e) y other (inl f) = absurd (other (e ∙ sym f))
still_in x (z ∷ xs) (inl e) y other (inr there) = there
still_in x (z ∷ xs) (inr h) y other (inl f) = inl f
still_in x (z ∷ xs) (inr h) y other (inr there) = inr (still_in x xs h y other there)

all_still_in : {X : Type 0} (x : X) (xs : List X) (h : IsIn x xs) (ys : List X) → AllByRecursion (λ y. x ≢ y) ys → AllByRecursion (λ y. IsIn y xs) ys → AllByRecursion (λ y. IsIn y (without x xs h)) ys
all_still_in x xs h [] other there = tt
all_still_in x xs h (y ∷ ys) other there = (still_in x xs h y other.0 there.0, all_still_in x xs h ys other.1 there.1)

-- things that differ are no more than a list that has them all is long
pub no_more : {X : Type 0} (few all : List X) → AllDiffer few → AllByRecursion (λ x. IsIn x all) few → length few ≤ length all
no_more [] all differ there = omega arith
no_more (x ∷ few) all differ there =
    let rest = no_more few (without x all there.0) differ.1 (all_still_in x all there.0 few differ.0 there.1) in
    let one = length-without x all there.0 in
    omega (arith, rest, one)
