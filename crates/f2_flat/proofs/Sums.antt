-- Sums over lists.
use Rattle.std.proofs.Common.{◌≡◌, ◌≢◌, inl, inr, ℕ, ◌+◌, ◌*◌, ◌≤◌, Bool, true, false, cond, List, [], ◌∷◌, length, map as map_list, refl, sym, ap, ◌∙◌, arith}
use Rattle.std.specs.List.{AllByRecursion, filter, sum_by}
use Rattle.std.proofs.lemmas.List.Sums.{sum_by-cons}
use Rattle.f2_image.specs.Reached.{AllDiffer}
use Rattle.f2_laid_laws.proofs.Members.{IsIn}

-- each member counts the same
pub sum_same : {X : Type 0} (f : X → ℕ) (n : ℕ) (xs : List X) → AllByRecursion (λ x. f x ≡ n) xs → sum_by f xs ≡ length xs * n
sum_same f n [] all = omega arith
sum_same f n (x ∷ xs) all =
    let rest = sum_same f n xs all.1 in
    let one : f x ≡ n = all.0 in
    let sum = sum_by-cons f x xs in
    let more : length (x ∷ xs) * n ≡ n + length xs * n = grind arith in
    omega (arith, rest, one, sum, more)

-- each member counts as much by one measure as by another
pub sum_agrees : {X : Type 0} (f g : X → ℕ) (xs : List X) → AllByRecursion (λ x. f x ≡ g x) xs → sum_by f xs ≡ sum_by g xs
sum_agrees f g [] all = refl
sum_agrees f g (x ∷ xs) all =
    let rest = sum_agrees f g xs all.1 in
    let one : f x ≡ g x = all.0 in
    omega (arith, rest, one, sum_by-cons f x xs, sum_by-cons g x xs)

-- no member counts more than so much
pub sum_most : {X : Type 0} (f : X → ℕ) (n : ℕ) (xs : List X) → AllByRecursion (λ x. f x ≤ n) xs → sum_by f xs ≤ length xs * n
sum_most f n [] all = omega arith
sum_most f n (x ∷ xs) all =
    let rest = sum_most f n xs all.1 in
    let one : f x ≤ n = all.0 in
    let sum = sum_by-cons f x xs in
    let more : length (x ∷ xs) * n ≡ n + length xs * n = grind arith in
    omega (arith, rest, one, sum, more)

pub sum_mapped : {X Y : Type 0} (g : X → Y) (f : Y → ℕ) (xs : List X) → sum_by f (map_list g xs) ≡ sum_by (λ x. f (g x)) xs
sum_mapped g f [] = refl
sum_mapped g f (x ∷ xs) = omega (arith, sum_mapped g f xs, sum_by-cons f (g x) (map_list g xs), sum_by-cons (λ y. f (g y)) x xs)

pub sum_filtered : {X : Type 0} (p : X → Bool) (f : X → ℕ) (xs : List X) → sum_by f (filter p xs) ≤ sum_by f xs
sum_filtered p f [] = omega arith
sum_filtered p f (x ∷ xs) = by_test (p x) (sum_filtered p f xs)
  where
    by_test : (b : Bool) → sum_by f (filter p xs) ≤ sum_by f xs → sum_by f (cond b (x ∷ filter p xs) (filter p xs)) ≤ sum_by f (x ∷ xs)
    by_test true rest = omega (arith, rest, sum_by-cons f x (filter p xs), sum_by-cons f x xs)
    by_test false rest = omega (arith, rest, sum_by-cons f x xs)

-- a list without a member at its place
without : {X : Type 0} (x : X) (xs : List X) → IsIn x xs → List X
without x [] h = absurd h
without x (y ∷ xs) (inl e) = xs
without x (y ∷ xs) (inr h) = y ∷ without x xs h

sum_without : {X : Type 0} (f : X → ℕ) (x : X) (xs : List X) (h : IsIn x xs) → sum_by f xs ≡ f x + sum_by f (without x xs h)
unfolding without
sum_without f x [] h = absurd h
sum_without f x (y ∷ xs) (inl e) = let same : f x ≡ f y = ap f e in omega (arith, same, sum_by-cons f y xs)
sum_without f x (y ∷ xs) (inr h) = omega (arith, sum_without f x xs h, sum_by-cons f y xs, sum_by-cons f y (without x xs h))

still_in : {X : Type 0} (x : X) (xs : List X) (h : IsIn x xs) (y : X) → x ≢ y → IsIn y xs → IsIn y (without x xs h)
unfolding without
still_in x [] h y other there = absurd h
still_in x (z ∷ xs) (inl e) y other (inl f) = absurd (other (e ∙ sym f))
still_in x (z ∷ xs) (inl e) y other (inr there) = there
still_in x (z ∷ xs) (inr h) y other (inl f) = inl f
still_in x (z ∷ xs) (inr h) y other (inr there) = inr (still_in x xs h y other there)

all_still_in : {X : Type 0} (x : X) (xs : List X) (h : IsIn x xs) (ys : List X) → AllByRecursion (λ y. x ≢ y) ys → AllByRecursion (λ y. IsIn y xs) ys → AllByRecursion (λ y. IsIn y (without x xs h)) ys
all_still_in x xs h [] other there = tt
all_still_in x xs h (y ∷ ys) other there = (still_in x xs h y other.0 there.0, all_still_in x xs h ys other.1 there.1)

-- things that differ count no more than a list that has them all
pub sum_few : {X : Type 0} (f : X → ℕ) (few all : List X) → AllDiffer few → AllByRecursion (λ x. IsIn x all) few → sum_by f few ≤ sum_by f all
sum_few f [] all differ there = omega arith
sum_few f (x ∷ few) all differ there =
    let rest = sum_few f few (without x all there.0) differ.1 (all_still_in x all there.0 few differ.0 there.1) in
    omega (arith, rest, sum_without f x all there.0, sum_by-cons f x few)
