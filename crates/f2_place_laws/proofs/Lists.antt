-- What stands in a list, and lists of different things that are no longer than another.
use Rattle.std.proofs.Common.{◌≡◌, ◌≢◌, ◌⊎◌, inl, inr, ℕ, zero, suc, ◌+◌, ◌<◌, ◌≤◌, Bool, true, false, cond, List, [], ◌∷◌, length, map, filter, refl, sym, ap, ◌∙◌, subst, arith}
use Rattle.std.specs.Prelude.{Some}
use Rattle.std.specs.List.{AllByRecursion, range_with_len, slice_get}
use Rattle.f2_image.specs.Reached.{AllDiffer}

-- a thing stands in a list
abbrev pub IsIn : {X : Type 0} → X → List X → Type 0
IsIn x [] = ⊥
IsIn x (y ∷ ys) = (x ≡ y) ⊎ IsIn x ys

pub in_map : {X Y : Type 0} (f : X → Y) (x : X) (xs : List X) → IsIn x xs → IsIn (f x) (map f xs)
in_map f x [] h = absurd h
in_map f x (y ∷ xs) (inl e) = inl (ap f e)
in_map f x (y ∷ xs) (inr h) = inr (in_map f x xs h)

pub in_filter : {X : Type 0} (p : X → Bool) (x : X) (xs : List X) → p x ≡ true → IsIn x xs → IsIn x (filter p xs)
in_filter p x [] passes h = absurd h
in_filter p x (y ∷ xs) passes (inl e) =
    let kept : cond (p y) (y ∷ filter p xs) (filter p xs) ≡ y ∷ filter p xs = ap (λ b. cond b (y ∷ filter p xs) (filter p xs)) (ap p (sym e) ∙ passes) in
    subst (IsIn x) (sym kept) (inl e)
in_filter p x (y ∷ xs) passes (inr h) = by_test (in_filter p x xs passes h) (p y)
  where
    by_test : IsIn x (filter p xs) → (b : Bool) → IsIn x (cond b (y ∷ filter p xs) (filter p xs))
    by_test rest true = inr rest
    by_test rest false = rest

pub from_filter : {X : Type 0} (p : X → Bool) (x : X) (xs : List X) → IsIn x (filter p xs) → (p x ≡ true) × IsIn x xs
from_filter p x [] h = absurd h
from_filter p x (y ∷ xs) h = by_test (from_filter p x xs) (p y) refl h
  where
    by_test : (IsIn x (filter p xs) → (p x ≡ true) × IsIn x xs) → (b : Bool) → p y ≡ b → IsIn x (cond b (y ∷ filter p xs) (filter p xs)) → (p x ≡ true) × ((x ≡ y) ⊎ IsIn x xs)
    by_test rest true is (inl e) = (ap p e ∙ is, inl e)
    by_test rest true is (inr h) = let more = rest h in (more.0, inr more.1)
    by_test rest false is h = let more = rest h in (more.0, inr more.1)

first_or_later : (a k : ℕ) → a ≤ k → (k ≡ a) ⊎ (a + 1 ≤ k)
first_or_later a k low = grind (arith, low)

pub in_range : (a n k : ℕ) → a ≤ k → k < a + n → IsIn k (range_with_len a n)
in_range a zero k low high = absurd (omega arith)
in_range a (suc n) k low high = by_place (λ more. in_range (a + 1) n k more (omega (arith, high))) (first_or_later a k low)
  where
    by_place : (a + 1 ≤ k → IsIn k (range_with_len (a + 1) n)) → (k ≡ a) ⊎ (a + 1 ≤ k) → (k ≡ a) ⊎ IsIn k (range_with_len (a + 1) n)
    by_place rest (inl same) = inl same
    by_place rest (inr more) = inr (rest more)

pub from_range : (a n k : ℕ) → IsIn k (range_with_len a n) → (a ≤ k) × (k < a + n)
from_range a zero k h = absurd h
from_range a (suc n) k (inl e) = (omega arith, omega arith)
from_range a (suc n) k (inr h) = let rest = from_range (a + 1) n k h in (omega (arith, rest.0), omega (arith, rest.1))

-- what is found at a place of a list stands in it, and what stands in it is found at a place
pub in_list : {X : Type 0} (xs : List X) (i : ℕ) (x : X) → slice_get xs i ≡ Some x → IsIn x xs
in_list [] i x h = absurd (cc)
in_list (y ∷ xs) zero x h = let same : y ≡ x = cc in inl (sym same)
in_list (y ∷ xs) (suc i) x h = inr (in_list xs i x h)

pub place_in : {X : Type 0} (xs : List X) (x : X) → IsIn x xs → (i : ℕ) × (slice_get xs i ≡ Some x)
place_in [] x h = absurd h
place_in (y ∷ xs) x (inl e) = (0, ap Some (sym e))
place_in (y ∷ xs) x (inr h) = let rest = place_in xs x h in (suc rest.0, rest.1)

-- what a map of a list has at a place
pub map_at : {X Y : Type 0} (f : X → Y) (xs : List X) (i : ℕ) (x : X) → slice_get xs i ≡ Some x → slice_get (map f xs) i ≡ Some (f x)
map_at f [] i x h = absurd (cc)
map_at f (y ∷ xs) zero x h = let same : y ≡ x = cc in ap (λ z. Some (f z)) same
map_at f (y ∷ xs) (suc i) x h = map_at f xs i x h

pub from_map_at : {X Y : Type 0} (f : X → Y) (xs : List X) (i : ℕ) (y : Y) → slice_get (map f xs) i ≡ Some y → (x : X) × (slice_get xs i ≡ Some x) × (f x ≡ y)
from_map_at f [] i y h = absurd (cc)
from_map_at f (z ∷ xs) zero y h = (z, refl, cc)
from_map_at f (z ∷ xs) (suc i) y h = from_map_at f xs i y h

pub all_of : {X : Type 0} (P Q : X → Type 0) → ((x : X) → P x → Q x) → (xs : List X) → AllByRecursion P xs → AllByRecursion Q xs
all_of P Q each [] all = tt
all_of P Q each (x ∷ xs) all = (each x all.0, all_of P Q each xs all.1)

-- what holds of each thing of a list
pub each_in : {X : Type 0} (P : X → Type 0) (xs : List X) → ((x : X) → IsIn x xs → P x) → AllByRecursion P xs
each_in P [] each = tt
each_in P (x ∷ xs) each = (each x (inl refl), each_in P xs (λ y there. each y (inr there)))

pub one_in : {X : Type 0} (P : X → Type 0) (xs : List X) (x : X) → AllByRecursion P xs → IsIn x xs → P x
one_in P [] x all h = absurd h
one_in P (y ∷ xs) x all (inl e) = subst P (sym e) all.0
one_in P (y ∷ xs) x all (inr h) = one_in P xs x all.1 h

-- a list without a member at its place
without : {X : Type 0} (x : X) (xs : List X) → IsIn x xs → List X
without x [] h = absurd h
without x (y ∷ xs) (inl e) = xs
without x (y ∷ xs) (inr h) = y ∷ without x xs h

length-without : {X : Type 0} (x : X) (xs : List X) (h : IsIn x xs) → length xs ≡ suc (length (without x xs h))
unfolding without
length-without x [] h = absurd h
length-without x (y ∷ xs) (inl e) = refl
length-without x (y ∷ xs) (inr h) = ap (λ n. suc n) (length-without x xs h)

still_in : {X : Type 0} (x : X) (xs : List X) (h : IsIn x xs) (y : X) → x ≢ y → IsIn y xs → IsIn y (without x xs h)
unfolding without
still_in x [] h y other there = absurd h
still_in x (z ∷ xs) (inl e) y other (inl f) = absurd (other (e ∙ sym f))
still_in x (z ∷ xs) (inl e) y other (inr there) = there
still_in x (z ∷ xs) (inr h) y other (inl f) = inl f
still_in x (z ∷ xs) (inr h) y other (inr there) = inr (still_in x xs h y other there)

all_still_in : {X : Type 0} (x : X) (xs : List X) (h : IsIn x xs) (ys : List X) → AllByRecursion (λ y. x ≢ y) ys → AllByRecursion (λ y. IsIn y xs) ys → AllByRecursion (λ y. IsIn y (without x xs h)) ys
all_still_in x xs h [] other there = tt
all_still_in x xs h (y ∷ ys) other there = (still_in x xs h y other.0 there.0, all_still_in x xs h ys other.1 there.1)

-- things that differ are no more than a list that has them all is long
pub no_more : {X : Type 0} (few all : List X) → AllDiffer few → AllByRecursion (λ x. IsIn x all) few → length few ≤ length all
no_more [] all differ there = omega arith
no_more (x ∷ few) all differ there =
    let rest = no_more few (without x all there.0) differ.1 (all_still_in x all there.0 few differ.0 there.1) in
    let one = length-without x all there.0 in
    omega (arith, rest, one)
