-- What stands in a list.
use Rattle.std.proofs.Common.{◌≡◌, ◌⊎◌, inl, inr, ℕ, zero, suc, Bool, true, false, cond, ◌||◌, List, [], ◌∷◌, ◌++◌, map, refl, sym, ap, ◌∙◌, subst, true≢false}
use Rattle.std.specs.Prelude.{Some, Contains}
use Rattle.std.specs.List.{AllByRecursion, filter, flat_map, list_any, slice_get}
use Rattle.std.proofs.lemmas.Option.{slice_get-get_or, slice_get_within, get_or_from_slice_get}

-- a thing stands in a list
abbrev pub IsIn : {X : Type 0} → X → List X → Type 0
IsIn x [] = ⊥
IsIn x (y ∷ ys) = (x ≡ y) ⊎ IsIn x ys

pub in_left : {X : Type 0} (x : X) (xs ys : List X) → IsIn x xs → IsIn x (xs ++ ys)
in_left x [] ys h = absurd h
in_left x (y ∷ xs) ys (inl e) = inl e
in_left x (y ∷ xs) ys (inr h) = inr (in_left x xs ys h)

pub in_right : {X : Type 0} (x : X) (xs ys : List X) → IsIn x ys → IsIn x (xs ++ ys)
in_right x [] ys h = h
in_right x (y ∷ xs) ys h = inr (in_right x xs ys h)

pub in_either : {X : Type 0} (x : X) (xs ys : List X) → IsIn x (xs ++ ys) → IsIn x xs ⊎ IsIn x ys
in_either x [] ys h = inr h
in_either x (y ∷ xs) ys (inl e) = inl (inl e)
in_either x (y ∷ xs) ys (inr h) = by_rest (in_either x xs ys h)
  where
    by_rest : IsIn x xs ⊎ IsIn x ys → ((x ≡ y) ⊎ IsIn x xs) ⊎ IsIn x ys
    by_rest (inl here) = inl (inr here)
    by_rest (inr there) = inr there

pub in_map : {X Y : Type 0} (f : X → Y) (x : X) (xs : List X) → IsIn x xs → IsIn (f x) (map f xs)
in_map f x [] h = absurd h
in_map f x (y ∷ xs) (inl e) = inl (ap f e)
in_map f x (y ∷ xs) (inr h) = inr (in_map f x xs h)

-- what a map of a list has comes from a member
pub from_map : {X Y : Type 0} (f : X → Y) (y : Y) (xs : List X) → IsIn y (map f xs) → (x : X) × IsIn x xs × (f x ≡ y)
from_map f y [] h = absurd h
from_map f y (x ∷ xs) (inl e) = (x, inl refl, sym e)
from_map f y (x ∷ xs) (inr h) = let rest = from_map f y xs h in (rest.0, inr rest.1, rest.2)

pub in_flat_map : {X Y : Type 0} (f : X → List Y) (x : X) (y : Y) (xs : List X) → IsIn x xs → IsIn y (f x) → IsIn y (flat_map f xs)
in_flat_map f x y [] h here = absurd h
in_flat_map f x y (z ∷ xs) (inl e) here = in_left y (f z) (flat_map f xs) (subst (λ w. IsIn y (f w)) e here)
in_flat_map f x y (z ∷ xs) (inr h) here = in_right y (f z) (flat_map f xs) (in_flat_map f x y xs h here)

pub in_filter : {X : Type 0} (p : X → Bool) (x : X) (xs : List X) → p x ≡ true → IsIn x xs → IsIn x (filter p xs)
in_filter p x [] passes h = absurd h
in_filter p x (y ∷ xs) passes (inl e) =
    let kept : cond (p y) (y ∷ filter p xs) (filter p xs) ≡ y ∷ filter p xs = ap (λ b. cond b (y ∷ filter p xs) (filter p xs)) (ap p (sym e) ∙ passes) in
    subst (IsIn x) (sym kept) (inl e)
in_filter p x (y ∷ xs) passes (inr h) = by_test (in_filter p x xs passes h) (p y)
  where
    by_test : IsIn x (filter p xs) → (b : Bool) → IsIn x (cond b (y ∷ filter p xs) (filter p xs))
    by_test rest true = inr rest
    by_test rest false = rest

pub from_filter : {X : Type 0} (p : X → Bool) (x : X) (xs : List X) → IsIn x (filter p xs) → (p x ≡ true) × IsIn x xs
from_filter p x [] h = absurd h
from_filter p x (y ∷ xs) h = by_test (from_filter p x xs) (p y) refl h
  where
    by_test : (IsIn x (filter p xs) → (p x ≡ true) × IsIn x xs) → (b : Bool) → p y ≡ b → IsIn x (cond b (y ∷ filter p xs) (filter p xs)) → (p x ≡ true) × ((x ≡ y) ⊎ IsIn x xs)
    by_test rest true is (inl e) = (ap p e ∙ is, inl e)
    by_test rest true is (inr h) = let more = rest h in (more.0, inr more.1)
    by_test rest false is h = let more = rest h in (more.0, inr more.1)

-- what is found at a place of a list stands in it
pub in_list : {X : Type 0} (xs : List X) (i : ℕ) (x : X) → slice_get xs i ≡ Some x → IsIn x xs
in_list [] i x h = absurd (cc)
in_list (y ∷ xs) zero x h = let same : y ≡ x = cc in inl (sym same)
in_list (y ∷ xs) (suc i) x h = inr (in_list xs i x h)

-- a member has a place
pub place_of : {X : Type 0} (x : X) (xs : List X) → IsIn x xs → (i : ℕ) × (slice_get xs i ≡ Some x)
place_of x [] h = absurd h
place_of x (y ∷ ys) (inl e) = (0, ap Some (sym e))
place_of x (y ∷ ys) (inr h) = let rest = place_of x ys h in (suc rest.0, rest.1)

-- a test that ties the same things alone finds a member
pub from_any : {X : Type 0} (test : X → Bool) (xs : List X) → list_any test xs ≡ true → (x : X) × IsIn x xs × (test x ≡ true)
from_any test [] h = absurd (true≢false (sym h))
from_any test (x ∷ xs) h = by_test (from_any test xs) (test x) refl h
  where
    by_test : (list_any test xs ≡ true → (y : _) × IsIn y xs × (test y ≡ true)) → (b : Bool) → test x ≡ b → (b || list_any test xs) ≡ true → (y : _) × IsIn y (x ∷ xs) × (test y ≡ true)
    by_test rest true is h = (x, inl refl, is)
    by_test rest false is h = let more = rest h in (more.0, inr more.1, more.2)

pub in_any : {X : Type 0} (test : X → Bool) (x : X) (xs : List X) → test x ≡ true → IsIn x xs → list_any test xs ≡ true
in_any test x [] passes h = absurd h
in_any test x (y ∷ xs) passes (inl e) = ap (λ b. b || list_any test xs) (ap test (sym e) ∙ passes)
in_any test x (y ∷ xs) passes (inr h) = by_test (test y) (in_any test x xs passes h)
  where
    by_test : (b : Bool) → list_any test xs ≡ true → (b || list_any test xs) ≡ true
    by_test true rest = refl
    by_test false rest = rest

-- what holds of each holds of all
pub all_from : {X : Type 0} (P : X → Type 0) (xs : List X) → ((x : X) → IsIn x xs → P x) → AllByRecursion P xs
all_from P [] each = tt
all_from P (x ∷ xs) each = (each x (inl refl), all_from P xs (λ y there. each y (inr there)))

-- what holds of all holds of each
pub of_all : {X : Type 0} (P : X → Type 0) (x : X) (xs : List X) → AllByRecursion P xs → IsIn x xs → P x
of_all P x [] all h = absurd h
of_all P x (y ∷ xs) all (inl e) = subst P (sym e) all.0
of_all P x (y ∷ xs) all (inr h) = of_all P x xs all.1 h

-- what a flat map of a list has comes from a member
pub from_flat_map : {X Y : Type 0} (f : X → List Y) (y : Y) (xs : List X) → IsIn y (flat_map f xs) → (x : X) × IsIn x xs × IsIn y (f x)
from_flat_map f y [] h = absurd h
from_flat_map f y (x ∷ xs) h = by_part (from_flat_map f y xs) (in_either y (f x) (flat_map f xs) h)
  where
    by_part : (IsIn y (flat_map f xs) → (z : _) × IsIn z xs × IsIn y (f z)) → IsIn y (f x) ⊎ IsIn y (flat_map f xs) → (z : _) × IsIn z (x ∷ xs) × IsIn y (f z)
    by_part rest (inl here) = (x, inl refl, here)
    by_part rest (inr later) = let more = rest later in (more.0, inr more.1, more.2)

-- the same in the words of contracts
pub from_contains : {X : Type 0} (xs : List X) (x : X) → Contains xs x → IsIn x xs
from_contains xs x there = in_list xs there.0 x (slice_get-get_or xs there.0 x there.1 ∙ ap Some there.2)

pub contains_in : {X : Type 0} (xs : List X) (x : X) → IsIn x xs → Contains xs x
contains_in xs x there = let found = place_of x xs there in (found.0, slice_get_within xs found.0 x found.1, get_or_from_slice_get xs found.0 x x found.1)
