-- What stands in lists that are made of others, and the numbers below a limit as a list.
use Rattle.std.proofs.Common.{◌≡◌, ◌⊎◌, inl, inr, ℕ, ◌<◌, List, [], ◌∷◌, ◌++◌, map, refl, subst, arith}
use Rattle.std.specs.List.{range_with_len, flat_map}
use Rattle.f2_place_laws.proofs.Lists.{IsIn, in_range, from_range}

pub from_map : {X Y : Type 0} (f : X → Y) (y : Y) (xs : List X) → IsIn y (map f xs) → (x : X) × IsIn x xs × (y ≡ f x)
from_map f y [] h = absurd h
from_map f y (x ∷ xs) (inl e) = (x, inl refl, e)
from_map f y (x ∷ xs) (inr h) = let rest = from_map f y xs h in (rest.0, inr rest.1, rest.2)

in_front : {X : Type 0} (x : X) (xs ys : List X) → IsIn x xs → IsIn x (xs ++ ys)
in_front x [] ys h = absurd h
in_front x (z ∷ xs) ys (inl e) = inl e
in_front x (z ∷ xs) ys (inr h) = inr (in_front x xs ys h)

in_back : {X : Type 0} (x : X) (xs ys : List X) → IsIn x ys → IsIn x (xs ++ ys)
in_back x [] ys h = h
in_back x (z ∷ xs) ys h = inr (in_back x xs ys h)

from_both : {X : Type 0} (x : X) (xs ys : List X) → IsIn x (xs ++ ys) → IsIn x xs ⊎ IsIn x ys
from_both x [] ys h = inr h
from_both x (z ∷ xs) ys (inl e) = inl (inl e)
from_both x (z ∷ xs) ys (inr h) = elim (from_both x xs ys h) [ inl there ↦ inl (inr there) | inr there ↦ inr there ]

pub in_flat : {X Y : Type 0} (f : X → List Y) (x : X) (y : Y) (xs : List X) → IsIn x xs → IsIn y (f x) → IsIn y (flat_map f xs)
in_flat f x y [] h there = absurd h
in_flat f x y (z ∷ xs) (inl e) there = in_front y (f z) (flat_map f xs) (subst (λ w. IsIn y (f w)) e there)
in_flat f x y (z ∷ xs) (inr h) there = in_back y (f z) (flat_map f xs) (in_flat f x y xs h there)

pub from_flat : {X Y : Type 0} (f : X → List Y) (y : Y) (xs : List X) → IsIn y (flat_map f xs) → (x : X) × IsIn x xs × IsIn y (f x)
from_flat f y [] h = absurd h
from_flat f y (z ∷ xs) h = elim (from_both y (f z) (flat_map f xs) h) [ inl there ↦ (z, inl refl, there) | inr more ↦ let rest = from_flat f y xs more in (rest.0, inr rest.1, rest.2) ]

-- the numbers below a limit
pub numbers_below : ℕ → List ℕ
numbers_below limit = range_with_len 0 limit

pub in_numbers : (limit k : ℕ) → k < limit → IsIn k (numbers_below limit)
unfolding numbers_below
in_numbers limit k small = in_range 0 limit k (omega arith) (omega (arith, small))

pub from_numbers : (limit k : ℕ) → IsIn k (numbers_below limit) → k < limit
unfolding numbers_below
from_numbers limit k there = let found = from_range 0 limit k there in omega (arith, found.1)
