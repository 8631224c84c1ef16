-- A map from seats to their parts, as the list of what it has for each seat of the lock.
use Rattle.std.specs.Prelude.{ℕ, Bool, is_some, ◌||◌, List, [], ◌∷◌, map, length, replicate, slice_index_or, slice_set, Option, Some, None}
use Rattle.std.specs.List.{range_with_len}
use Rattle.std.specs.Option.{option_or}

-- what a map has for a seat
abbrev pub part_of : {P : Type 0} → List (Option P) → ℕ → Option P
part_of parts seat = slice_index_or parts seat None

-- the map with this part for a seat
abbrev pub with_part : {P : Type 0} → List (Option P) → ℕ → P → List (Option P)
with_part parts seat part = slice_set parts seat (Some part)

-- the map without a seat's part
abbrev pub without : {P : Type 0} → List (Option P) → ℕ → List (Option P)
without parts seat = slice_set parts seat None

-- the map that has of these parts one seat's alone
abbrev pub only : {P : Type 0} → List (Option P) → ℕ → List (Option P)
only parts seat = slice_set (replicate (length parts) None) seat (part_of parts seat)

-- the map that has the parts of both
abbrev pub together : {P : Type 0} → List (Option P) → List (Option P) → List (Option P)
together [] ys = ys
together (x ∷ xs) [] = x ∷ xs
together (x ∷ xs) (y ∷ ys) = option_or x y ∷ together xs ys

-- the map of a value that has a part for each of n seats
abbrev pub all_parts : {P : Type 0} → (ℕ → P) → ℕ → List (Option P)
all_parts part n = map (λ seat. Some (part seat)) (range_with_len 0 n)

-- for each seat, whether a map has its part
abbrev pub places : {P : Type 0} → List (Option P) → List Bool
places parts = map is_some parts

-- the places that one of two maps has
abbrev pub either_place : List Bool → List Bool → List Bool
either_place [] cs = cs
either_place (b ∷ bs) [] = b ∷ bs
either_place (b ∷ bs) (c ∷ cs) = (b || c) ∷ either_place bs cs
