-- The names of a directory after one was taken out and another one put in, as a set and as the list in which they are packed.
use Rattle.std.specs.Prelude.{ℕ, Bool, false, not, List, [], ◌∷◌, Option, Some, None}
use Rattle.std.specs.List.{filter}
use Rattle.std.specs.Ordering.{nat_cmp, eq_by_cmp}
use Rattle.std.specs.Cmp.Lexicographic.{slice_cmp}
use Rattle.std.specs.FinMap.Entries.{by_order}
use Rattle.std.specs.FinSet as set

-- names as a set, which has them in the order of their bytes
abbrev pub Names : Type 0
Names = set.FinSet (slice_cmp nat_cmp)

-- a set without a name, and a set with a name; the set itself where there is none
abbrev pub left : Option (List ℕ) → Names → Names
left None names = names
left (Some name) names = set.remove names name

abbrev pub joined : Option (List ℕ) → Names → Names
joined None names = names
joined (Some name) names = set.insert names name

-- the names of a directory after one left it and one came into it
abbrev pub names_after : Option (List ℕ) → Option (List ℕ) → Names → Names
names_after gone come names = joined come (left gone names)

-- whether a name is the one that goes
abbrev pub is_gone : Option (List ℕ) → List ℕ → Bool
is_gone None name = false
is_gone (Some gone) name = eq_by_cmp (slice_cmp nat_cmp) gone name

-- names in order without the one that goes
abbrev pub but_gone : Option (List ℕ) → List (List ℕ) → List (List ℕ)
but_gone gone names = filter (λ name. not (is_gone gone name)) names

-- a name put at its place among names in order; names that have it stay
abbrev pub put_name : List ℕ → List (List ℕ) → List (List ℕ)
put_name name [] = name ∷ []
put_name name (one ∷ rest) = by_order (slice_cmp nat_cmp name one) (name ∷ one ∷ rest) (one ∷ rest) (one ∷ put_name name rest)

-- names in order with the one that comes
abbrev pub and_come : Option (List ℕ) → List (List ℕ) → List (List ℕ)
and_come None names = names
and_come (Some name) names = put_name name names

-- how many names are to come
abbrev pub number_of : {X : Type 0} → Option X → ℕ
number_of None = 0
number_of (Some name) = 1
