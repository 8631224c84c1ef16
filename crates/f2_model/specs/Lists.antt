-- Words on lists that several definitions use.
use Rattle.std.specs.Prelude.{ℕ, min, List, [], ◌∷◌, Option, Some, None}
use Rattle.std.specs.List.{fold}

-- the first that there is
abbrev pub first_some : {X : Type 0} → List (Option X) → Option X
first_some [] = None
first_some (None ∷ rest) = first_some rest
first_some (Some one ∷ rest) = Some one

-- the least of some numbers
abbrev pub lesser : Option ℕ → ℕ → Option ℕ
lesser None number = Some number
lesser (Some least) number = Some (min least number)

abbrev pub least_number : List ℕ → Option ℕ
least_number numbers = fold lesser None numbers
