-- How marked rows are put in place over a base, as roll-forward recovery does after a crash.
use Rattle.std.specs.Prelude.{◌≡◌, List, [], ◌∷◌, ◌++◌, Some}
use Rattle.std.specs.FinMap as map
use Rattle.f2_model.specs.Tree.{Rows}
use Rattle.f2_model.specs.State.{Mark, rolled}

-- a base over which no mark is rolled stays as it is
abbrev pub NoMarkLeavesTheBase : Type 0
NoMarkLeavesTheBase = (base : Rows) → rolled base [] ≡ base

-- to roll two lists of marks, one behind the other, is to roll the first and then the second
abbrev pub MarksRollInTurn : Type 0
MarksRollInTurn = (base : Rows) (marks more : List Mark) → rolled base (marks ++ more) ≡ rolled (rolled base marks) more

-- the row of the last mark stands under its ino
abbrev pub LastMarkIsThere : Type 0
LastMarkIsThere = (base : Rows) (marks : List Mark) (mark : Mark) → map.get (rolled base (marks ++ mark ∷ [])) mark.ino ≡ Some mark.row
