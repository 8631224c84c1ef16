-- What the calls ask of what they are given.
use Rattle.std.specs.Prelude.{◌≡◌, ℕ, ◌≤◌, All, List, map, length, Some}
use Rattle.std.specs.Borrow.{Bor}
use Rattle.std.specs.List.{fold}
use Rattle.std.specs.Ordering.{nat_cmp}
use Rattle.std.specs.Cmp.Lexicographic.{slice_cmp}
use Rattle.std.specs.FinMap as finite
use Rattle.std.specs.FinSet as set
use Rattle.f2_model.specs.Content.{end_of}
use Rattle.f2_model.specs.Tree.{Rows, names_under}
use Rattle.f2_model.specs.declared.rows.Row.{Row}
use Rattle.f2_model.specs.declared.requests.Request.{Request}
use Rattle.f2_model.specs.declared.requests.Request.TheVariants.{Write}
use Rattle.f2_spans.specs.Spans.{MOST_SIZE}

-- each row stands under its own ino
abbrev pub IsKeyed : Rows → Type 0
IsKeyed tree = (ino : ℕ) (row : Row) → finite.get tree ino ≡ Some row → row.ino ≡ ino

-- each row stands under its own ino, and no file is longer than its pages have room for; so it is in every good tree
pub record IsFitting (tree : Rows) : Type 0 where
  pub keyed : IsKeyed tree
  pub short : (ino : ℕ) (row : Row) → finite.get tree ino ≡ Some row → row.size ≤ MOST_SIZE

-- no byte that a write puts lies past a size
abbrev pub WritesWithin : ℕ → Request → Type 0
WritesWithin size (Write path pieces) = All (λ piece. end_of piece ≤ size) pieces
WritesWithin size _ = Unit {0}

-- the rows that references lead to
abbrev pub rows_at : List (Bor Row) → List Row
rows_at rows = map (λ row. row.now) rows

-- numbers as a set, a set after more of them were put, and that each of them stands there once
abbrev pub set_of : List ℕ → set.FinSet nat_cmp
set_of numbers = set.from_list numbers

abbrev pub with_all : set.FinSet nat_cmp → List ℕ → set.FinSet nat_cmp
with_all numbers more = fold (λ left number. set.insert left number) numbers more

abbrev pub StandOnce : List ℕ → Type 0
StandOnce numbers = length numbers ≡ set.len (set_of numbers)

-- the names that rows have in a directory, in byte order, each once
abbrev pub listed : List Row → ℕ → List (List ℕ)
listed rows directory = finite.keys (fold (λ names name. finite.insert names name (tt {0})) (finite.empty {R = slice_cmp nat_cmp}) (names_under rows directory))
