-- The trees that recovery puts together take no more than what is held for their rows.
use Rattle.std.specs.Prelude.{◌≡◌, ◌==◌, ◌≢◌, ◌&&◌, not, Bool, true, if◌then◌else◌, Some, ℕ, ◌≤◌, ◌⊎◌, List, [], ◌∷◌, ◌++◌, map as map_list}
use Rattle.std.specs.Bool.{then_some}
use Rattle.std.specs.List.{fold, list_any}
use Rattle.std.specs.FinMap as map
use Rattle.f2_format.specs.Offsets.{node_count}
use Rattle.f2_model.specs.Tree.{Rows, IsGoodTree, is_directory, names_under, ROOT}
use Rattle.f2_model.specs.Count.{nodes_of_tree, data_of_tree}
use Rattle.f2_model.specs.State.{State, Mark, rolled}
use Rattle.f2_model.specs.Fallback.{Both, sum_of, nothing, greatest_of, of_directory, regular_inos, directory_inos, recoverable, held}
use Rattle.f2_model.specs.declared.rows.Row.{Row}
use Rattle.f2_model.specs.declared.rows.Kind.TheVariants.{Regular}
use Rattle.f2_held.specs.Taken.{Taken, names_from, raised, bound, total_of}

-- a row is one of a list
abbrev pub IsOneOf : Row → List Row → Type 0
IsOneOf row [] = ⊥
IsOneOf row (one ∷ rest) = (row ≡ one) ⊎ IsOneOf row rest

-- the rows of a base and of marks
abbrev pub rows_of : Rows → List Mark → List Row
rows_of base marks = map.values base ++ map_list (λ mark. mark.row) marks

-- the most that rows take in a tree whose directories are those of a base
abbrev pub most_of : Rows → List Row → Both
most_of base rows =
    sum_of (fold (λ total file. sum_of total (greatest_of rows file)) nothing (regular_inos rows))
    (fold (λ total directory. sum_of total (of_directory rows directory)) nothing (directory_inos base))

-- what is measured before an fsync is the most that the rows which a recovery may put together take
abbrev pub HeldIsTheMost : Type 0
HeldIsTheMost = (state : State) (ino : ℕ) → held state ino ≡ most_of state.base (recoverable state ino)

-- whether a row is one of a regular file
abbrev pub is_of_file : ℕ → Row → Bool
is_of_file ino row = not (is_directory row.kind) && (row.ino == ino)

-- rows were taken in: each regular file's greatest numbers, and the names that rows have in each directory of the base
pub record IsTakenOf (base : Rows) (rows : List Row) (taken : Taken) : Type 0 where
  pub files : (ino : ℕ) → map.get taken.files ino ≡ then_some (list_any (is_of_file ino) rows) (greatest_of rows ino)
  pub directories : (ino : ℕ) → map.get taken.directories ino ≡ then_some (list_any (λ other. other == ino) (directory_inos base)) (names_from (names_under rows ino))

-- rows that stand at one ino are of one kind
abbrev pub AreOfOneKind : List Row → Type 0
AreOfOneKind rows = (one other : Row) → IsOneOf one rows → IsOneOf other rows → one.ino ≡ other.ino → one.kind ≡ other.kind

-- what a file's row takes
abbrev pub size_of_file : Row → Both
size_of_file row = record { nodes = node_count (map.keys row.pages); pages = map.len row.pages }

-- a row's name comes in, and of a file what it takes
abbrev pub with_row : Taken → Row → Taken
with_row taken row = record {
  files = if is_directory row.kind then taken.files else raised taken.files row.ino (size_of_file row);
  directories = bound taken.directories row.parent row.name;
}

-- what was taken in of rows and of one row more, which isn't the root and whose directory is in, is what was taken in of them all
abbrev pub RowsComeIn : Type 0
RowsComeIn =
    (base : Rows) (rows : List Row) (taken : Taken) (row : Row) →
    IsTakenOf base rows taken →
    AreOfOneKind (rows ++ row ∷ []) →
    row.ino ≢ ROOT →
    map.contains_key taken.directories row.parent ≡ true →
    IsTakenOf base (rows ++ row ∷ []) (with_row taken row)

-- where rows were taken in, the count is the most that they take
abbrev pub CountIsTheMost : Type 0
CountIsTheMost =
    (base : Rows) (rows : List Row) (taken : Taken) →
    ((ino : ℕ) (row : Row) → map.get base ino ≡ Some row → row.ino ≡ ino) →
    IsTakenOf base rows taken →
    total_of taken ≡ most_of base rows

-- a tree takes no more than these numbers
pub record Fits (tree : Rows) (most : Both) : Type 0 where
  pub nodes : nodes_of_tree tree ≤ most.nodes
  pub data_blocks : data_of_tree tree ≤ most.pages

-- a good tree that marks of regular files make of a base takes no more than the most of rows that have those of base and marks among them
abbrev pub RecoveredTreesFit : Type 0
RecoveredTreesFit =
    (most_size : ℕ) (base : Rows) (marks : List Mark) (rows : List Row) →
    IsGoodTree most_size (rolled base marks) →
    ((row : Row) → IsOneOf row (map_list (λ mark. mark.row) marks) → row.kind ≡ Regular) →
    ((row : Row) → IsOneOf row (rows_of base marks) → IsOneOf row rows) →
    Fits (rolled base marks) (most_of base rows)
