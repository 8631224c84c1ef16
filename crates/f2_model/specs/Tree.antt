-- The file tree: rows by their inos, how a path leads through it, and what makes a tree good.
use Rattle.std.specs.Prelude.{◌≡◌, ◌≢◌, ℕ, zero, suc, ◌+◌, ◌-◌, ◌*◌, ◌<◌, ◌≤◌, Bool, true, false, ◌&&◌, if◌then◌else◌, List, [], ◌∷◌, map as map_list, length, take, IsTrue, ◌==◌, slice_index, slice_index_or}
use Rattle.std.specs.Prelude.{Option, Some, None, Result, Ok, Err}
use Rattle.std.specs.List.{find, filter, list_any, flat_map}
use Rattle.std.specs.Ordering.{nat_cmp}
use Rattle.std.specs.Cmp.Lexicographic.{slice_cmp}
use Rattle.std.specs.FinMap as map
use Rattle.std.specs.FinSet as set
use Rattle.f2_model.specs.Names.{same_name, is_good_name}
use Rattle.f2_model.specs.Content.{PAGE}
use Rattle.f2_model.specs.declared.rows.Row.{Row}
use Rattle.f2_model.specs.declared.rows.Kind.{Kind}
use Rattle.f2_model.specs.declared.rows.Kind.TheVariants.{Regular, Directory}
use Rattle.f2_model.specs.declared.replies.Reply.{Reply}
use Rattle.f2_model.specs.declared.replies.Reply.TheVariants.{NoEnt, NotDir}

-- rows by their inos
abbrev pub Rows : Type 0
Rows = map.FinMap nat_cmp Row

-- the ino of the root (F2FS_ROOT_INO), which is its own parent and has an empty name
abbrev pub ROOT : ℕ
ROOT = 3

-- the tree of the root alone
abbrev pub root_row : Row
root_row = record { ino = ROOT; kind = Directory; parent = ROOT; name = []; size = 0; pages = map.empty }

abbrev pub root_alone : Rows
root_alone = map.insert map.empty ROOT root_row

-- the deepest that a directory may stand; a file may stand one below
abbrev pub MOST_DEPTH : ℕ
MOST_DEPTH = 15

abbrev pub is_directory : Kind → Bool
is_directory Directory = true
is_directory Regular = false

-- the names of a row, each with its directory: one, as long as a file has one name; the root has none
abbrev pub names_of : Row → List (ℕ × List ℕ)
names_of row = if row.ino == ROOT then [] else ((row.parent, row.name) ∷ [])

-- whether a row stands under a name in a directory
abbrev pub stands_at : ℕ → List ℕ → Row → Bool
stands_at directory name row = list_any (λ at. at.0 == directory && same_name at.1 name) (names_of row)

-- the row under a name in a directory
abbrev pub child : Rows → ℕ → List ℕ → Option Row
child tree directory name = find (stands_at directory name) (map.values tree)

-- whether a row stands in a directory
abbrev pub is_in : ℕ → Row → Bool
is_in directory row = list_any (λ at. at.0 == directory) (names_of row)

-- a row that has to be there goes on, and else the path has no entry
abbrev pub or_no_entry : Option Row → (Row → Result Row Reply) → Result Row Reply
or_no_entry None next = Err NoEnt
or_no_entry (Some row) next = next row

-- where names lead from a row: to the row at their end, or to the first refusal on the way
abbrev pub walked : Rows → List (List ℕ) → Row → Result Row Reply
walked tree [] row = Ok row
walked tree (name ∷ names) row = if is_directory row.kind then or_no_entry (child tree row.ino name) (walked tree names) else Err NotDir

-- where a path leads from the root
abbrev pub walk : Rows → List (List ℕ) → Result Row Reply
walk tree path = or_no_entry (map.get tree ROOT) (walked tree path)

-- the path of the directory that a path's last name stands in, and that name
abbrev pub parent_path : List (List ℕ) → List (List ℕ)
parent_path path = take (length path - 1) path

abbrev pub last_name : List (List ℕ) → List ℕ
last_name path = slice_index_or path (length path - 1) []

-- an ino stands that many names below the root
abbrev pub IsAtDepth : Rows → ℕ → ℕ → Type 0
IsAtDepth tree zero ino = ino ≡ ROOT
IsAtDepth tree (suc depth) ino = (ino ≢ ROOT) × ((row : Row) × (map.get tree ino ≡ Some row) × IsAtDepth tree depth row.parent)

-- the depth that a row of a kind may have
abbrev pub most_depth : Kind → ℕ
most_depth Directory = MOST_DEPTH
most_depth Regular = MOST_DEPTH + 1

-- a row's size and pages fit together: a directory has neither, each page begins before the size, and no byte past the size is other than 0
pub record HasGoodPages (most_size : ℕ) (row : Row) : Type 0 where
  pub directory : row.kind ≡ Directory → (row.size ≡ 0) × (row.pages ≡ map.empty)
  pub size : row.size ≤ most_size
  pub whole : (page : ℕ) (bytes : List ℕ) → map.get row.pages page ≡ Some bytes → length bytes ≡ PAGE
  pub before : (page : ℕ) (bytes : List ℕ) → map.get row.pages page ≡ Some bytes → page * PAGE < row.size
  pub zeros : (page at : ℕ) (bytes : List ℕ) → map.get row.pages page ≡ Some bytes → row.size ≤ page * PAGE + at → slice_index bytes at ≡ 0

-- the root's row
pub record IsRoot (row : Row) : Type 0 where
  pub ino : row.ino ≡ ROOT
  pub kind : row.kind ≡ Directory
  pub parent : row.parent ≡ ROOT
  pub name : row.name ≡ []

-- a good tree: one root, each other row in a directory of it under a name of its own, no row too deep or too long
pub record IsGoodTree (most_size : ℕ) (tree : Rows) : Type 0 where
  pub root : (row : Row) × (map.get tree ROOT ≡ Some row) × IsRoot row
  pub keyed : (ino : ℕ) (row : Row) → map.get tree ino ≡ Some row → row.ino ≡ ino
  pub parents : (ino : ℕ) (row : Row) → map.get tree ino ≡ Some row → (up : Row) × (map.get tree row.parent ≡ Some up) × (up.kind ≡ Directory)
  pub names : (ino : ℕ) (row : Row) → map.get tree ino ≡ Some row → ino ≢ ROOT → IsTrue (is_good_name row.name)
  pub apart : (i j : ℕ) (a b : Row) → map.get tree i ≡ Some a → map.get tree j ≡ Some b → i ≢ ROOT → j ≢ ROOT → a.parent ≡ b.parent → a.name ≡ b.name → i ≡ j
  pub reached : (ino : ℕ) (row : Row) → map.get tree ino ≡ Some row → (depth : ℕ) × (depth ≤ most_depth row.kind) × IsAtDepth tree depth ino
  pub pages : (ino : ℕ) (row : Row) → map.get tree ino ≡ Some row → HasGoodPages most_size row

-- the names that rows have in a directory
abbrev pub names_under : List Row → ℕ → List (List ℕ)
names_under rows directory = map_list (λ at. at.1) (filter (λ at. at.0 == directory) (flat_map names_of rows))

-- the same as a set, which orders them by their bytes
abbrev pub names_in : List Row → ℕ → set.FinSet (slice_cmp nat_cmp)
names_in rows directory = set.from_list (names_under rows directory)
