-- What is kept beside a tree of files in the root: their names, and counts of what they take.
use Rattle.std.specs.Prelude.{◌≡◌, ◌≢◌, ◌⊎◌, ℕ, ◌+◌, ◌<◌, ◌≤◌, ◌==◌, if◌then◌else◌, List, Some}
use Rattle.std.specs.List.{fold, sum_by}
use Rattle.std.specs.FinMap as map
use Rattle.f2_format.specs.Packing.{slots_of_name}
use Rattle.f2_model.specs.Tree.{Rows, ROOT, IsGoodTree}
use Rattle.f2_model.specs.declared.rows.Row.{Row}
use Rattle.f2_model.specs.declared.rows.Kind.{Kind}
use Rattle.f2_model.specs.declared.rows.Kind.TheVariants.{Regular}
use Rattle.f2_dir.specs.Entries.{Entries}
use Rattle.f2_flat.specs.Flat.{FILE_SIZE, IsRootFile}
use Rattle.f2_flat.specs.declared.counts.Counts.{Counts}

-- the most rows for whose names an inode surely has the addresses of all dentry blocks
abbrev pub MOST_ROWS : ℕ
MOST_ROWS = 5500

-- a tree of files in the root alone, of which there are so few that each row is one node
pub record HasRootFiles (tree : Rows) : Type 0 where
  pub good : IsGoodTree FILE_SIZE tree
  pub few : map.len tree ≤ MOST_ROWS
  pub files : (ino : ℕ) (row : Row) → map.get tree ino ≡ Some row → ino ≢ ROOT → IsRootFile row

-- a row is the root's, or that of a file in the root, with one of the first so many inos, and isn't too long
pub record IsFlatRow (rows : ℕ) (row : Row) : Type 0 where
  pub low : ROOT ≤ row.ino
  pub high : row.ino < rows + ROOT
  pub size : row.size ≤ FILE_SIZE
  pub file : (row.ino ≡ ROOT) ⊎ IsRootFile row

-- names after that of a row was bound to its ino; the root has no name
abbrev pub with_row : Entries → Row → Entries
with_row names row = if row.ino == ROOT then names else map.insert names row.name (row.ino, Regular)

-- names after those of rows were bound
abbrev pub with_rows : Entries → List Row → Entries
with_rows names rows = fold with_row names rows

-- names are those of the rows of a tree but the root, each bound to its ino
pub record BindsNames (tree : Rows) (names : Entries) : Type 0 where
  pub bound : (ino : ℕ) (row : Row) → map.get tree ino ≡ Some row → ino ≢ ROOT → map.get names row.name ≡ Some (ino, Regular)
  pub only : (name : List ℕ) (ino : ℕ) (kind : Kind) → map.get names name ≡ Some (ino, kind) → (row : Row) × (map.get tree ino ≡ Some row) × (ino ≢ ROOT) × (row.name ≡ name)

-- the name slots that a row takes in its directory
abbrev pub slots_of_row : Row → ℕ
slots_of_row row = slots_of_name row.name

-- those of all rows of a tree
abbrev pub slots_of_tree : Rows → ℕ
slots_of_tree tree = sum_by slots_of_row (map.values tree)

-- how many pages a row has
abbrev pub pages_of_row : Row → ℕ
pages_of_row row = map.len row.pages

-- how many all rows of a tree have
abbrev pub pages_of_tree : Rows → ℕ
pages_of_tree tree = sum_by pages_of_row (map.values tree)

-- counts are those of a tree
pub record AreCounts (tree : Rows) (counts : Counts) : Type 0 where
  pub slots : counts.slots ≡ slots_of_tree tree
  pub pages : counts.pages ≡ pages_of_tree tree

-- names and counts are kept beside a tree
pub record IsKept (tree : Rows) (names : Entries) (counts : Counts) : Type 0 where
  pub bound : BindsNames tree names
  pub counted : AreCounts tree counts
