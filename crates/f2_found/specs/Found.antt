-- The tree of an image as it was found: its rows with the addresses of their pages, and the names of its directories.
use Rattle.std.specs.Prelude.{◌≡◌, ◌≢◌, ℕ, List, Option, Some, None}
use Rattle.std.specs.FinMap as map
use Rattle.f2_dir.specs.Entries.{Entries}
use Rattle.f2_image.specs.Images.{Image}
use Rattle.f2_model.specs.Tree.{Rows, ROOT}
use Rattle.f2_model.specs.declared.rows.Row.{Row}
use Rattle.f2_model.specs.declared.rows.Kind.{Kind}
use Rattle.f2_model.specs.declared.rows.Kind.TheVariants.{Directory}
use Rattle.f2_found.specs.Pages.{AreAt}
use Rattle.f2_found.specs.declared.rows.FoundRow.{FoundRow}
use Rattle.f2_found.specs.declared.found.Found.{Found}

-- a row was found: its kind and its size, and where its pages stand; a directory has neither size nor pages
pub record IsFoundRow (image : Image) (row : Row) (found : FoundRow) : Type 0 where
  pub kind : found.kind ≡ row.kind
  pub size : found.size ≡ row.size
  pub pages : AreAt image row.pages found.pages

-- both are there and alike, or neither is
abbrev pub AreFound : Image → Option Row → Option FoundRow → Type 0
AreFound image None None = Unit {0}
AreFound image None (Some found) = ⊥
AreFound image (Some row) None = ⊥
AreFound image (Some row) (Some found) = IsFoundRow image row found

-- a row of a kind stands in a directory under a name
pub record StandsUnder (tree : Rows) (directory : ℕ) (name : List ℕ) (ino : ℕ) (kind : Kind) : Type 0 where
  pub row : Row
  pub there : map.get tree ino ≡ Some row
  pub other : ino ≢ ROOT
  pub parent : row.parent ≡ directory
  pub named : row.name ≡ name
  pub kind_is : row.kind ≡ kind

-- the names of a directory are those that rows have in it
pub record AreNamesIn (tree : Rows) (directory : ℕ) (names : Entries) : Type 0 where
  pub only : (name : List ℕ) (ino : ℕ) (kind : Kind) → map.get names name ≡ Some (ino, kind) → StandsUnder tree directory name ino kind
  pub all : (ino : ℕ) (row : Row) → map.get tree ino ≡ Some row → ino ≢ ROOT → row.parent ≡ directory → map.get names row.name ≡ Some (ino, row.kind)

abbrev pub AreKnownIn : Rows → ℕ → Option Entries → Type 0
AreKnownIn tree directory None = ⊥
AreKnownIn tree directory (Some names) = AreNamesIn tree directory names

-- a tree was found in an image: all its rows, each known by its ino, and the names of each directory
pub record IsFound (image : Image) (tree : Rows) (found : Found) : Type 0 where
  pub own : (ino : ℕ) (row : Row) → map.get tree ino ≡ Some row → row.ino ≡ ino
  pub rows : (ino : ℕ) → AreFound image (map.get tree ino) (map.get found.rows ino)
  pub names : (ino : ℕ) (row : Row) → map.get tree ino ≡ Some row → row.kind ≡ Directory → AreKnownIn tree ino (map.get found.names ino)
