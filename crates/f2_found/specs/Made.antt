-- The rows of a tree as far as they were made of a base and of the files that were marked after it.
use Rattle.std.specs.Prelude.{◌≡◌, ℕ, ◌<◌, ◌≤◌, List, [], Option, Some, None, map as map_list}
use Rattle.std.specs.Ordering.{nat_cmp}
use Rattle.std.specs.FinMap as map
use Rattle.f2_model.specs.declared.rows.Kind.TheVariants.{Regular, Directory}
use Rattle.f2_overlay.specs.declared.rolls.Roll.{Roll}
use Rattle.f2_recover.specs.Walking.{BaseRows}
use Rattle.f2_recover.specs.declared.files.File.{File}
use Rattle.f2_recover.specs.declared.nodes.PageAt.{PageAt}
use Rattle.f2_recover.specs.declared.rows.BaseRow.{BaseRow}
use Rattle.f2_found.specs.Pages.{AreInOrder}
use Rattle.f2_found.specs.Places.{AreBelow}
use Rattle.f2_found.specs.declared.rows.FoundRow.{FoundRow}

-- the files that were marked, by their inos
abbrev pub Rolls : Type 0
Rolls = map.FinMap nat_cmp Roll

-- the addresses of pages as a list, rising
abbrev pub listed_of : map.FinMap nat_cmp ℕ → List PageAt
listed_of pages = map_list (λ entry. record { page = entry.0; at = entry.1 }) (map.entries pages)

-- a row is a file that was marked; of its pages all are there that can be a file's in so many blocks
pub record IsOfRoll (blocks : ℕ) (roll : Roll) (found : FoundRow) : Type 0 where
  pub kind : found.kind ≡ Regular
  pub size : found.size ≡ roll.size
  pub within : AreBelow blocks found.pages
  pub pages : AreInOrder (listed_of roll.pages) → AreBelow blocks (listed_of roll.pages) → found.pages ≡ listed_of roll.pages

-- a row is a file or a directory of the base
pub record IsOfFile (blocks : ℕ) (file : File) (found : FoundRow) : Type 0 where
  pub kind : found.kind ≡ file.kind
  pub size : file.kind ≡ Regular → found.size ≡ file.size
  pub within : AreBelow blocks found.pages
  pub pages : file.kind ≡ Regular → AreInOrder file.nodes.list.items → AreBelow blocks file.nodes.list.items → found.pages ≡ file.nodes.list.items
  pub no_size : file.kind ≡ Directory → found.size ≡ 0
  pub no_pages : file.kind ≡ Directory → found.pages ≡ []

-- the row of an ino is that of its mark, else that of the base
abbrev pub IsMade : ℕ → Option Roll → Option BaseRow → Option FoundRow → Type 0
IsMade blocks (Some roll) base (Some found) = IsOfRoll blocks roll found
IsMade blocks (Some roll) base None = ⊥
IsMade blocks None (Some base) (Some found) = IsOfFile blocks base.file found
IsMade blocks None (Some base) None = ⊥
IsMade blocks None None (Some found) = ⊥
IsMade blocks None None None = Unit {0}

-- the rows up to an ino were made
pub record AreMadeTo (blocks : ℕ) (rolls : Rolls) (base : BaseRows) (limit : ℕ) (rows : map.FinMap nat_cmp FoundRow) : Type 0 where
  pub below : (ino : ℕ) → ino < limit → IsMade blocks (map.get rolls ino) (map.get base ino) (map.get rows ino)
  pub above : (ino : ℕ) → limit ≤ ino → map.get rows ino ≡ None
