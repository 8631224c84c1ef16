-- The pages in memory against the files: dirty contents are those of the live tree, clean ones those of the disk.
use Rattle.std.specs.Prelude.{◌≡◌, ◌≢◌, ◌↔◌, ℕ, true, List, Some}
use Rattle.std.specs.FinMap as map
use Rattle.std.specs.FinSet as set
use Rattle.f2_disk.specs.Contents.{Contents, list_at, last_of}
use Rattle.f2_model.specs.State.{State}
use Rattle.f2_model.specs.declared.rows.Row.{Row}
use Rattle.f2_model.specs.declared.rows.Kind.TheVariants.{Regular}
use Rattle.f2_files.specs.Known.{Known}
use Rattle.f2_files.specs.Shape.{address_in}
use Rattle.f2_pages.specs.Kept.{Kept}

-- a page of a file is dirty, and has these bytes; the pages of a directory are none of the tree's
pub record IsDirtyPage (state : State) (ino page : ℕ) (bytes : List ℕ) : Type 0 where
  pub dirty : set.contains state.dirty_pages (ino, page) ≡ true
  pub row : Row
  pub there : map.get state.live ino ≡ Some row
  pub file : row.kind ≡ Regular
  pub has : map.get row.pages page ≡ Some bytes

-- a page was written, and these bytes are the last content of the block at its address
pub record IsCleanPage (lists : Contents) (known : Known) (ino page : ℕ) (bytes : List ℕ) : Type 0 where
  pub at : ℕ
  pub address : address_in page (map.get known.shapes ino) ≡ Some at
  pub written : at ≢ 0
  pub current : bytes ≡ last_of (list_at lists at)

-- the dirty contents that are kept are those of the dirty pages, and each clean one is what a read of its page's block gives
pub record AreContentsOf (lists : Contents) (known : Known) (kept : Kept) (state : State) : Type 0 where
  pub dirty : (ino page : ℕ) (bytes : List ℕ) → (map.get kept.dirty (ino, page) ≡ Some bytes) ↔ IsDirtyPage state ino page bytes
  pub clean : (ino page : ℕ) (bytes : List ℕ) → map.get kept.clean (ino, page) ≡ Some bytes → IsCleanPage lists known ino page bytes
