-- The marks of the log on the disk: what a mark's row was when its inode was drawn.
use Rattle.std.specs.Prelude.{◌≡◌, ◌≢◌, ℕ, ◌<◌, ◌≤◌, IsTrue, List, [], ◌∷◌, length, take, Option, Some, None, is_none}
use Rattle.std.specs.List.{AllZip}
use Rattle.std.specs.FinMap as map
use Rattle.f2_format.specs.Offsets.{page_limit}
use Rattle.f2_format.specs.Geometry.{is_in_data}
use Rattle.f2_format.specs.Footer.{footer_ino, has_dentry_mark}
use Rattle.f2_format.specs.Inode.{inode_of, NAME_BYTES, SIZE_LIMIT}
use Rattle.f2_disk.specs.Contents.{Contents}
use Rattle.f2_model.specs.Tree.{Rows}
use Rattle.f2_model.specs.State.{Mark}
use Rattle.f2_model.specs.declared.rows.Kind.TheVariants.{Regular}
use Rattle.f2_image.specs.Bases.{inode_kind}
use Rattle.f2_image.specs.Chains.{block_in, marked_places, marked_address, IsNamed}
use Rattle.f2_image_laws.specs.Chained.{contents_at}
use Rattle.f2_stored.specs.Layout.{Layout, chained}

-- a page is the one content of the block at its address, and isn't there where the address is 0
pub data HasPage (lists : Contents) : ℕ → Option (List ℕ) → Type 0 where
  none : HasPage lists 0 None
  there : (at : ℕ) (bytes : List ℕ) → at ≢ 0 → contents_at lists at ≡ bytes ∷ [] → HasPage lists at (Some bytes)

-- the address of a page of a marked row: in its inode or in the last block of its direct node up to the mark, else in the base's
abbrev pub address_at : Layout → ℕ → ℕ → ℕ
address_at layout place page = marked_address layout.base.image layout.base.ckpt (chained layout) place page

-- the inode at a place of the log is that of a mark
pub record HoldsMark (lists : Contents) (layout : Layout) (base : Rows) (place : ℕ) (mark : Mark) : Type 0 where
  pub ino : mark.ino ≡ footer_ino (block_in (chained layout) place)
  pub row_ino : mark.row.ino ≡ mark.ino
  pub regular : mark.row.kind ≡ Regular
  pub kind : inode_kind (block_in (chained layout) place) ≡ Some mark.row.kind
  pub size : mark.row.size ≡ (inode_of (block_in (chained layout) place)).size
  pub most_size : mark.row.size ≤ SIZE_LIMIT
  pub name_length : (inode_of (block_in (chained layout) place)).name_length ≤ NAME_BYTES
  -- its parent and its name are the base's, or else it tells them and has the dentry mark
  pub named : IsNamed base (block_in (chained layout) place) mark.row (map.get base mark.ino)
  pub dentry : has_dentry_mark (block_in (chained layout) place) ≡ is_none (map.get base mark.ino)
  -- its pages stand at their addresses, and nothing else does
  pub within : (page : ℕ) (bytes : List ℕ) → map.get mark.row.pages page ≡ Some bytes → page < page_limit
  pub pages : (page : ℕ) → page < page_limit → HasPage lists (address_at layout place page) (map.get mark.row.pages page)
  pub owned : (page : ℕ) → page < page_limit → address_at layout place page ≢ 0 → map.get layout.owners (address_at layout place page) ≡ Some (mark.ino, page)
  pub in_zone : (page : ℕ) → page < page_limit → address_at layout place page ≢ 0 → IsTrue (is_in_data layout.base.ckpt.geom (address_at layout place page))

-- the marked blocks of the log are those of the marks, in their order
abbrev pub HoldsMarks : Contents → Layout → Rows → List Mark → Type 0
HoldsMarks lists layout base marks = AllZip (HoldsMark lists layout base) (marked_places (chained layout)) marks

-- how many marks stand in so many first positions
abbrev pub marks_within : Layout → ℕ → ℕ
marks_within layout count = length (marked_places (take count (chained layout)))
