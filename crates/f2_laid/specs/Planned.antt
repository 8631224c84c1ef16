-- Which blocks make an image of a tree.
use Rattle.std.specs.Prelude.{◌≡◌, ◌≢◌, ℕ, ◌+◌, ◌*◌, ◌^◌, ◌<◌, true, List, [], ◌∷◌, map as map_list, All, Contains, slice_set, Option, Some, None}
use Rattle.std.specs.FinMap as map
use Rattle.f2_format.specs.Offsets.{inode_pages}
use Rattle.f2_format.specs.Geometry.{ENTRIES_A_NAT_BLOCK, nat_address}
use Rattle.f2_format.specs.Nat.{nat_entry, is_second_copy}
use Rattle.f2_format.specs.Footer.{footer_version}
use Rattle.f2_format.specs.Journal.{journal_count}
use Rattle.f2_format.specs.Pack.{IsPack, head_of, is_newer_format}
use Rattle.f2_model.specs.Tree.{Rows}
use Rattle.f2_model.specs.declared.rows.Row.{Row}
use Rattle.f2_image.specs.Images.{Image}
use Rattle.f2_image.specs.Packs.{head_address, summary_address}
use Rattle.f2_image.specs.Reached.{AllDiffer}
use Rattle.f2_laid.specs.Laid.{PlaceMap, at_of, page_at, side_of, IsPlaced, IsInodeOf, HoldsContent}
use Rattle.f2_laid.specs.declared.places.Place.{Place}
use Rattle.f2_laid.specs.declared.planned.Planned.{Planned}
use Rattle.f2_laid.specs.declared.stored.Stored.{Stored}

-- an image after blocks were written one after another
abbrev pub put_all : Image → List Planned → Image
put_all image [] = image
put_all image (one ∷ rest) = put_all (slice_set image one.at one.block) rest

-- a block is written to an address
abbrev pub Writes : List Planned → ℕ → List ℕ → Type 0
Writes plan at bytes = Contains plan (record { at = at; block = bytes })

-- no file of one stands where a file of the other does
pub record AreApart (old new : PlaceMap) : Type 0 where
  pub nodes : (ino other : ℕ) (a b : Place) → map.get old ino ≡ Some a → map.get new other ≡ Some b → a.at ≢ b.at
  pub pages : (ino page other more : ℕ) (a b : Place) → map.get old ino ≡ Some a → map.get new other ≡ Some b → page_at a page ≢ 0 → page_at a page ≢ page_at b more

-- a page is written where it is there, and has no address where it isn't
abbrev pub WritesPage : List Planned → ℕ → Option (List ℕ) → Type 0
WritesPage plan at None = at ≡ 0
WritesPage plan at (Some bytes) = (at ≢ 0) × Writes plan at bytes

-- the inode and the pages of a row are written
pub record WritesRow (plan : List Planned) (tree : Rows) (row : Row) (places : PlaceMap) : Type 0 where
  pub place : Place
  pub there : map.get places row.ino ≡ Some place
  pub block : List ℕ
  pub inode : IsInodeOf row place block
  pub unlogged : footer_version block ≡ 0
  pub written : Writes plan place.at block
  pub contents : ℕ → Option (List ℕ)
  pub content : HoldsContent tree row contents
  pub pages : (page : ℕ) → page < inode_pages → WritesPage plan (page_at place page) (contents page)

-- a block of the node address table is written, with the address of each nid
pub record WritesTable (plan : List Planned) (stored : Stored) (block : ℕ) : Type 0 where
  pub bytes : List ℕ
  pub written : Writes plan (nat_address stored.geometry block stored.second) bytes
  pub entries : (place : ℕ) → place < ENTRIES_A_NAT_BLOCK → (nat_entry bytes place).1 ≡ at_of (map.get stored.places (ENTRIES_A_NAT_BLOCK * block + place))

-- a block is head and tail of the checkpoint's pack
pub record IsHeadOf (stored : Stored) (block : List ℕ) : Type 0 where
  pub pack : IsPack stored.geometry block block
  pub version : (head_of block).version ≡ stored.version
  pub low : (head_of block).version < 2 ^ 32
  pub newer : is_newer_format (head_of block) ≡ true
  pub bitmap : (table : ℕ) → table < stored.geometry.nat → is_second_copy (head_of block).bitmap table ≡ stored.second

-- an address at which such a plan writes: of a file, of the table's copy, or of the pack before its tail
pub data IsWriteOf (stored : Stored) (at : ℕ) : Type 0 where
  inode : (ino : ℕ) (place : Place) → map.get stored.places ino ≡ Some place → at ≡ place.at → IsWriteOf stored at
  page : (ino page : ℕ) (place : Place) → map.get stored.places ino ≡ Some place → page_at place page ≢ 0 → at ≡ page_at place page → IsWriteOf stored at
  table : (block : ℕ) → block < stored.geometry.nat → at ≡ nat_address stored.geometry block stored.second → IsWriteOf stored at
  summary : at ≡ summary_address (side_of stored.side) → IsWriteOf stored at
  head : at ≡ head_address (side_of stored.side) → IsWriteOf stored at

-- a plan writes a tree as a checkpoint tells of it, but for the tail of its pack, which is this block, and stays off
-- the places of the last one
pub record IsPlanOf (tree : Rows) (old : PlaceMap) (stored : Stored) (plan : List Planned) (tail : List ℕ) : Type 0 where
  pub placed : IsPlaced stored.geometry stored.places
  pub apart : AreApart old stored.places
  pub rows : (ino : ℕ) (row : Row) → map.get tree ino ≡ Some row → WritesRow plan tree row stored.places
  pub only : (ino : ℕ) (place : Place) → map.get stored.places ino ≡ Some place → (row : Row) × map.get tree ino ≡ Some row
  pub table : (block : ℕ) → block < stored.geometry.nat → WritesTable plan stored block
  pub summary : (bytes : List ℕ) × (journal_count bytes ≡ 0) × Writes plan (summary_address (side_of stored.side)) bytes
  pub head : IsHeadOf stored tail
  pub head_written : Writes plan (head_address (side_of stored.side)) tail
  pub within : All (λ (one : Planned). IsWriteOf stored one.at) plan
  pub once : AllDiffer (map_list (λ (one : Planned). one.at) plan)
