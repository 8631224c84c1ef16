-- The node address table as it is read, block by block.
use Rattle.std.specs.Prelude.{◌≡◌, ℕ, ◌+◌, ◌*◌, ◌<◌, List, length, slice_index}
use Rattle.std.specs.Option.{unwrap_or}
use Rattle.f2_format.specs.Geometry.{ImageGeometry, ENTRIES_A_NAT_BLOCK}
use Rattle.f2_format.specs.Journal.{JournalList, journal_find}
use Rattle.f2_format.specs.Nat.{nat_entry}
use Rattle.f2_image.specs.Images.{Image}
use Rattle.f2_image.specs.Packs.{Checkpoint, journal}
use Rattle.f2_image.specs.Nodes.{place_of_nid}
use Rattle.f2_image.specs.Faults.{HasTable}

-- a checkpoint of an image of these sizes has this bitmap and this journal, which can be read
pub record IsCkptWith (geom : ImageGeometry) (bitmap : List ℕ) (entries : JournalList) (ckpt : Checkpoint) : Type 0 where
  pub geom_is : ckpt.geom ≡ geom
  pub bitmap_is : ckpt.head.bitmap ≡ bitmap
  pub journal_is : journal ckpt ≡ entries
  pub has : HasTable ckpt

-- a table with the addresses of a block more
pub record HasEntriesMore (entries : JournalList) (block old new : List ℕ) (count : ℕ) : Type 0 where
  pub size : length new ≡ length old + count
  pub kept : (nid : ℕ) → nid < length old → slice_index new nid ≡ slice_index old nid
  pub added : (place : ℕ) → place < count → slice_index new (length old + place) ≡ (unwrap_or (journal_find entries (length old + place)) (nat_entry block place)).1

-- the addresses of the first so many blocks of a table
pub record IsTableOf (each : ℕ) (image : Image) (ckpt : Checkpoint) (blocks : ℕ) (table : List ℕ) : Type 0 where
  pub size : length table ≡ each * blocks
  pub told : (nid : ℕ) → nid < each * blocks → slice_index table nid ≡ (place_of_nid image ckpt nid).1

abbrev pub IsTable : Image → Checkpoint → ℕ → List ℕ → Type 0
IsTable = IsTableOf ENTRIES_A_NAT_BLOCK
