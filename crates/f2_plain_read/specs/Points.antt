-- The newest checkpoint of an image, as far as reading its tree needs it.
use Rattle.std.specs.Prelude.{◌≡◌, ℕ, ◌<◌, ◌≤◌, ◌+◌, ◌*◌, length, slice_index, List, Bool}
use Rattle.f2_format.specs.Geometry.{ImageGeometry, ENTRIES_A_NAT_BLOCK, nat_address}
use Rattle.f2_format.specs.Nat.{nat_entry, is_second_copy}
use Rattle.f2_format.specs.Journal.{journal_count}
use Rattle.f2_format.specs.Pack.{head_of}
use Rattle.f2_image.specs.Images.{Image, block_at}
use Rattle.f2_image.specs.Packs.{IsNewest, head_address, summary_address}
use Rattle.f2_image.specs.Faults.{MOST_VERSION}
use Rattle.f2_pack.specs.Packs.{value_of}
use Rattle.f2_pack.specs.declared.packs.Pack.{Pack}
use Rattle.f2_pack.specs.declared.packs.Side.{Side}
use Rattle.f2_laid.specs.Laid.{side_of}
use Rattle.f2_laid.specs.declared.stored.Stored.{Stored}
use Rattle.f2_plain_read.specs.declared.ckpt.Point.{Point}

-- the newest pack of an image, and its side
pub record IsNewestPack (geom : ImageGeometry) (image : Image) (pack : Pack) (side : Side) : Type 0 where
  pub newest : IsNewest geom image (side_of side)
  pub head : pack.head ≡ value_of (head_of (block_at image (head_address (side_of side))))
  pub summary : pack.summary ≡ block_at image (summary_address (side_of side))

-- a checkpoint tells what is told of a tree, but for its places
pub record IsPointOf (stored : Stored) (ckpt : Point) : Type 0 where
  pub geometry : ckpt.geometry ≡ stored.geometry
  pub side : ckpt.side ≡ stored.side
  pub version : ckpt.version ≡ stored.version
  pub second : ckpt.second ≡ stored.second

-- the same copy of the first so many blocks of the table counts
abbrev pub HaveOneCopy : List ℕ → ℕ → Bool → Type 0
HaveOneCopy bitmap nat second = (block : ℕ) → block < nat → is_second_copy bitmap block ≡ second

-- a pack with an empty journal, of a version that is taken, that names one copy of so many blocks of the table
pub record IsPlain (pack : Pack) (nat : ℕ) (second : Bool) : Type 0 where
  pub journal : journal_count pack.summary ≡ 0
  pub version : pack.head.version ≤ MOST_VERSION
  pub copies : HaveOneCopy pack.head.bitmap nat second

-- the addresses in one copy of the first so many blocks of a table, each of which has so many entries
pub record IsTableOf (each : ℕ) (geom : ImageGeometry) (second : Bool) (image : Image) (blocks : ℕ) (table : List ℕ) : Type 0 where
  pub size : length table ≡ each * blocks
  pub entries : (block place : ℕ) → block < blocks → place < each → slice_index table (each * block + place) ≡ (nat_entry (block_at image (nat_address geom block second)) place).1

abbrev pub IsTable : ImageGeometry → Bool → Image → ℕ → List ℕ → Type 0
IsTable = IsTableOf ENTRIES_A_NAT_BLOCK

-- a table with the addresses of a block more
pub record HasEntriesMore (block old new : List ℕ) (count : ℕ) : Type 0 where
  pub size : length new ≡ length old + count
  pub kept : (nid : ℕ) → nid < length old → slice_index new nid ≡ slice_index old nid
  pub added : (place : ℕ) → place < count → slice_index new (length old + place) ≡ (nat_entry block place).1
