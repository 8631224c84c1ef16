-- The checkpoint that counts: the valid pack with the greater version, A at a tie (f2fs_get_valid_checkpoint of
-- checkpoint.c).
use Rattle.std.specs.Prelude.{◌≡◌, ℕ, ◌+◌, ◌<◌, ◌≤◌, if◌then◌else◌, List}
use Rattle.f2_format.specs.Geometry.{ImageGeometry, PACK_A, PACK_B}
use Rattle.f2_format.specs.Pack.{HeadFields, head_of, IsPack, is_newer_format, recovery_version_of}
use Rattle.f2_format.specs.Journal.{JournalList, journal_of}
use Rattle.f2_model.specs.declared.modes.Format.{Format}
use Rattle.f2_model.specs.declared.modes.Format.TheVariants.{One, Two}
use Rattle.f2_image.specs.Images.{Image, block_at, IsSized}

-- the two packs
pub data Side : Type 0 where
  A : Side
  B : Side

abbrev pub other_side : Side → Side
other_side A = B
other_side B = A

-- where a pack's head, its summary and its tail stand
abbrev pub head_address : Side → ℕ
head_address A = PACK_A
head_address B = PACK_B

abbrev pub summary_address : Side → ℕ
summary_address side = head_address side + 1

abbrev pub tail_address : Side → ℕ
tail_address side = head_address side + 2

-- a pack counts in an image of these sizes
abbrev pub IsValid : ImageGeometry → Image → Side → Type 0
IsValid geom image side = IsPack geom (block_at image (head_address side)) (block_at image (tail_address side))

abbrev pub version_of : Image → Side → ℕ
version_of image side = (head_of (block_at image (head_address side))).version

-- of two packs that count, this one goes before the other
abbrev pub GoesBefore : Image → Side → Type 0
GoesBefore image A = version_of image B ≤ version_of image A
GoesBefore image B = version_of image A < version_of image B

-- the newest pack
pub record IsNewest (geom : ImageGeometry) (image : Image) (side : Side) : Type 0 where
  pub valid : IsValid geom image side
  pub newest : IsValid geom image (other_side side) → GoesBefore image side

-- what a checkpoint tells: the sizes of its image, its pack, the fields of its head and its summary
pub record Checkpoint : Type 0 where
  pub geom : ImageGeometry
  pub side : Side
  pub head : HeadFields
  pub summary : List ℕ

-- the checkpoint of an image
pub record IsCheckpoint (image : Image) (ckpt : Checkpoint) : Type 0 where
  pub sized : IsSized image ckpt.geom
  pub newest : IsNewest ckpt.geom image ckpt.side
  pub head : ckpt.head ≡ head_of (block_at image (head_address ckpt.side))
  pub summary : ckpt.summary ≡ block_at image (summary_address ckpt.side)

-- the entries of the node address table that changed since its blocks were written
abbrev pub journal : Checkpoint → JournalList
journal ckpt = journal_of ckpt.summary

-- the format of an image
abbrev pub format_of : Checkpoint → Format
format_of ckpt = if is_newer_format ckpt.head then Two else One

-- the version that a block of the node log carries
abbrev pub recovery_version : Checkpoint → ℕ
recovery_version ckpt = recovery_version_of ckpt.head
