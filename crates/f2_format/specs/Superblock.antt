-- The superblock, which stands in block 0 and in block 1. The magic number and its place are F2FS's
-- (F2FS_SUPER_MAGIC, F2FS_SUPER_OFFSET and the first field of `struct f2fs_super_block`); the other fields are
-- this project's own. Bytes that no field covers are written as 0 and not looked at.
use Rattle.std.specs.Prelude.{◌≤◌, ◌≡◌, ℕ, List, [], ◌∷◌}
use Rattle.f2_format.specs.Bytes.{BLOCK_BYTES, number_at, number_bytes, with_fields, zeros}
use Rattle.f2_format.specs.Geometry.{ImageGeometry, IsGeometry}

-- F2FS_SUPER_MAGIC
abbrev pub MAGIC : ℕ
MAGIC = 0xF2F52010

-- the eight bytes `F2NPROF1`, read as a number
abbrev pub TAG : ℕ
TAG = 0x31464F52504E3246

-- where the magic number stands (F2FS_SUPER_OFFSET)
abbrev pub SUPER_MAGIC : ℕ
SUPER_MAGIC = 1024

-- where the tag stands
abbrev pub SUPER_TAG : ℕ
SUPER_TAG = 1028

-- where the number of blocks stands
abbrev pub SUPER_BLOCKS : ℕ
SUPER_BLOCKS = 1036

-- where the number of blocks of one copy of the node address table stands
abbrev pub SUPER_NAT : ℕ
SUPER_NAT = 1040

-- the sizes that a superblock tells
abbrev pub super_geom : List ℕ → ImageGeometry
super_geom block = record { blocks = number_at 4 block SUPER_BLOCKS; nat = number_at 4 block SUPER_NAT }

-- a superblock of an image that a device with so many blocks holds
pub record IsSuper (block : List ℕ) (device : ℕ) : Type 0 where
  pub magic : number_at 4 block SUPER_MAGIC ≡ MAGIC
  pub tag : number_at 8 block SUPER_TAG ≡ TAG
  pub geometry : IsGeometry (super_geom block)
  pub within : (super_geom block).blocks ≤ device

-- the superblock of an image of these sizes
abbrev pub super_block : ImageGeometry → List ℕ
super_block geom =
    with_fields (zeros BLOCK_BYTES)
    ((SUPER_MAGIC, number_bytes 4 MAGIC)
    ∷ (SUPER_TAG, number_bytes 8 TAG)
    ∷ (SUPER_BLOCKS, number_bytes 4 geom.blocks)
    ∷ (SUPER_NAT, number_bytes 4 geom.nat)
    ∷ [])
