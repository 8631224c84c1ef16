-- An image that has its superblocks and nothing else.
use Rattle.std.specs.Prelude.{◌≡◌, ℕ, ◌<◌, ◌≤◌, length, slice_set}
use Rattle.f2_format.specs.Geometry.{ImageGeometry, data_start}
use Rattle.f2_format.specs.Superblock.{super_block}
use Rattle.f2_disk.specs.Contents.{Contents, latest, alone, zeros}
use Rattle.f2_image.specs.Images.{Image, block_at}

-- Superblocks of these sizes stand in the blocks 0 and 1, and zeros in the blocks from there to the data zone. What
-- the data zone has doesn't matter.
pub record IsBlank (geom : ImageGeometry) (image : Image) : Type 0 where
  pub size : geom.blocks ≤ length image
  pub first : block_at image 0 ≡ super_block geom
  pub second : block_at image 1 ≡ super_block geom
  pub clear : (at : ℕ) → 2 ≤ at → at < data_start geom → block_at image at ≡ zeros

-- a disk holds one blank image
abbrev pub HasBlank : ImageGeometry → Contents → Contents → Type 0
HasBlank geom before after = (image : Image) × (after ≡ alone image) × IsBlank geom image

-- the newest contents of the first blocks are zeros
pub record IsCleared (end : ℕ) (before after : Contents) : Type 0 where
  pub size : length after ≡ length before
  pub clear : (at : ℕ) → at < end → at < length after → block_at (latest after) at ≡ zeros

-- the newest contents of the blocks 0 and 1 are superblocks, and all others are as before
pub record HasSupers (geom : ImageGeometry) (before after : Contents) : Type 0 where
  pub size : length after ≡ length before
  pub put : latest after ≡ slice_set (slice_set (latest before) 0 (super_block geom)) 1 (super_block geom)
