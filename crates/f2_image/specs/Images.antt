-- An image: the content of each block of a device. Its superblock tells its sizes; F2FS keeps two copies of it and
-- takes the first that is right (read_raw_super_block of super.c).
use Rattle.std.specs.Prelude.{◌≡◌, ℕ, List, [], length, slice_index_or}
use Rattle.f2_format.specs.Geometry.{ImageGeometry}
use Rattle.f2_format.specs.Superblock.{super_geom, IsSuper}

-- the content of each block
abbrev pub Image : Type 0
Image = List (List ℕ)

-- the block at an address
abbrev pub block_at : Image → ℕ → List ℕ
block_at image at = slice_index_or image at []

-- a copy of the superblock is right: it belongs to an image that the device can hold
abbrev pub IsRightCopy : Image → ℕ → Type 0
IsRightCopy image at = IsSuper (block_at image at) (length image)

-- the sizes of an image: those that the first right copy of its superblock tells
pub data IsSized (image : Image) (geom : ImageGeometry) : Type 0 where
  by_first : IsRightCopy image 0 → geom ≡ super_geom (block_at image 0) → IsSized image geom
  by_second : ¬ (IsRightCopy image 0) → IsRightCopy image 1 → geom ≡ super_geom (block_at image 1) → IsSized image geom
