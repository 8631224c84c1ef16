-- The blocks of a whole directory: its dentries in their order, each at the place where `Packing` of `f2_format`
-- puts its name.
use Rattle.std.specs.Prelude.{◌≡◌, ℕ, ◌^◌, ◌<◌, ◌≤◌, ◌==◌, ◌⊎◌, List, map, filter, length, None, All}
use Rattle.std.specs.List.{flat_map, range_with_len, zip}
use Rattle.f2_format.specs.Dentry.{Dentry, REGULAR_TYPE, DIRECTORY_TYPE, dentries_of, dentry_block, dentry_fault}
use Rattle.f2_format.specs.Inode.{NAME_BYTES}
use Rattle.f2_format.specs.Packing.{blocks_of_names, places_of}

-- the names of these dentries
abbrev pub names_of : List Dentry → List (List ℕ)
names_of dentries = map (λ (dentry : Dentry). dentry.name) dentries

-- the dentries of a directory that stand in this block of it, each with its first slot
abbrev pub placed_in : ℕ → List Dentry → List (ℕ × Dentry)
placed_in block dentries =
    map (λ placed. (placed.0.1, placed.1))
    (filter (λ placed. placed.0.0 == block) (zip (places_of (names_of dentries)) dentries))

-- the blocks of a directory with these dentries
abbrev pub packed_blocks : List Dentry → List (List ℕ)
packed_blocks dentries =
    map (λ block. dentry_block (placed_in block dentries)) (range_with_len 0 (blocks_of_names (names_of dentries)))

-- a name that a dentry can have: 1 to 255 bytes
pub record HasNameLength (name : List ℕ) : Type 0 where
  pub some : 1 ≤ length name
  pub most : length name ≤ NAME_BYTES

-- a dentry whose fields fit
pub record IsFitting (dentry : Dentry) : Type 0 where
  pub name : HasNameLength dentry.name
  pub ino : dentry.ino < 2 ^ 32
  pub type : (dentry.type ≡ REGULAR_TYPE) ⊎ (dentry.type ≡ DIRECTORY_TYPE)

-- the dentries that the blocks of a directory have are those that were packed, in their order, and no block has a fault
abbrev pub PackedNamesReadBack : Type 0
PackedNamesReadBack =
    (dentries : List Dentry) → All IsFitting dentries
    → (flat_map dentries_of (packed_blocks dentries) ≡ dentries)
    × All (λ block. dentry_fault block ≡ None) (packed_blocks dentries)
