-- What is read of an image.
use Rattle.std.specs.Prelude.{◌≡◌, ℕ, ◌≤◌}
use Rattle.f2_image.specs.Images.{Image}
use Rattle.f2_image.specs.Faults.{MOST_VERSION}
use Rattle.f2_model.specs.Tree.{Rows}
use Rattle.f2_laid.specs.Laid.{IsStorable, IsKept, IsLaid}
use Rattle.f2_laid.specs.declared.stored.Stored.{Stored}

-- a tree that can be stored is laid out plainly in an image
pub record IsLaidOut (image : Image) (tree : Rows) (stored : Stored) : Type 0 where
  pub storable : IsStorable stored.geometry tree
  pub laid : IsLaid image tree stored

-- what is laid out in an image is this tree, as this tells of it
abbrev pub IsAllLaidIn : Image → Rows → Stored → Type 0
IsAllLaidIn image found told = (tree : Rows) (stored : Stored) → IsStorable stored.geometry tree → IsLaid image tree stored → (found ≡ tree) × (told ≡ stored)

-- a tree and what is told of it that a checkpoint can be written after, on a disk of so many blocks
pub record IsSoundOn (blocks : ℕ) (tree : Rows) (stored : Stored) : Type 0 where
  pub storable : IsStorable stored.geometry tree
  pub kept : IsKept stored.geometry stored.places
  pub fits : stored.geometry.blocks ≤ blocks
  pub version : stored.version ≤ MOST_VERSION

-- no tree is laid out plainly in an image under a version that a mount takes
abbrev pub HasNoneLaid : Image → Type 0
HasNoneLaid image = (tree : Rows) (stored : Stored) → IsStorable stored.geometry tree → stored.version ≤ MOST_VERSION → ¬ (IsLaid image tree stored)
