-- What an image that is laid out plainly stands for, and how it comes and stays.
use Rattle.std.specs.Prelude.{◌≡◌, ◌⊎◌, ℕ, ◌<◌, ◌≤◌, not, List, [], length, IsTrue, slice_set}
use Rattle.f2_format.specs.Geometry.{is_in_node}
use Rattle.f2_format.specs.Footer.{footer_version}
use Rattle.f2_format.specs.Pack.{head_of}
use Rattle.f2_model.specs.Tree.{Rows}
use Rattle.f2_image.specs.Images.{Image, block_at, IsSized}
use Rattle.f2_image.specs.Packs.{Checkpoint, other_side, tail_address, version_of, IsValid}
use Rattle.f2_image.specs.Meanings.{MeansAt, IsCleanAt}
use Rattle.f2_laid.specs.Laid.{IsStorable, IsLaid, IsLaidAt, side_of}
use Rattle.f2_laid.specs.Planned.{IsPlanOf, Writes, put_all}
use Rattle.f2_laid.specs.declared.planned.Planned.{Planned}
use Rattle.f2_laid.specs.declared.stored.Stored.{Stored}

-- an image that is laid out plainly stands for its tree, with no marks, and is clean
abbrev pub LaidImagesMean : Type 0
LaidImagesMean =
    (image : Image) (ckpt : Checkpoint) (tree : Rows) (stored : Stored) → IsStorable stored.geometry tree → IsLaidAt image ckpt tree stored
    → MeansAt image ckpt tree [] × IsCleanAt image ckpt

-- an image has one tree at most that is laid out so
abbrev pub OneLaid : Type 0
OneLaid = (image : Image) (a b : Rows) (stored other : Stored) → IsStorable stored.geometry a → IsStorable other.geometry b → IsLaid image a stored → IsLaid image b other → (a ≡ b) × (stored ≡ other)

-- an image that a checkpoint of a tree may be written to: its sizes are known, its other pack is older, and it has no
-- node log
pub record IsReadyFor (image : Image) (stored : Stored) : Type 0 where
  pub sized : IsSized image stored.geometry
  pub blocks : stored.geometry.blocks ≤ length image
  pub other : IsValid stored.geometry image (other_side (side_of stored.side)) → version_of image (other_side (side_of stored.side)) < stored.version
  pub tail : (head_of (block_at image (tail_address (other_side (side_of stored.side))))).version ≤ stored.version
  pub unlogged : (at : ℕ) → IsTrue (is_in_node stored.geometry at) → footer_version (block_at image at) ≡ 0
  pub first : 1 ≤ stored.version

-- after all blocks of a plan and its tail were written, the tree is laid out
abbrev pub PlansMakeLaid : Type 0
PlansMakeLaid =
    (image : Image) (tree : Rows) (stored old : Stored) (plan : List Planned) (tail : List ℕ) → IsStorable stored.geometry tree → IsReadyFor image stored
    → IsPlanOf tree old.places stored plan tail
    → IsLaid (slice_set (put_all image plan) (tail_address (side_of stored.side)) tail) tree stored

-- some blocks of a plan were written to an image
pub record IsPartlyWritten (image other : Image) (plan : List Planned) : Type 0 where
  pub size : length other ≡ length image
  pub blocks : (at : ℕ) → (block_at other at ≡ block_at image at) ⊎ Writes plan at (block_at other at)

-- a checkpoint comes after another on one image: in the other pack, with the other copy of the table
pub record IsNext (old next : Stored) : Type 0 where
  pub geometry : next.geometry ≡ old.geometry
  pub side : side_of next.side ≡ other_side (side_of old.side)
  pub version : old.version < next.version
  pub second : next.second ≡ not old.second

-- as long as the tail isn't written, the tree of the last checkpoint stays laid out
abbrev pub LaidImagesStay : Type 0
LaidImagesStay =
    (image other : Image) (tree new : Rows) (stored next : Stored) (plan : List Planned) (tail : List ℕ) → IsStorable stored.geometry tree → IsStorable next.geometry new → IsLaid image tree stored
    → IsNext stored next → IsPlanOf new stored.places next plan tail → IsPartlyWritten image other plan → IsLaid other tree stored

-- a checkpoint may be written to an image on which the last one is laid out
abbrev pub LaidImagesAreReady : Type 0
LaidImagesAreReady = (image : Image) (tree : Rows) (stored next : Stored) → IsLaid image tree stored → IsNext stored next → IsReadyFor image next
