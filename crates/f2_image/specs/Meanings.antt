-- What an image stands for, and when a disk is safe: whatever a crash leaves of it stands for what the machine allows.
use Rattle.std.specs.Prelude.{◌≡◌, ℕ, ◌%◌, ◌^◌, ◌≤◌, List, IsTrue}
use Rattle.f2_format.specs.Geometry.{is_in_node}
use Rattle.f2_format.specs.Footer.{footer_version}
use Rattle.f2_format.specs.Pack.{head_of}
use Rattle.f2_disk.specs.Contents.{Contents, IsImage}
use Rattle.f2_model.specs.Tree.{Rows}
use Rattle.f2_model.specs.State.{State, Mark, Meaning, MayRemain}
use Rattle.f2_image.specs.Images.{Image, block_at}
use Rattle.f2_image.specs.Packs.{Side, tail_address, Checkpoint, IsCheckpoint, format_of}
use Rattle.f2_image.specs.Bases.{IsBase}
use Rattle.f2_image.specs.Chains.{AreMarks}
use Rattle.f2_image.specs.Faults.{IsSound}

-- an image with this checkpoint stands for a base and the marks after it
pub record MeansAt (image : Image) (ckpt : Checkpoint) (base : Rows) (marks : List Mark) : Type 0 where
  pub checkpoint : IsCheckpoint image ckpt
  pub sound : IsSound image ckpt
  pub is_base : IsBase image ckpt base
  pub are_marks : AreMarks image ckpt base marks

abbrev pub Means : Image → Rows → List Mark → Type 0
Means image base marks = (ckpt : Checkpoint) × MeansAt image ckpt base marks

-- no block and no tail of an image is of a later version than its checkpoint, so none can come to count by itself; of what a block
-- carries the lower half tells the checkpoint's version
pub record IsCleanAt (image : Image) (ckpt : Checkpoint) : Type 0 where
  pub nodes : (at : ℕ) → IsTrue (is_in_node ckpt.geom at) → footer_version (block_at image at) % 2 ^ 32 ≤ ckpt.head.version
  pub tails : (side : Side) → (head_of (block_at image (tail_address side))).version ≤ ckpt.head.version

abbrev pub IsClean : Image → Type 0
IsClean image = (ckpt : Checkpoint) × IsCheckpoint image ckpt × IsCleanAt image ckpt

-- an image stands for what may remain of a state, is of that version and format, and is clean
pub record IsLeft (state : State) (image : Image) : Type 0 where
  pub ckpt : Checkpoint
  pub meaning : Meaning
  pub remains : MayRemain state meaning
  pub means : MeansAt image ckpt meaning.base meaning.marks
  pub version : ckpt.head.version ≡ meaning.version
  pub format : format_of ckpt ≡ meaning.format
  pub clean : IsCleanAt image ckpt

-- a crash leaves an image of a disk, and each that it may leave is such a one
abbrev pub IsSafe : Contents → State → Type 0
IsSafe lists state = ((image : Image) × IsImage lists image) × ((image : Image) → IsImage lists image → IsLeft state image)
