-- What the definitions of an image come to: statements about them that hold for every image.
use Rattle.std.specs.Prelude.{◌≡◌, ℕ, ◌+◌, ◌≤◌, List, length}
use Rattle.f2_format.specs.Geometry.{node_third, nat_address}
use Rattle.f2_format.specs.Nat.{nat_block_of, is_second_copy}
use Rattle.f2_model.specs.Tree.{Rows}
use Rattle.f2_model.specs.State.{Mark}
use Rattle.f2_image.specs.Images.{Image, block_at}
use Rattle.f2_image.specs.Packs.{Checkpoint, IsCheckpoint}
use Rattle.f2_image.specs.Nodes.{node_address}
use Rattle.f2_image.specs.Bases.{IsBase}
use Rattle.f2_image.specs.Chains.{chain, AreMarks}
use Rattle.f2_image.specs.Reached.{IsNode, IsBasePage}
use Rattle.f2_image.specs.Faults.{IsSound}
use Rattle.f2_image.specs.Meanings.{MeansAt}

-- an image has one checkpoint at most, and with it one base and one list of marks
abbrev pub OneCheckpoint : Type 0
OneCheckpoint = (image : Image) (a b : Checkpoint) → IsCheckpoint image a → IsCheckpoint image b → a ≡ b

abbrev pub OneBase : Type 0
OneBase = (image : Image) (ckpt : Checkpoint) (a b : Rows) → IsBase image ckpt a → IsBase image ckpt b → a ≡ b

abbrev pub OneListOfMarks : Type 0
OneListOfMarks = (image : Image) (ckpt : Checkpoint) (base : Rows) (a b : List Mark) → AreMarks image ckpt base a → AreMarks image ckpt base b → a ≡ b

-- an image that is sound has a base and a list of marks, and by the three laws above no other
abbrev pub SoundMeans : Type 0
SoundMeans = (image : Image) (ckpt : Checkpoint) → IsCheckpoint image ckpt → IsSound image ckpt → (base : Rows) × ((marks : List Mark) × MeansAt image ckpt base marks)

-- a chain ends within one block more than a third of the node zone
abbrev pub ChainsEnd : Type 0
ChainsEnd = (image : Image) (ckpt : Checkpoint) → length (chain image ckpt) ≤ node_third ckpt.geom + 1

-- the blocks that a base is read from: those of the node address table for its nodes, its nodes and its pages
pub data IsReadFrom (image : Image) (ckpt : Checkpoint) (at : ℕ) : Type 0 where
  table : (ino offset nid : ℕ) → IsNode image ckpt ino offset nid → at ≡ nat_address ckpt.geom (nat_block_of nid) (is_second_copy ckpt.head.bitmap (nat_block_of nid)) → IsReadFrom image ckpt at
  node : (ino offset nid : ℕ) → IsNode image ckpt ino offset nid → at ≡ node_address image ckpt nid → IsReadFrom image ckpt at
  page : (ino page : ℕ) → IsBasePage image ckpt ino page at → IsReadFrom image ckpt at

-- images that agree on the blocks that a base is read from have the same base
abbrev pub SameBlocksSameBase : Type 0
SameBlocksSameBase = (image other : Image) (ckpt : Checkpoint) (base : Rows) → IsBase image ckpt base
    → ((at : ℕ) → IsReadFrom image ckpt at → block_at other at ≡ block_at image at) → IsBase other ckpt base
