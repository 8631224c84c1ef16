-- The blocks that what an image stands for depends on, beside those of its checkpoint and its node log.
use Rattle.std.specs.Prelude.{◌≡◌, ℕ, ◌<◌, List}
use Rattle.f2_format.specs.Geometry.{nat_address, nid_limit}
use Rattle.f2_format.specs.Nat.{nat_block_of, is_second_copy}
use Rattle.f2_model.specs.Tree.{Rows}
use Rattle.f2_model.specs.State.{Mark}
use Rattle.f2_image.specs.Images.{Image, block_at}
use Rattle.f2_image.specs.Packs.{Checkpoint, IsCheckpoint}
use Rattle.f2_image.specs.Nodes.{node_address}
use Rattle.f2_image.specs.Chains.{chain}
use Rattle.f2_image.specs.Reached.{IsNode, IsPage}
use Rattle.f2_image.specs.Meanings.{MeansAt}

-- the copies that count of the blocks of the node address table, the nodes of the base, and the pages of its rows and of marked ones
pub data DependsOn (image : Image) (ckpt : Checkpoint) (at : ℕ) : Type 0 where
  table : (nid : ℕ) → nid < nid_limit ckpt.geom → at ≡ nat_address ckpt.geom (nat_block_of nid) (is_second_copy ckpt.head.bitmap (nat_block_of nid)) → DependsOn image ckpt at
  node : (ino offset nid : ℕ) → IsNode image ckpt ino offset nid → at ≡ node_address image ckpt nid → DependsOn image ckpt at
  page : (ino page : ℕ) → IsPage image ckpt ino page at → DependsOn image ckpt at

-- images with one checkpoint and one chain that agree on these blocks stand for the same base and marks
abbrev pub SameBlocksSameMeaning : Type 0
SameBlocksSameMeaning =
    (image other : Image) (ckpt : Checkpoint) (base : Rows) (marks : List Mark) →
    MeansAt image ckpt base marks →
    IsCheckpoint other ckpt →
    chain other ckpt ≡ chain image ckpt →
    ((at : ℕ) → DependsOn image ckpt at → block_at other at ≡ block_at image at) →
    MeansAt other ckpt base marks
