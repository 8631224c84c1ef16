-- What is right of the nids and the addresses of a node log.
use Rattle.std.specs.Prelude.{◌≡◌, ◌≢◌, ℕ, ◌<◌, ◌≤◌, List, length, slice_index_or}
use Rattle.f2_format.specs.Footer.{footer_nid, footer_ino, footer_offset}
use Rattle.f2_format.specs.Geometry.{nid_limit}
use Rattle.f2_image.specs.Images.{Image}
use Rattle.f2_image.specs.Packs.{Checkpoint}
use Rattle.f2_image.specs.Nodes.{node_address}
use Rattle.f2_image.specs.Chains.{chain, no_block}
use Rattle.f2_image.specs.Reached.{IsNode, IsTaken}
use Rattle.f2_image.specs.Faults.{HasNid}

-- the nid of a block that recovery takes is one that a file can have, an inode's is its ino, a node of the base keeps its own, and no other
-- node of base and log has it
pub record IsRightNid (image : Image) (ckpt : Checkpoint) (block : List ℕ) : Type 0 where
  pub least : 4 ≤ footer_nid block
  pub most : footer_nid block < nid_limit ckpt.geom
  pub inode : footer_offset block ≡ 0 → footer_nid block ≡ footer_ino block
  pub kept : (nid : ℕ) → IsNode image ckpt (footer_ino block) (footer_offset block) nid → nid ≡ footer_nid block
  pub alone : (ino offset : ℕ) → HasNid image ckpt ino offset (footer_nid block) → (ino ≡ footer_ino block) × (offset ≡ footer_offset block)

abbrev pub HasRightNids : Image → Checkpoint → Type 0
HasRightNids image ckpt = (place : ℕ) (block : List ℕ) → IsTaken image ckpt place block → IsRightNid image ckpt block

-- no block of the node log stands at the address of a node of the base
abbrev pub IsApart : Image → Checkpoint → Type 0
IsApart image ckpt = (ino offset nid place : ℕ) → IsNode image ckpt ino offset nid → place < length (chain image ckpt) → (slice_index_or (chain image ckpt) place no_block).at ≢ node_address image ckpt nid
