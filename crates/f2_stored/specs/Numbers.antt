-- Whose a nid is, of the nodes of base and log, and whose a data block is, of the pages of base and marks.
use Rattle.std.specs.Prelude.{◌≡◌, ◌⊎◌, ℕ, ◌*◌, ◌<◌, ◌≤◌, IsTrue, List, length, slice_index_or, Some}
use Rattle.std.specs.FinMap as map
use Rattle.f2_format.specs.Geometry.{nid_limit, data_third}
use Rattle.f2_format.specs.Footer.{footer_nid, footer_ino, footer_offset, has_fsync_mark}
use Rattle.f2_image.specs.Chains.{Logged, no_block, block_in, is_marked}
use Rattle.f2_image.specs.Reached.{IsNode, IsDirect, IsBasePage}
use Rattle.f2_stored.specs.Layout.{Layout, chained}

-- a block of the log is a node with its nid: a direct node, or an inode, which has the fsync mark
pub record IsNumbered (layout : Layout) (one : Logged) : Type 0 where
  pub nid : map.get layout.nids (footer_ino one.block, footer_offset one.block) ≡ Some (footer_nid one.block)
  pub least : 4 ≤ footer_nid one.block
  pub most : footer_nid one.block < nid_limit layout.base.ckpt.geom
  pub inode : footer_offset one.block ≡ 0 → footer_nid one.block ≡ footer_ino one.block
  pub shape : ((footer_offset one.block ≡ 0) × IsTrue (has_fsync_mark one.block)) ⊎ IsDirect (footer_offset one.block)

-- a block of a node log counts where a marked block of its file stands there or later
pub record CountsAt (log : List Logged) (place : ℕ) : Type 0 where
  pub mark : ℕ
  pub later : place ≤ mark
  pub small : mark < length log
  pub marked : IsTrue (is_marked (block_in log mark))
  pub same : footer_ino (block_in log mark) ≡ footer_ino (block_in log place)

-- each block that the log has of a file is numbered, so all of them may count: what a new mark of the file asks
abbrev pub MayCount : Layout → ℕ → Type 0
MayCount layout ino = (place : ℕ) → place < length (chained layout) → footer_ino (block_in (chained layout) place) ≡ ino → IsNumbered layout (slice_index_or (chained layout) place no_block)

-- each node of the base, and each of the log whose block counts, has one nid, and no other node has it; of a block that doesn't count, as of
-- a file that went since and has no mark, no recovery asks
pub record HasNids (layout : Layout) : Type 0 where
  pub base : (ino offset nid : ℕ) → IsNode layout.base.image layout.base.ckpt ino offset nid → map.get layout.nids (ino, offset) ≡ Some nid
  pub log : (place : ℕ) → place < length (chained layout) → CountsAt (chained layout) place → IsNumbered layout (slice_index_or (chained layout) place no_block)
  pub differ : (one other : ℕ × ℕ) (nid : ℕ) → map.get layout.nids one ≡ Some nid → map.get layout.nids other ≡ Some nid → one ≡ other

-- each data block of the base has its owner, and all that have one fit two thirds of their zone
pub record HasOwners (layout : Layout) : Type 0 where
  pub base : (ino page at : ℕ) → IsBasePage layout.base.image layout.base.ckpt ino page at → map.get layout.owners at ≡ Some (ino, page)
  pub few : map.len layout.owners ≤ 2 * data_third layout.base.ckpt.geom
