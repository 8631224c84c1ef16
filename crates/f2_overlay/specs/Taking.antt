-- The nodes that recovery takes of a node log.
use Rattle.std.specs.Prelude.{◌≡◌, ◌≢◌, ℕ, zero, suc, ◌+◌, if◌then◌else◌, List, slice_index_or, Option, Some, None}
use Rattle.std.specs.Option.{option_map}
use Rattle.std.specs.Ordering.{nat_cmp}
use Rattle.std.specs.FinMap as map
use Rattle.f2_format.specs.Footer.{footer_nid}
use Rattle.f2_image.specs.Images.{Image}
use Rattle.f2_image.specs.Packs.{Checkpoint}
use Rattle.f2_image.specs.Chains.{Logged, chain, no_block, block_in, is_node_of}
use Rattle.f2_image.specs.Reached.{IsDirect}
use Rattle.f2_overlay.specs.Pending.{Places}
use Rattle.f2_overlay.specs.declared.taking.NodeAt.{NodeAt}

-- the nodes of a file, by their offsets
abbrev pub Nodes : Type 0
Nodes = map.FinMap nat_cmp NodeAt

-- the last place before another one at which a node of a file stands
abbrev pub last_node_before : List Logged → ℕ → ℕ → ℕ → Option ℕ
last_node_before log zero ino offset = None
last_node_before log (suc place) ino offset = if is_node_of (block_in log place) ino offset then Some place else last_node_before log place ino offset

-- the node that a block of a log has, and that of the block at a place
abbrev pub node_of : Logged → NodeAt
node_of logged = record { nid = footer_nid logged.block; at = logged.at }

abbrev pub node_in : List Logged → ℕ → NodeAt
node_in log place = node_of (slice_index_or log place no_block)

-- the nodes that recovery takes of a file whose mark stands at a place: its inode, which is the mark, and of each of its direct nodes the last
-- block up to the mark; none of another offset
pub record AreNodesAt (image : Image) (ckpt : Checkpoint) (place ino : ℕ) (nodes : Nodes) : Type 0 where
  pub inode : map.get nodes 0 ≡ Some (node_in (chain image ckpt) place)
  pub direct : (offset : ℕ) → IsDirect offset → map.get nodes offset ≡ option_map (node_in (chain image ckpt)) (last_node_before (chain image ckpt) (place + 1) ino offset)
  pub others : (offset : ℕ) → offset ≢ 0 → ¬ (IsDirect offset) → map.get nodes offset ≡ None

-- the direct nodes of some places of a log were taken, and of the others those that are left; nodes of other offsets never are
pub record AreNodesTaken (log : List Logged) (places left : Places) (old new : Nodes) : Type 0 where
  pub taken : (offset place : ℕ) → IsDirect offset → map.get places offset ≡ Some place → map.get left offset ≡ None → map.get new offset ≡ Some (node_in log place)
  pub later : (offset place : ℕ) → map.get left offset ≡ Some place → map.get new offset ≡ map.get old offset
  pub others : (offset : ℕ) → map.get places offset ≡ None → map.get new offset ≡ map.get old offset
  pub passed : (offset : ℕ) → ¬ (IsDirect offset) → map.get new offset ≡ map.get old offset
