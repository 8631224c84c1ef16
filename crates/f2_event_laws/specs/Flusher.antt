-- A direct node that the flusher writes.
use Rattle.std.specs.Prelude.{◌≡◌, ℕ, true, false, List, length}
use Rattle.std.specs.FinSet as set
use Rattle.f2_disk.specs.Contents.{Contents, IsBlock, IsWritten}
use Rattle.f2_model.specs.State.{State}
use Rattle.f2_model.specs.Goes.{node_logged}
use Rattle.f2_image.specs.Chains.{is_marked}
use Rattle.f2_place_laws.specs.Living.{with_node, node_written}
use Rattle.f2_stored.specs.Places.{Places, nid_at}
use Rattle.f2_stored.specs.Trees.{Unwritten}
use Rattle.f2_stored.specs.Layout.{Fate, Written, Layout}
use Rattle.f2_stored.specs.Changes.{with_drawn, with_fate}
use Rattle.f2_stored.specs.Kept.{IsBlockFor}
use Rattle.f2_stored.specs.Whole.{IsKeptWhole}
use Rattle.f2_event_laws.specs.WholeNodes.{MayComeNext}

-- a layout after the next position was drawn for a direct node and the write of its block ended so
abbrev pub with_logged : Layout → List ℕ → Fate → Layout
with_logged layout block fate = with_fate (with_drawn layout block layout.owners) (length layout.log) fate

-- the flusher draws the next position for a dirty direct node of a file that has no dirty page, and writes the node there, in one event; a flusher
-- that wrote a node before the pages whose addresses it tells would break it
abbrev pub FlushedNodesKeep : Type 0
FlushedNodesKeep =
    (lists new : Contents) (layout : Layout) (state : State) (places : Places) (unwritten : Unwritten) (ino offset : ℕ) (block : List ℕ) →
    IsKeptWhole lists layout state places unwritten →
    set.contains state.dirty_nodes (ino, offset) ≡ true →
    ((page : ℕ) → set.contains state.dirty_pages (ino, page) ≡ false) →
    MayComeNext layout state places block →
    is_marked block ≡ false →
    IsBlockFor state places ino offset block →
    IsBlock block →
    IsWritten layout.next block lists new →
    IsKeptWhole new (with_logged layout block Written) (node_logged state ino offset) (with_node places ino offset (record { nid = nid_at places ino offset; at = layout.next })) (node_written unwritten ino offset)
