-- What a checkpoint writes before its tail, and its first flush.
use Rattle.std.specs.Prelude.{◌≡◌, ℕ, ◌<◌, IsTrue, List, length, Some, None, IsSome}
use Rattle.std.specs.FinMap as map
use Rattle.f2_format.specs.Geometry.{is_in_data}
use Rattle.f2_disk.specs.Contents.{Contents, IsWritten, flushed}
use Rattle.f2_model.specs.State.{State}
use Rattle.f2_model.specs.declared.rows.Row.{Row}
use Rattle.f2_image_laws.specs.Rolled.{image_limits}
use Rattle.f2_room_laws.specs.ProperTrees.{IsProperTree}
use Rattle.f2_place_laws.specs.Living.{with_page, with_node, page_written, node_written}
use Rattle.f2_stored.specs.Places.{NodeAt, Places, IsPageBlock}
use Rattle.f2_stored.specs.Trees.{IsNodeHere, Unwritten, IsLiveAt}
use Rattle.f2_stored.specs.Layout.{Layout}
use Rattle.f2_stored.specs.Changes.{Wrote, IsFree, MayBeWritten}
use Rattle.f2_stored.specs.Kept.{IsElsewhere}
use Rattle.f2_stored.specs.Stored.{IsStored}

-- a checkpoint is being written: what counts stays, and of the live tree what isn't to be written stands at its places
pub record IsCheckpointing (lists : Contents) (layout : Layout) (state : State) (places : Places) (unwritten : Unwritten) : Type 0 where
  pub stored : IsStored lists layout state
  pub none_pending : layout.pending ≡ None
  pub proper : IsProperTree (image_limits layout.base.ckpt.geom) state.live
  pub live : IsLiveAt lists layout.base.ckpt.geom state.live places unwritten

-- a page, a file's own or a directory's names, is written to a free address
abbrev pub CheckpointPagesStand : Type 0
CheckpointPagesStand =
    (lists new : Contents) (layout : Layout) (state : State) (places : Places) (unwritten : Unwritten) (ino page at : ℕ) (row : Row) (content : List ℕ) →
    IsCheckpointing lists layout state places unwritten →
    map.get state.live ino ≡ Some row →
    IsSome (map.get places.pages (ino, page)) →
    IsPageBlock places row page content →
    IsFree layout at →
    IsElsewhere places at →
    at < length lists →
    IsTrue (is_in_data layout.base.ckpt.geom at) →
    MayBeWritten layout at content →
    IsWritten at content lists new →
    IsCheckpointing new layout state (with_page places ino page at) (page_written unwritten ino page)

-- a node is written to a free address
abbrev pub CheckpointNodesStand : Type 0
CheckpointNodesStand =
    (lists new : Contents) (layout : Layout) (state : State) (places : Places) (unwritten : Unwritten) (ino offset : ℕ) (old node : NodeAt) (content : List ℕ) →
    IsCheckpointing lists layout state places unwritten →
    map.get places.nodes (ino, offset) ≡ Some old →
    node.nid ≡ old.nid →
    IsNodeHere layout.base.ckpt.geom state.live places ino offset node content →
    IsFree layout node.at →
    IsElsewhere places node.at →
    node.at < length lists →
    MayBeWritten layout node.at content →
    IsWritten node.at content lists new →
    IsCheckpointing new layout state (with_node places ino offset node) (node_written unwritten ino offset)

-- any other block is written to a free address, made or failed: of the table, of the summary, or the head
abbrev pub CheckpointBlocksKeep : Type 0
CheckpointBlocksKeep =
    (lists new : Contents) (layout : Layout) (state : State) (places : Places) (unwritten : Unwritten) (at : ℕ) (content : List ℕ) →
    IsCheckpointing lists layout state places unwritten →
    IsFree layout at →
    IsElsewhere places at →
    at < length lists →
    MayBeWritten layout at content →
    Wrote lists at content new →
    IsCheckpointing new layout state places unwritten

-- the first flush
abbrev pub CheckpointFlushesKeep : Type 0
CheckpointFlushesKeep =
    (lists : Contents) (layout : Layout) (state : State) (places : Places) (unwritten : Unwritten) →
    IsCheckpointing lists layout state places unwritten →
    IsCheckpointing (flushed lists) layout state places unwritten
