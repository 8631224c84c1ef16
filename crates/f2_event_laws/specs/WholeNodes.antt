-- The direct nodes of a file, drawn and written: all that a running volume keeps.
use Rattle.std.specs.Prelude.{◌≡◌, ◌≢◌, ℕ, ◌<◌, IsTrue, true, false, List, Some, None}
use Rattle.std.specs.FinMap as map
use Rattle.std.specs.FinSet as set
use Rattle.f2_format.specs.Geometry.{node_third, is_in_node}
use Rattle.f2_format.specs.Footer.{footer_version, footer_next}
use Rattle.f2_disk.specs.Contents.{Contents, IsBlock, IsWritten}
use Rattle.f2_model.specs.State.{State, InNodes, Slot, Progress, InFsync}
use Rattle.f2_model.specs.Goes.{node_drawn, with_progress}
use Rattle.f2_image.specs.Chains.{is_marked}
use Rattle.f2_place_laws.specs.Living.{with_node, node_written}
use Rattle.f2_stored.specs.Places.{Places, nid_at}
use Rattle.f2_stored.specs.Trees.{Unwritten}
use Rattle.f2_stored.specs.Layout.{Written, Layout, log_version}
use Rattle.f2_stored.specs.Changes.{IsFree, with_drawn, with_fate}
use Rattle.f2_stored.specs.Kept.{IsElsewhere, IsBlockFor, position_at}
use Rattle.f2_stored.specs.Whole.{IsKeptWhole}
use Rattle.f2_event_laws.specs.Nodes.{offset_of}

-- an address that is drawn ahead, for the block after the next one: a free one of the node zone, and none of the live tree's
pub record IsDrawnAhead (layout : Layout) (places : Places) (at : ℕ) : Type 0 where
  pub in_zone : IsTrue (is_in_node layout.base.ckpt.geom at)
  pub free : IsFree layout at
  pub elsewhere : IsElsewhere places at

-- a block may come next in the log: there is a position for it, and room; it carries the log's version, and names an address drawn ahead, or
-- none where the log takes no more after it
pub record MayComeNext (layout : Layout) (state : State) (places : Places) (block : List ℕ) : Type 0 where
  pub room : state.node_writes < node_third layout.base.ckpt.geom
  pub there : layout.next ≢ 0
  pub version : footer_version block ≡ log_version layout
  pub ahead : footer_next block ≢ 0 → IsDrawnAhead layout places (footer_next block)

-- an fsync draws the next position for a dirty direct node of its file, and takes its block there; a volume that gave the node another nid
-- than it has would break it
abbrev pub DrawnNodesKeepWhole : Type 0
DrawnNodesKeepWhole =
    (lists : Contents) (layout : Layout) (state : State) (places : Places) (unwritten : Unwritten) (seat ino offset : ℕ) (progress : Progress) (block : List ℕ) →
    IsKeptWhole lists layout state places unwritten →
    map.get state.flights seat ≡ Some (InFsync ino progress) →
    progress.part ≡ InNodes →
    progress.slot ≡ None →
    set.contains state.dirty_nodes (ino, offset) ≡ true →
    MayComeNext layout state places block →
    is_marked block ≡ false →
    IsBlockFor state places ino offset block →
    IsKeptWhole lists (with_drawn layout block layout.owners) (node_drawn state seat ino offset).after places unwritten

-- an fsync writes the block of its slot at the slot's position; a volume that went on with the node's old place would break it
abbrev pub SubmittedSlotsKeepWhole : Type 0
SubmittedSlotsKeepWhole =
    (lists new : Contents) (layout : Layout) (state : State) (places : Places) (unwritten : Unwritten) (seat ino : ℕ) (progress : Progress) (slot : Slot) →
    IsKeptWhole lists layout state places unwritten →
    map.get state.flights seat ≡ Some (InFsync ino progress) →
    progress.slot ≡ Some slot →
    IsBlock (position_at layout slot.position).logged.block →
    IsWritten (position_at layout slot.position).logged.at (position_at layout slot.position).logged.block lists new →
    IsKeptWhole new (with_fate layout slot.position Written) (with_progress state seat ino (record progress { slot = None }))
    (with_node places ino (offset_of slot.drawn) (record { nid = nid_at places ino (offset_of slot.drawn); at = (position_at layout slot.position).logged.at }))
    (node_written unwritten ino (offset_of slot.drawn))
