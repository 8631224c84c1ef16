-- The direct nodes of a file: drawn, and written.
use Rattle.std.specs.Prelude.{◌≡◌, ◌≢◌, ℕ, ◌<◌, true, false, List, length, Some, None}
use Rattle.std.specs.FinMap as map
use Rattle.std.specs.FinSet as set
use Rattle.f2_format.specs.Footer.{footer_next}
use Rattle.f2_disk.specs.Contents.{Contents, IsBlock, IsWritten}
use Rattle.f2_model.specs.State.{State, InNodes, Drawn, DrawnNode, DrawnMark, Slot, Progress, InFsync}
use Rattle.f2_model.specs.Goes.{node_drawn, with_progress}
use Rattle.f2_image.specs.Chains.{is_marked}
use Rattle.f2_image.specs.Reached.{IsDirect}
use Rattle.f2_change_laws.specs.Drawing.{MayBeDrawn}
use Rattle.f2_place_laws.specs.Living.{with_node, node_written}
use Rattle.f2_stored.specs.Places.{Places, nid_at}
use Rattle.f2_stored.specs.Trees.{Unwritten}
use Rattle.f2_stored.specs.Layout.{Written, Layout}
use Rattle.f2_stored.specs.Changes.{with_drawn, with_fate}
use Rattle.f2_stored.specs.Kept.{IsElsewhere, IsBlockFor, position_at, IsKept}

-- a further address that is drawn ahead is none of the live tree's
abbrev pub IsNextElsewhere : Places → ℕ → Type 0
IsNextElsewhere places next = next ≢ 0 → IsElsewhere places next

-- an fsync draws the next position for a dirty direct node of its file, and takes its block there
abbrev pub DrawnNodesKeep : Type 0
DrawnNodesKeep =
    (lists : Contents) (layout : Layout) (state : State) (places : Places) (unwritten : Unwritten) (seat ino offset : ℕ) (progress : Progress) (block : List ℕ) →
    IsKept lists layout state places unwritten →
    map.get state.flights seat ≡ Some (InFsync ino progress) →
    progress.part ≡ InNodes →
    progress.slot ≡ None →
    set.contains state.dirty_nodes (ino, offset) ≡ true →
    IsDirect offset →
    MayBeDrawn layout block →
    IsNextElsewhere places (footer_next block) →
    is_marked block ≡ false →
    IsBlockFor state places ino offset block →
    IsKept lists (with_drawn layout block layout.owners) (node_drawn state seat ino offset).after places unwritten

-- the node of a slot: a direct node, or the inode
abbrev pub offset_of : Drawn → ℕ
offset_of (DrawnNode offset) = offset
offset_of DrawnMark = 0

-- an fsync writes the block of its slot at the slot's position
abbrev pub SubmittedSlotsKeep : Type 0
SubmittedSlotsKeep =
    (lists new : Contents) (layout : Layout) (state : State) (places : Places) (unwritten : Unwritten) (seat ino : ℕ) (progress : Progress) (slot : Slot) →
    IsKept lists layout state places unwritten →
    map.get state.flights seat ≡ Some (InFsync ino progress) →
    progress.slot ≡ Some slot →
    (position_at layout slot.position).logged.at < length lists →
    IsBlock (position_at layout slot.position).logged.block →
    IsWritten (position_at layout slot.position).logged.at (position_at layout slot.position).logged.block lists new →
    IsKept new (with_fate layout slot.position Written) (with_progress state seat ino (record progress { slot = None }))
    (with_node places ino (offset_of slot.drawn) (record { nid = nid_at places ino (offset_of slot.drawn); at = (position_at layout slot.position).logged.at }))
    (node_written unwritten ino (offset_of slot.drawn))
