-- Writes and flushes that fail: the volume is closed, and its disk keeps what a crash may leave of the state.
use Rattle.std.specs.Prelude.{◌≡◌, ℕ, IsTrue, true, false, List, [], ◌∷◌, Some, None}
use Rattle.std.specs.FinMap as map
use Rattle.std.specs.FinSet as set
use Rattle.f2_format.specs.Geometry.{is_in_data}
use Rattle.f2_disk.specs.Contents.{Contents, IsBlock, IsWriteFailed}
use Rattle.f2_model.specs.State.{State, Slot, Progress, InFsync}
use Rattle.f2_model.specs.Turns.{Faults, NO_SEAT, turn_with, unchanged, closed_by_fault, step_failed}
use Rattle.f2_model.specs.Goes.{page_written, node_logged, with_progress, step_of}
use Rattle.f2_model.specs.declared.events.Answer.{Answer}
use Rattle.f2_model.specs.declared.events.Answer.TheVariants.{Stepped, Ticked}
use Rattle.f2_model.specs.declared.histories.CallKind.TheVariants as kind
use Rattle.f2_model.specs.declared.histories.Entry.{Entry}
use Rattle.f2_model.specs.declared.histories.Entry.TheVariants as entry
use Rattle.f2_model.specs.declared.replies.Tick.TheVariants as tick
use Rattle.f2_image.specs.Chains.{is_marked}
use Rattle.f2_stored.specs.Places.{Places}
use Rattle.f2_stored.specs.Trees.{Unwritten}
use Rattle.f2_stored.specs.Layout.{Failed, Layout}
use Rattle.f2_stored.specs.Changes.{IsFree, with_fate}
use Rattle.f2_stored.specs.Stored.{IsStored}
use Rattle.f2_stored.specs.Kept.{IsBlockFor, position_at}
use Rattle.f2_stored.specs.Whole.{IsKeptWhole}
use Rattle.f2_event_laws.specs.Flusher.{with_logged}
use Rattle.f2_event_laws.specs.WholeNodes.{MayComeNext}

-- of a page, whoever wrote it: an fsync, with its seat, answer and entries, or the flusher; a volume that wrote the page in its old place would
-- break it
abbrev pub FailedPagesLeave : Type 0
FailedPagesLeave =
    (lists new : Contents) (layout : Layout) (state : State) (places : Places) (unwritten : Unwritten) (ino page at : ℕ) (content : List ℕ) (faults : Faults) (seat : ℕ) (failed meant : Answer) (entries : List Entry) →
    IsKeptWhole lists layout state places unwritten →
    IsFree layout at →
    IsTrue (is_in_data layout.base.ckpt.geom at) →
    IsBlock content →
    IsWriteFailed at content lists new →
    IsStored new layout (closed_by_fault faults seat kind.Write failed (turn_with meant entries [] (page_written state ino page))).after

-- of the block of a slot: it may stand at its position all the same, and then counts; a volume that took the position for written would break it
abbrev pub FailedSlotsLeave : Type 0
FailedSlotsLeave =
    (lists new : Contents) (layout : Layout) (state : State) (places : Places) (unwritten : Unwritten) (seat ino : ℕ) (progress : Progress) (slot : Slot) (faults : Faults) →
    IsKeptWhole lists layout state places unwritten →
    map.get state.flights seat ≡ Some (InFsync ino progress) →
    progress.slot ≡ Some slot →
    IsBlock (position_at layout slot.position).logged.block →
    IsWriteFailed (position_at layout slot.position).logged.at (position_at layout slot.position).logged.block lists new →
    IsStored new (with_fate layout slot.position Failed)
    (closed_by_fault faults seat kind.Write step_failed (turn_with (Stepped (step_of slot.drawn)) [] [] (with_progress state seat ino (record progress { slot = None })))).after

-- of the flusher's node: its position is drawn, and the block may stand there; a flusher that gave the position to another block after the fault
-- would break it
abbrev pub FailedFlushedNodesLeave : Type 0
FailedFlushedNodesLeave =
    (lists new : Contents) (layout : Layout) (state : State) (places : Places) (unwritten : Unwritten) (ino offset : ℕ) (block : List ℕ) (faults : Faults) →
    IsKeptWhole lists layout state places unwritten →
    set.contains state.dirty_nodes (ino, offset) ≡ true →
    MayComeNext layout state places block →
    is_marked block ≡ false →
    IsBlockFor state places ino offset block →
    IsBlock block →
    IsWriteFailed layout.next block lists new →
    IsStored new (with_logged layout block Failed)
    (closed_by_fault faults NO_SEAT kind.Write (Ticked tick.WriteFault) (turn_with (Ticked tick.Node) (entry.WroteNode ino offset ∷ []) [] (node_logged state ino offset))).after

-- a flush that fails changes nothing on the disk, and the machine acknowledges nothing; a volume that took its marks for acknowledged would break it
abbrev pub FailedFlushesLeave : Type 0
FailedFlushesLeave =
    (lists : Contents) (layout : Layout) (state : State) (faults : Faults) (seat : ℕ) (failed : Answer) →
    IsStored lists layout state →
    IsStored lists layout (closed_by_fault faults seat kind.Flush failed (unchanged state failed)).after
