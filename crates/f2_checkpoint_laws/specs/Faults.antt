-- Writes and flushes of a checkpoint that fail: the volume is closed, and its disk keeps what a crash may leave of the state.
use Rattle.std.specs.Prelude.{◌≡◌, ℕ, ◌<◌, List, [], ◌∷◌, length, Some}
use Rattle.f2_disk.specs.Contents.{Contents, IsWriteFailed, flushed}
use Rattle.f2_model.specs.State.{State}
use Rattle.f2_model.specs.Turns.{Faults, Turn, turn_with, unchanged, closed_by_fault, step_failed}
use Rattle.f2_model.specs.declared.events.Answer.TheVariants.{Stepped}
use Rattle.f2_model.specs.declared.histories.CallKind.TheVariants as kind
use Rattle.f2_model.specs.declared.histories.Entry.TheVariants as entry
use Rattle.f2_model.specs.declared.replies.Step.TheVariants as step
use Rattle.f2_model.specs.declared.replies.Plan.{Plan}
use Rattle.f2_image.specs.Packs.{Checkpoint, tail_address}
use Rattle.f2_stored.specs.Places.{Places}
use Rattle.f2_stored.specs.Trees.{Unwritten}
use Rattle.f2_stored.specs.Layout.{Reference, Layout}
use Rattle.f2_stored.specs.Changes.{IsFree, MayBeWritten}
use Rattle.f2_stored.specs.Stored.{IsStored}
use Rattle.f2_place_laws.specs.Living.{IsWrittenOut}
use Rattle.f2_checkpoint_laws.specs.Writing.{IsCheckpointing}
use Rattle.f2_checkpoint_laws.specs.Pending.{with_tail, IsReadyForTail}
use Rattle.f2_checkpoint_laws.specs.Done.{IsBeforeLastFlush}

-- of a block before the tail, whether of a page, of a node, or another one; a checkpoint that wrote a block over one that the base reads would
-- break it
abbrev pub FailedBlocksLeave : Type 0
FailedBlocksLeave =
    (lists new : Contents) (layout : Layout) (state : State) (places : Places) (unwritten : Unwritten) (at : ℕ) (content : List ℕ) (faults : Faults) (seat : ℕ) →
    IsCheckpointing lists layout state places unwritten →
    IsFree layout at →
    at < length lists →
    MayBeWritten layout at content →
    IsWriteFailed at content lists new →
    IsStored new layout (closed_by_fault faults seat kind.Write step_failed (unchanged state (Stepped step.Block))).after

-- the first flush changes nothing on the disk, where it fails; a machine in which the live tree is pending after it would break it
abbrev pub FailedFirstFlushesLeave : Type 0
FailedFirstFlushesLeave =
    (lists : Contents) (layout : Layout) (state : State) (places : Places) (unwritten : Unwritten) (faults : Faults) (seat : ℕ) →
    IsCheckpointing lists layout state places unwritten →
    IsStored lists layout (closed_by_fault faults seat kind.Flush step_failed (unchanged state step_failed)).after

-- of the tail: it may stand all the same, and the live tree may remain; a machine in which nothing is pending after the fault would break it
abbrev pub failed_tail : Faults → State → ℕ → Turn
failed_tail faults state seat = closed_by_fault faults seat kind.Write step_failed (turn_with (Stepped step.Tail) (entry.CpTail seat ∷ []) [] (record state { pending = Some state.live }))

abbrev pub FailedTailsLeave : Type 0
FailedTailsLeave =
    (lists new : Contents) (layout : Layout) (state : State) (places : Places) (unwritten : Unwritten) (ckpt : Checkpoint) (tail : List ℕ) (faults : Faults) (seat : ℕ) →
    IsCheckpointing lists layout state places unwritten →
    IsWrittenOut places unwritten →
    IsReadyForTail lists layout state places ckpt tail →
    IsWriteFailed (tail_address ckpt.side) tail (flushed lists) new →
    IsStored new (record layout { pending = Some (record { image = with_tail lists (tail_address ckpt.side) tail; ckpt = ckpt }) }) (failed_tail faults state seat).after

-- where the last flush fails, base and pending tree may remain as before it; a machine that took the pending tree for its base would break it
abbrev pub failed_last_flush : Faults → State → ℕ → Turn
failed_last_flush faults state seat = closed_by_fault faults seat kind.Flush step_failed (unchanged state step_failed)

abbrev pub FailedLastFlushesLeave : Type 0
FailedLastFlushesLeave =
    (lists : Contents) (layout : Layout) (state : State) (places : Places) (unwritten : Unwritten) (seat : ℕ) (plan : Plan) (pending : Reference) (faults : Faults) →
    IsBeforeLastFlush lists layout state places unwritten seat plan pending →
    IsStored lists layout (failed_last_flush faults state seat).after × ((failed_last_flush faults state seat).after.pending ≡ Some state.live)
