-- The end of a mount: its checkpoint's last flush.
use Rattle.std.specs.Prelude.{◌≡◌, ℕ, List}
use Rattle.std.specs.FinMap as map
use Rattle.f2_disk.specs.Contents.{Contents, IsWritten, flushed}
use Rattle.f2_model.specs.State.{State, Meaning, InCheck, rolled}
use Rattle.f2_model.specs.Turns.{MOUNT_SEAT}
use Rattle.f2_model.specs.Goes.{completes}
use Rattle.f2_model.specs.Mounts.{found}
use Rattle.f2_model.specs.declared.modes.Mode.TheVariants.{Up, Mounting}
use Rattle.f2_model.specs.declared.replies.Plan.TheVariants as plan
use Rattle.f2_image.specs.Packs.{Checkpoint, tail_address}
use Rattle.f2_place_laws.specs.Living.{IsWrittenOut}
use Rattle.f2_stored.specs.Places.{Places}
use Rattle.f2_stored.specs.Trees.{Unwritten}
use Rattle.f2_stored.specs.Layout.{Layout}
use Rattle.f2_stored.specs.Kept.{IsElsewhere}
use Rattle.f2_stored.specs.Whole.{IsKeptWhole}
use Rattle.f2_checkpoint_laws.specs.Pending.{IsReadyForTail}
use Rattle.f2_checkpoint_laws.specs.Done.{all_written}
use Rattle.f2_checkpoint_laws.specs.Ended.{tailed, layout_after, pending_by}
use Rattle.f2_checkpoint_laws.specs.Going.{HasWritten}
use Rattle.f2_mount_laws.specs.Writing.{GoesOn}

-- a volume is being mounted, and its mount makes a checkpoint: nobody else is in flight
pub record IsMounting (state : State) : Type 0 where
  pub mode : state.mode ≡ Mounting
  pub flights : state.flights ≡ map.insert map.empty MOUNT_SEAT (InCheck plan.Sync)

-- so the machine's mount leaves it, whatever it finds
abbrev pub MountsBegin : Type 0
MountsBegin = (state : State) (meaning : Meaning) (choice : ℕ) → IsMounting (found state meaning choice).after

-- a mount has written all of what it took over, from what it found on, and has the tail of its checkpoint
pub record IsMountWritten (lists now : Contents) (layout : Layout) (state : State) (places : Places) (unwritten : Unwritten) (ckpt : Checkpoint) (tail : List ℕ) : Type 0 where
  pub is_mounting : IsMounting state
  -- how it began
  pub there : Places
  pub left : Unwritten
  pub began : GoesOn lists layout state there left
  -- what it wrote
  pub wrote : HasWritten layout state lists there left now places unwritten
  pub written : IsWrittenOut places unwritten
  -- its tail, and where the next log starts
  pub ready : IsReadyForTail now layout state places ckpt tail
  pub apart : IsElsewhere places ckpt.head.log_start

-- the state after the tail and the last flush of a mount
abbrev pub mounted : State → State
mounted state = (completes (tailed state MOUNT_SEAT) MOUNT_SEAT plan.Sync).after

-- so a flush, the write of the tail, and the last flush make it a running volume that keeps all that such a one keeps, with nothing left to be
-- written: it is open, and base and marks that it found are its base. A definition of the machine by which the mount's checkpoint is an unmount
-- would break it
abbrev pub MountsEndWhole : Type 0
MountsEndWhole =
    (lists now new : Contents) (layout : Layout) (state : State) (places : Places) (unwritten : Unwritten) (ckpt : Checkpoint) (tail : List ℕ) →
    IsMountWritten lists now layout state places unwritten ckpt tail →
    IsWritten (tail_address ckpt.side) tail (flushed now) new →
    IsKeptWhole (flushed new) (layout_after (pending_by now ckpt tail) places) (mounted state) places all_written
    × ((mounted state).mode ≡ Up)
    × ((mounted state).base ≡ rolled state.base state.marks)
