-- The last flush of an fsync.
use Rattle.std.specs.Prelude.{◌≡◌, ℕ, Some, None}
use Rattle.std.specs.FinMap as map
use Rattle.f2_disk.specs.Contents.{Contents, flushed}
use Rattle.f2_model.specs.State.{State, Marked, Progress, InFsync}
use Rattle.f2_model.specs.Goes.{acknowledges, gap_below}
use Rattle.f2_stored.specs.Places.{Places}
use Rattle.f2_stored.specs.Trees.{Unwritten}
use Rattle.f2_stored.specs.Layout.{Layout}
use Rattle.f2_stored.specs.Kept.{IsKept}

-- a layout with which a disk keeps a state
pub record IsKeptBy (lists : Contents) (state : State) (places : Places) (unwritten : Unwritten) : Type 0 where
  pub layout : Layout
  pub kept : IsKept lists layout state places unwritten

-- where no position below the mark is open, the flush acknowledges every mark up to it
abbrev pub AcknowledgementsKeep : Type 0
AcknowledgementsKeep =
    (lists : Contents) (layout : Layout) (state : State) (places : Places) (unwritten : Unwritten) (seat ino : ℕ) (progress : Progress) →
    IsKept lists layout state places unwritten →
    map.get state.flights seat ≡ Some (InFsync ino progress) →
    progress.part ≡ Marked →
    progress.slot ≡ None →
    gap_below state progress.position ≡ None →
    IsKeptBy (flushed lists) (acknowledges state seat ino progress).after places unwritten
