-- The last flush of an fsync: all that a running volume keeps.
use Rattle.std.specs.Prelude.{◌≡◌, ℕ, ◌+◌, max, Some, None}
use Rattle.std.specs.FinMap as map
use Rattle.f2_disk.specs.Contents.{Contents, flushed}
use Rattle.f2_model.specs.State.{State, Marked, Progress, InFsync}
use Rattle.f2_model.specs.Goes.{acknowledges, gap_below}
use Rattle.f2_stored.specs.Places.{Places}
use Rattle.f2_stored.specs.Trees.{Unwritten}
use Rattle.f2_stored.specs.Layout.{Layout}
use Rattle.f2_stored.specs.Whole.{IsKeptWhole}

-- the positions up to a mark's, settled
abbrev pub settled_to : Layout → ℕ → Layout
settled_to layout position = record layout { settled = max layout.settled (position + 1) }

-- where no position below the mark is open, the flush acknowledges every mark up to it, and a crash leaves every position up to it; a volume
-- that acknowledged before the flush would break it
abbrev pub AcknowledgementsKeepWhole : Type 0
AcknowledgementsKeepWhole =
    (lists : Contents) (layout : Layout) (state : State) (places : Places) (unwritten : Unwritten) (seat ino : ℕ) (progress : Progress) →
    IsKeptWhole lists layout state places unwritten →
    map.get state.flights seat ≡ Some (InFsync ino progress) →
    progress.part ≡ Marked →
    progress.slot ≡ None →
    gap_below state progress.position ≡ None →
    IsKeptWhole (flushed lists) (settled_to layout progress.position) (acknowledges state seat ino progress).after places unwritten
