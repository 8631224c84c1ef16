-- What a crash leaves of a disk on which a state is kept.
use Rattle.f2_disk.specs.Contents.{Contents}
use Rattle.f2_model.specs.State.{State}
use Rattle.f2_image.specs.Meanings.{IsSafe}
use Rattle.f2_stored.specs.Layout.{Layout}
use Rattle.f2_stored.specs.Changes.{LeaveTheSame}
use Rattle.f2_stored.specs.Stored.{IsStored}

-- a disk on which a state is kept is safe: each image that a crash may leave of it stands for what may remain of the state
abbrev pub StoredDisksAreSafe : Type 0
StoredDisksAreSafe = (lists : Contents) (layout : Layout) (state : State) → IsStored lists layout state → IsSafe lists state

-- what changes in memory alone changes nothing there
abbrev pub ChangesInMemoryKeep : Type 0
ChangesInMemoryKeep = (lists : Contents) (layout : Layout) (one other : State) → IsStored lists layout one → LeaveTheSame one other → IsStored lists layout other
