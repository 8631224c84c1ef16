-- Flushes, and what is acknowledged after them.
use Rattle.std.specs.Prelude.{◌≡◌, ℕ, ◌≤◌, length, take}
use Rattle.std.specs.List.{AllByRecursion}
use Rattle.f2_disk.specs.Contents.{Contents, flushed}
use Rattle.f2_model.specs.State.{State}
use Rattle.f2_stored.specs.Layout.{Written, Layout}
use Rattle.f2_stored.specs.Marks.{marks_within}
use Rattle.f2_stored.specs.Stored.{KeepsPacks, KeepsLog, IsStored}

-- a flush keeps a state
abbrev pub FlushesKeep : Type 0
FlushesKeep = (lists : Contents) (layout : Layout) (state : State) → IsStored lists layout state → IsStored (flushed lists) layout state

-- and it settles the first positions that were written
abbrev pub FlushesSettle : Type 0
FlushesSettle =
    (lists : Contents) (layout : Layout) (state : State) (count : ℕ) →
    KeepsPacks lists layout state →
    KeepsLog lists layout state →
    layout.settled ≤ count →
    count ≤ length layout.log →
    AllByRecursion (λ position. position.fate ≡ Written) (take count layout.log) →
    KeepsPacks (flushed lists) (record layout { settled = count }) state × KeepsLog (flushed lists) (record layout { settled = count }) state

-- marks in settled positions may be acknowledged
abbrev pub SettledMarksMayBeAcknowledged : Type 0
SettledMarksMayBeAcknowledged =
    (lists : Contents) (layout : Layout) (state : State) (count : ℕ) →
    KeepsPacks lists layout state →
    KeepsLog lists layout state →
    state.acknowledged ≤ count →
    count ≤ marks_within layout layout.settled →
    KeepsPacks lists layout (record state { acknowledged = count }) × KeepsLog lists layout (record state { acknowledged = count })
