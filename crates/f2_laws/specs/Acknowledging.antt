-- What an acknowledged fsync has: a mark at an acknowledged place, and no open position before it.
use Rattle.std.specs.Prelude.{◌≡◌, ℕ, ◌<◌, ◌≤◌, ◌==◌, Bool, false, IsTrue, List, length, Some, None}
use Rattle.std.specs.List.{list_any}
use Rattle.std.specs.FinMap as map
use Rattle.f2_model.specs.declared.bounds.Limits.{Limits}
use Rattle.f2_model.specs.State.{State, Meaning, Marked, Progress, InFsync, initial}
use Rattle.f2_model.specs.Step.{Faults, Turn, Step, gap_below}
use Rattle.f2_model.specs.Run.{IsRun}
use Rattle.f2_model.specs.declared.events.Event.{Event}
use Rattle.f2_model.specs.declared.histories.Entry.{Entry}
use Rattle.f2_model.specs.declared.histories.Entry.TheVariants.{Ack}

-- in every run no more marks are acknowledged than there are, so a mount always finds a base with marks up to some place; an event that
-- acknowledged one place more than its mark's would break it
abbrev pub AcknowledgedAreMarked : Type 0
AcknowledgedAreMarked =
    (limits : Limits) (faults : Faults) (meaning : Meaning) (entries : List Entry) (choices : List ℕ) (state : State) →
    IsRun limits faults (initial meaning) entries choices state →
    state.acknowledged ≤ length state.marks

-- whether an entry acknowledges an fsync of a seat
abbrev pub is_ack_of : ℕ → Entry → Bool
is_ack_of seat (Ack by ino) = by == seat
is_ack_of seat _ = false

-- a seat's fsync was at its last flush, no position below its mark's was open, and the place of its mark is acknowledged from then on
pub record IsAcknowledged (before after : State) (seat : ℕ) : Type 0 where
  pub ino : ℕ
  pub progress : Progress
  pub there : map.get before.flights seat ≡ Some (InFsync ino progress)
  pub marked : progress.part ≡ Marked
  pub written : progress.slot ≡ None
  pub gap : gap_below before progress.position ≡ None
  pub place : progress.place < after.acknowledged

-- an event that acknowledges a seat's fsync acknowledges its mark's place, once no position below the mark's is open; one that raised
-- nothing, and one that didn't wait for such a position, would break it
abbrev pub AcksAcknowledge : Type 0
AcksAcknowledge =
    (limits : Limits) (faults : Faults) (state : State) (event : Event) (turn : Turn) (seat : ℕ) →
    Step limits faults state event turn →
    IsTrue (list_any (is_ack_of seat) turn.entries) →
    IsAcknowledged state turn.after seat
