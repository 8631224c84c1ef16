-- Runs of the abstract machine: one event after another, with the history that they leave.
use Rattle.std.specs.Prelude.{◌≡◌, ℕ, ◌≤◌, List, [], ◌∷◌}
use Rattle.std.specs.List.{flat_map}
use Rattle.f2_model.specs.Call.{Limits}
use Rattle.f2_model.specs.State.{State}
use Rattle.f2_model.specs.Step.{Faults, Turn, Step}
use Rattle.f2_model.specs.declared.events.Event.{Event}
use Rattle.f2_model.specs.declared.histories.Entry.{Entry}

-- an event that happened: what it was, the disk's faults before and after it, and what it came to
pub record Happening : Type 0 where
  pub event : Event
  pub faults : Faults
  pub turn : Turn

-- Events happened one after another from a state to another, on one disk, whose count of faults never falls: no event's count before
-- it is less than the count after the last one.
abbrev pub Happened : Limits → Faults → State → List Happening → State → Type 0
Happened limits faults from [] to = (faults.before ≤ faults.after) × (from ≡ to)
Happened limits faults from (one ∷ rest) to =
    (faults.before ≤ one.faults.before) × (one.faults.before ≤ one.faults.after) × Step limits one.faults from one.event one.turn
    × Happened limits (record { before = one.faults.after; after = faults.after }) one.turn.after rest to

-- the entries, and the choices, that events left in order
abbrev pub entries_of : List Happening → List Entry
entries_of events = flat_map (λ one. one.turn.entries) events

abbrev pub choices_of : List Happening → List ℕ
choices_of events = flat_map (λ one. one.turn.choices) events

-- some events lead from a state to another, while the disk's count of faults goes from one to another, and leave these entries and choices
pub record IsRun (limits : Limits) (faults : Faults) (from : State) (entries : List Entry) (choices : List ℕ) (to : State) : Type 0 where
  pub events : List Happening
  pub happened : Happened limits faults from events to
  pub entries_left : entries ≡ entries_of events
  pub choices_left : choices ≡ choices_of events
