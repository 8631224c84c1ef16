-- Writes since the base against what an image grants each zone.
use Rattle.std.specs.Prelude.{◌≡◌, ℕ, ◌≤◌, List}
use Rattle.std.specs.FinSet as set
use Rattle.f2_model.specs.State.{State, Meaning, rolled, initial}
use Rattle.f2_model.specs.Fallback.{Both, sum_of, owed}
use Rattle.f2_model.specs.Step.{Faults, Turn, Step}
use Rattle.f2_model.specs.Run.{IsRun}
use Rattle.f2_model.specs.declared.bounds.Limits.{Limits}
use Rattle.f2_model.specs.declared.events.Event.{Event}
use Rattle.f2_model.specs.declared.histories.Entry.{Entry}
use Rattle.f2_model.specs.declared.modes.Format.{Format}
use Rattle.f2_model.specs.declared.modes.Mode.TheVariants.{Up}
use Rattle.f2_room_laws.specs.ProperTrees.{IsProperTree, HasRoomForRoot}
use Rattle.f2_room_laws.specs.ProperStates.{IsProperState}
use Rattle.f2_room_laws.specs.Running.{just_made}

-- what was written to each zone since the base, with what calls in flight have still to write
abbrev pub written_and_owed : State → Both
written_and_owed state = sum_of (record { nodes = state.node_writes; pages = state.data_writes }) (owed state)

-- it fits
pub record WritesFit (limits : Limits) (state : State) : Type 0 where
  pub nodes : (written_and_owed state).nodes ≤ limits.nodes
  pub pages : (written_and_owed state).pages ≤ limits.data_blocks

-- a proper state whose writes fit while the volume is open, and whose log has no more files than blocks; now and after any event
pub record IsRoomyState (limits : Limits) (state : State) : Type 0 where
  pub proper : IsProperState limits state
  pub writes : state.mode ≡ Up → WritesFit limits state
  pub logged : set.len state.logged ≤ state.node_writes

-- a state of which nothing is known but that a mount finds a proper tree is so
abbrev pub InitialIsRoomy : Type 0
InitialIsRoomy = (limits : Limits) (meaning : Meaning) → IsProperTree limits (rolled meaning.base meaning.marks) → IsRoomyState limits (initial meaning)

-- each event leaves such a state so
abbrev pub EventsKeepStatesRoomy : Type 0
EventsKeepStatesRoomy = (limits : Limits) (faults : Faults) (state : State) (event : Event) (turn : Turn) → Step limits faults state event turn → IsRoomyState limits state → IsRoomyState limits turn.after

-- in every run of an image that was just made, what was written since the base and what is owed fit while the volume is open; an fsync that
-- began without room for what others owe, a write to a file in fsync, and a flusher that took what is owed would break it
abbrev pub WritesFitInRuns : Type 0
WritesFitInRuns =
    (limits : Limits) (faults : Faults) (format : Format) (version : ℕ) (entries : List Entry) (choices : List ℕ) (state : State) →
    HasRoomForRoot limits →
    IsRun limits faults (initial (just_made format version)) entries choices state →
    state.mode ≡ Up →
    WritesFit limits state

-- and in each of its states the log has no more files than blocks
abbrev pub LoggedFilesAreWritten : Type 0
LoggedFilesAreWritten =
    (limits : Limits) (faults : Faults) (format : Format) (version : ℕ) (entries : List Entry) (choices : List ℕ) (state : State) →
    HasRoomForRoot limits →
    IsRun limits faults (initial (just_made format version)) entries choices state →
    set.len state.logged ≤ state.node_writes
