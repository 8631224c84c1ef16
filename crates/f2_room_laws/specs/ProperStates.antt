-- States from which a crash leaves nothing but proper trees: what every event keeps.
use Rattle.std.specs.Prelude.{◌≡◌, ◌≢◌, ℕ, ◌≤◌, false, List, map as map_list, take, length, Some}
use Rattle.std.specs.FinMap as map
use Rattle.std.specs.FinSet as set
use Rattle.f2_model.specs.Tree.{Rows, ROOT}
use Rattle.f2_model.specs.State.{State, Mark, Meaning, Flight, InCheck, Inos, rolled, initial}
use Rattle.f2_model.specs.declared.modes.Mode.{Mode}
use Rattle.f2_model.specs.declared.modes.Mode.TheVariants.{Shut, Mounting, Up}
use Rattle.f2_model.specs.Step.{Faults, Turn, Step}
use Rattle.f2_model.specs.declared.events.Event.{Event}
use Rattle.f2_model.specs.declared.bounds.Limits.{Limits}
use Rattle.f2_model.specs.declared.replies.Plan.{Plan}
use Rattle.f2_model.specs.declared.rows.Row.{Row}
use Rattle.f2_model.specs.declared.rows.Kind.TheVariants.{Regular}
use Rattle.f2_laws.specs.Flights.{Flights, IsFrozen}
use Rattle.f2_held.specs.Recovered.{IsOneOf}
use Rattle.f2_room_laws.specs.ProperTrees.{IsProperTree}
use Rattle.f2_room_laws.specs.Marking.{RowsHaveRoom}

-- a file in fsync: its row is a regular file's, the base has its directory, and no other row of a rolled tree has its name there
pub record IsReady (live base tree : Rows) (ino : ℕ) : Type 0 where
  pub row : Row
  pub there : map.get live ino ≡ Some row
  pub regular : row.kind ≡ Regular
  pub parent : (up : Row) × (map.get base row.parent ≡ Some up)
  pub free : (at : ℕ) (other : Row) → map.get tree at ≡ Some other → at ≢ ROOT → other.parent ≡ row.parent → other.name ≡ row.name → at ≡ ino

-- there is room for the rows of base and marks together with those of the files in fsync
pub record FilesHaveRoom (limits : Limits) (live base : Rows) (marks : List Mark) (flights : Flights) : Type 0 where
  pub rows : List Row
  pub room : RowsHaveRoom limits base marks rows
  pub frozen : (ino : ℕ) (row : Row) → IsFrozen flights ino → map.get live ino ≡ Some row → IsOneOf row rows

-- what holds of an open volume between two checkpoints
pub record IsRolling (limits : Limits) (live base : Rows) (marks : List Mark) (flights : Flights) (logged : Inos) : Type 0 where
  -- the base with all marks is proper, and the marks are files'
  pub whole : IsProperTree limits (rolled base marks)
  pub regular : (row : Row) → IsOneOf row (map_list (λ mark. mark.row) marks) → row.kind ≡ Regular
  -- it has the inos of the base, and else those of the log alone
  pub kept : (ino : ℕ) (row : Row) → map.get base ino ≡ Some row → (now : Row) × (map.get (rolled base marks) ino ≡ Some now)
  pub known : (ino : ℕ) (row : Row) → map.get (rolled base marks) ino ≡ Some row → set.contains logged ino ≡ false → (before : Row) × (map.get base ino ≡ Some before)
  -- a row of the live tree is of the kind that it has at the same ino
  pub kinds : (ino : ℕ) (one other : Row) → map.get live ino ≡ Some one → map.get (rolled base marks) ino ≡ Some other → one.kind ≡ other.kind
  -- each file in fsync may be marked
  pub files : (ino : ℕ) → IsFrozen flights ino → IsReady live base (rolled base marks) ino
  pub space : (ino : ℕ) → IsFrozen flights ino → FilesHaveRoom limits live base marks flights

-- what a mode asks: nothing of a closed volume, one thing of one that is being mounted, another of an open one
abbrev pub InMode : Mode → Type 0 → Type 0 → Type 0
InMode Shut found rolling = Unit {0}
InMode Mounting found rolling = found
InMode Up found rolling = rolling

-- a state of which a crash leaves nothing but proper trees, now and after any event
pub record IsProperState (limits : Limits) (state : State) : Type 0 where
  pub live : IsProperTree limits state.live
  pub pending : (tree : Rows) → state.pending ≡ Some tree → IsProperTree limits tree
  pub remains : (k : ℕ) → state.acknowledged ≤ k → k ≤ length state.marks → IsProperTree limits (rolled state.base (take k state.marks))
  -- a checkpoint in flight is alone
  pub alone : (seat other : ℕ) (plan : Plan) (flight : Flight) → map.get state.flights seat ≡ Some (InCheck plan) → map.get state.flights other ≡ Some flight → other ≡ seat
  pub mode : InMode state.mode ((ino : ℕ) → IsFrozen state.flights ino → ⊥) (IsRolling limits state.live state.base state.marks state.flights state.logged)

-- a state of which nothing is known but that a mount finds a proper tree is proper
abbrev pub InitialIsProper : Type 0
InitialIsProper = (limits : Limits) (meaning : Meaning) → IsProperTree limits (rolled meaning.base meaning.marks) → IsProperState limits (initial meaning)

-- each event leaves a proper state proper
abbrev pub EventsKeepStatesProper : Type 0
EventsKeepStatesProper = (limits : Limits) (faults : Faults) (state : State) (event : Event) (turn : Turn) → Step limits faults state event turn → IsProperState limits state → IsProperState limits turn.after
