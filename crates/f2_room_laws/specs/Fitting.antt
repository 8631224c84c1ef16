-- Marks that go with their base and with each other.
use Rattle.std.specs.Prelude.{◌≡◌, ◌≢◌, ℕ, ◌≤◌, true, Bool, IsTrue, List, take, length, All, Contains, Some}
use Rattle.std.specs.FinMap as map
use Rattle.f2_model.specs.Names.{is_good_name}
use Rattle.f2_model.specs.Tree.{Rows, ROOT, HasGoodPages}
use Rattle.f2_model.specs.State.{State, Mark, Meaning, rolled, initial}
use Rattle.f2_model.specs.Step.{Faults, Turn, Step, is_up}
use Rattle.f2_model.specs.Run.{IsRun}
use Rattle.f2_model.specs.declared.bounds.Limits.{Limits}
use Rattle.f2_model.specs.declared.events.Event.{Event}
use Rattle.f2_model.specs.declared.histories.Entry.{Entry}
use Rattle.f2_model.specs.declared.modes.Format.{Format}
use Rattle.f2_model.specs.declared.rows.Row.{Row}
use Rattle.f2_model.specs.declared.rows.Kind.TheVariants.{Regular, Directory}
use Rattle.f2_laws.specs.Flights.{Flights, IsFrozen}
use Rattle.f2_room_laws.specs.ProperTrees.{IsProperTree, HasRoomForRoot}
use Rattle.f2_room_laws.specs.ProperStates.{IsProperState}
use Rattle.f2_room_laws.specs.Running.{just_made}

-- a mark goes with a base: it is a file's, in a directory of the base under a good name that no other row of the base has there, with good pages
pub record FitsBase (limits : Limits) (base : Rows) (mark : Mark) : Type 0 where
  pub not_root : mark.ino ≢ ROOT
  pub file : (old : Row) → map.get base mark.ino ≡ Some old → old.kind ≡ Regular
  pub up : (parent : Row) × (map.get base mark.row.parent ≡ Some parent) × (parent.kind ≡ Directory)
  pub name : IsTrue (is_good_name mark.row.name)
  pub free : (ino : ℕ) (other : Row) → map.get base ino ≡ Some other → ino ≢ ROOT → other.parent ≡ mark.row.parent → other.name ≡ mark.row.name → ino ≡ mark.ino
  pub pages : HasGoodPages limits.size mark.row

-- no two files among marks have one name
abbrev pub NamesDiffer : List Mark → Type 0
NamesDiffer marks = (one other : Mark) → Contains marks one → Contains marks other → one.row.parent ≡ other.row.parent → one.row.name ≡ other.row.name → one.ino ≡ other.ino

-- the marks of a state go with its base and with each other, and each tree that they may make is proper
pub record AreFitting (limits : Limits) (state : State) : Type 0 where
  pub base : All (FitsBase limits state.base) state.marks
  pub names : NamesDiffer state.marks
  pub trees : (place : ℕ) → state.acknowledged ≤ place → place ≤ length state.marks → IsProperTree limits (rolled state.base (take place state.marks))

-- a file in fsync may be marked: its live row goes with the base, where no other file has its name, and no mark of another file has it
pub record MayBeMarked (limits : Limits) (live base : Rows) (marks : List Mark) (ino : ℕ) : Type 0 where
  pub row : Row
  pub there : map.get live ino ≡ Some row
  pub fits : FitsBase limits base (record { ino = ino; row = row })
  pub apart : (mark : Mark) → Contains marks mark → mark.row.parent ≡ row.parent → mark.row.name ≡ row.name → mark.ino ≡ ino

-- the marks that an open volume has were made since its base, whose rows and theirs stand at their own inos
pub record IsBased (limits : Limits) (base : Rows) (marks : List Mark) : Type 0 where
  pub whole : IsProperTree limits base
  pub keyed : All (λ mark. mark.row.ino ≡ mark.ino) marks

-- marks go with a base and with each other, and so would one more of any file in fsync
pub record GoTogether (limits : Limits) (live base : Rows) (marks : List Mark) (flights : Flights) (open_now : Bool) : Type 0 where
  pub fits : All (FitsBase limits base) marks
  pub names : NamesDiffer marks
  pub files : (ino : ℕ) → IsFrozen flights ino → MayBeMarked limits live base marks ino
  pub based : open_now ≡ true → IsBased limits base marks

-- a state whose marks are fitting, now and after any event
pub record IsFittingState (limits : Limits) (state : State) : Type 0 where
  pub proper : IsProperState limits state
  pub marks : GoTogether limits state.live state.base state.marks state.flights (is_up state.mode)

-- a state of which nothing is known but that a mount finds marks that fit is so
abbrev pub InitialIsFitting : Type 0
InitialIsFitting = (limits : Limits) (meaning : Meaning) → AreFitting limits (initial meaning) → IsFittingState limits (initial meaning)

-- each event leaves such a state so
abbrev pub EventsKeepStatesFitting : Type 0
EventsKeepStatesFitting = (limits : Limits) (faults : Faults) (state : State) (event : Event) (turn : Turn) → Step limits faults state event turn → IsFittingState limits state → IsFittingState limits turn.after

-- its marks fit
abbrev pub FittingStatesFit : Type 0
FittingStatesFit = (limits : Limits) (state : State) → IsFittingState limits state → AreFitting limits state

-- in every run of an image that was just made the marks fit; an fsync that marked a file whose name another file has since the base, or
-- whose directory is new, would break it
abbrev pub MarksFit : Type 0
MarksFit =
    (limits : Limits) (faults : Faults) (format : Format) (version : ℕ) (entries : List Entry) (choices : List ℕ) (state : State) →
    HasRoomForRoot limits →
    IsRun limits faults (initial (just_made format version)) entries choices state →
    AreFitting limits state
