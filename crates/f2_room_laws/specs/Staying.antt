-- The row of a file in fsync.
use Rattle.std.specs.Prelude.{◌≡◌, ℕ, List, [], ◌∷◌, Some}
use Rattle.std.specs.FinMap as map
use Rattle.f2_model.specs.State.{State, Meaning, Progress, InFsync, rolled, initial}
use Rattle.f2_model.specs.Step.{Faults}
use Rattle.f2_model.specs.Run.{Happening, Happened, IsRun}
use Rattle.f2_model.specs.declared.bounds.Limits.{Limits}
use Rattle.f2_model.specs.declared.histories.Entry.{Entry}
use Rattle.f2_room_laws.specs.ProperTrees.{IsProperTree}

-- a seat has a file in fsync after each of some events
abbrev pub StaysInFsync : ℕ → ℕ → List Happening → Type 0
StaysInFsync seat ino [] = Unit {0}
StaysInFsync seat ino (one ∷ rest) = ((progress : Progress) × (map.get one.turn.after.flights seat ≡ Some (InFsync ino progress))) × StaysInFsync seat ino rest

-- wherever a run leads from a proper tree, calls see the same row of a file as long as a seat has it in fsync; a write, a rename or a new row
-- that reached such a file would break it
abbrev pub RowsStayInFsync : Type 0
RowsStayInFsync =
    (limits : Limits) (faults later : Faults) (meaning : Meaning) (entries : List Entry) (choices : List ℕ) (state to : State) (events : List Happening) (seat ino : ℕ) (progress : Progress) →
    IsProperTree limits (rolled meaning.base meaning.marks) →
    IsRun limits faults (initial meaning) entries choices state →
    map.get state.flights seat ≡ Some (InFsync ino progress) →
    Happened limits later state events to →
    StaysInFsync seat ino events →
    map.get to.live ino ≡ map.get state.live ino
