-- What a crash may leave in any run.
use Rattle.std.specs.Prelude.{ℕ, List, []}
use Rattle.f2_model.specs.Tree.{root_alone}
use Rattle.f2_model.specs.State.{State, Meaning, MayRemain, rolled, initial}
use Rattle.f2_model.specs.Step.{Faults}
use Rattle.f2_model.specs.Run.{IsRun}
use Rattle.f2_model.specs.declared.bounds.Limits.{Limits}
use Rattle.f2_model.specs.declared.modes.Format.{Format}
use Rattle.f2_model.specs.declared.histories.Entry.{Entry}
use Rattle.f2_room_laws.specs.ProperTrees.{IsProperTree, HasRoomForRoot}
use Rattle.f2_room_laws.specs.ProperStates.{IsProperState}

-- every run from a proper state leads to one
abbrev pub RunsStayProper : Type 0
RunsStayProper =
    (limits : Limits) (faults : Faults) (from : State) (entries : List Entry) (choices : List ℕ) (state : State) →
    IsProperState limits from →
    IsRun limits faults from entries choices state →
    IsProperState limits state

-- a proper state leaves nothing but proper trees
abbrev pub ProperStatesLeaveProperTrees : Type 0
ProperStatesLeaveProperTrees =
    (limits : Limits) (state : State) (meaning : Meaning) →
    IsProperState limits state →
    MayRemain state meaning →
    IsProperTree limits (rolled meaning.base meaning.marks)

-- what an image that was just made is left as, in a format and a version: the tree of the root alone
abbrev pub just_made : Format → ℕ → Meaning
just_made format version = record { base = root_alone; marks = []; format = format; version = version }

-- in every run of an image that was just made, each tree that a crash may leave is proper
abbrev pub WhatMayRemainIsProper : Type 0
WhatMayRemainIsProper =
    (limits : Limits) (faults : Faults) (format : Format) (version : ℕ) (entries : List Entry) (choices : List ℕ) (state : State) (meaning : Meaning) →
    HasRoomForRoot limits →
    IsRun limits faults (initial (just_made format version)) entries choices state →
    MayRemain state meaning →
    IsProperTree limits (rolled meaning.base meaning.marks)

-- and so is the tree that calls see
abbrev pub LiveTreesAreProper : Type 0
LiveTreesAreProper =
    (limits : Limits) (faults : Faults) (format : Format) (version : ℕ) (entries : List Entry) (choices : List ℕ) (state : State) →
    HasRoomForRoot limits →
    IsRun limits faults (initial (just_made format version)) entries choices state →
    IsProperTree limits state.live
