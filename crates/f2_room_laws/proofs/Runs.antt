-- Every run stays proper, so each tree that a crash may leave is proper.
use Rattle.std.proofs.Common.{inl, inr, List, [], ◌∷◌, sym, subst}
use Rattle.f2_model.specs.State.{State, Meaning, rolled}
use Rattle.f2_model.specs.Step.{Faults}
use Rattle.f2_model.specs.Run.{Happening, Happened}
use Rattle.f2_model.specs.declared.bounds.Limits.{Limits}
use Rattle.f2_room_laws.specs.ProperTrees.{IsProperTree}
use Rattle.f2_room_laws.specs.ProperStates.{IsProperState}
use Rattle.f2_room_laws.specs.Running.{just_made, RunsStayProper, ProperStatesLeaveProperTrees, WhatMayRemainIsProper, LiveTreesAreProper}
use Rattle.f2_room_laws.proofs.States.{initial_proper}
use Rattle.f2_room_laws.proofs.Events.{events_keep_states_proper}
use Rattle.f2_room_laws.proofs.BareTree.{bare_proper}

happened_proper : (limits : Limits) (faults : Faults) (events : List Happening) (from to : State) → IsProperState limits from → Happened limits faults from events to → IsProperState limits to
happened_proper limits faults [] from to holds h = subst (IsProperState limits) h.1 holds
happened_proper limits faults (one ∷ rest) from to holds h = happened_proper limits _ rest one.turn.after to (events_keep_states_proper limits one.faults from one.event one.turn h.2 holds) h.3

pub runs_proper : RunsStayProper
runs_proper limits faults from entries choices state holds run = happened_proper limits faults run.events from state holds run.happened

-- what a proper state may leave is proper
pub remains_proper : ProperStatesLeaveProperTrees
remains_proper limits state meaning holds (inl left) = subst (λ (m : Meaning). IsProperTree limits (rolled m.base m.marks)) (sym left.3) (holds.remains left.0 left.1 left.2)
remains_proper limits state meaning holds (inr left) = subst (λ (m : Meaning). IsProperTree limits (rolled m.base m.marks)) (sym left.2) (holds.pending left.0 left.1)

pub what_may_remain_proper : WhatMayRemainIsProper
what_may_remain_proper limits faults format version entries choices state meaning room run = remains_proper limits state meaning (runs_proper limits faults _ entries choices state (initial_proper limits (just_made format version) (bare_proper limits room)) run)

pub live_proper : LiveTreesAreProper
live_proper limits faults format version entries choices state room run =
    let holds : IsProperState limits state = runs_proper limits faults _ entries choices state (initial_proper limits (just_made format version) (bare_proper limits room)) run in
    holds.live
