-- What each event keeps holds after every run.
use Rattle.std.proofs.Common.{List, [], ◌∷◌, ℕ, subst}
use Rattle.f2_model.specs.declared.bounds.Limits.{Limits}
use Rattle.f2_model.specs.State.{State}
use Rattle.f2_model.specs.Step.{Faults, Turn, Step}
use Rattle.f2_model.specs.Run.{Happening, Happened, IsRun}
use Rattle.f2_model.specs.declared.events.Event.{Event}
use Rattle.f2_model.specs.declared.histories.Entry.{Entry}

module _ (limits : Limits) (P : State → Type 0) (keeps : (faults : Faults) (state : State) (event : Event) (turn : Turn) → Step limits faults state event turn → P state → P turn.after) where
  happened_keeps : (faults : Faults) (events : List Happening) (from to : State) → P from → Happened limits faults from events to → P to
  happened_keeps faults [] from to holds h = subst P h.1 holds
  happened_keeps faults (one ∷ rest) from to holds h = happened_keeps _ rest one.turn.after to (keeps one.faults from one.event one.turn h.2 holds) h.3

  pub runs_keep : (faults : Faults) (from : State) (entries : List Entry) (choices : List ℕ) (to : State) → P from → IsRun limits faults from entries choices to → P to
  runs_keep faults from entries choices to holds run = happened_keeps faults run.events from to holds run.happened
