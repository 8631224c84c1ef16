-- What calls of a volume come to, one after another.
use Rattle.std.specs.Prelude.{◌≡◌, List, ◌++◌, map}
use Rattle.f2_model.specs.declared.bounds.Limits.{Limits}
use Rattle.f2_model.specs.declared.events.Event.{Event}
use Rattle.f2_model.specs.declared.events.Answer.{Answer}
use Rattle.f2_model.specs.History.{Account}
use Rattle.f2_model.specs.State.{State}
use Rattle.f2_model.specs.Step.{Faults}
use Rattle.f2_model.specs.Run.{Happening, Happened, entries_of, choices_of}

-- events happened from a state to one that a volume may be in, with these answers, and its account goes on by what they left
pub record Comes (limits : Limits) (faults : Faults) (from : State) (MayBe : State → Type 0) (before after : Account) (events : List Event) (answers : List Answer) : Type 0 where
  pub happenings : List Happening
  pub to : State
  pub happened : Happened limits faults from happenings to
  pub were : map (λ one. one.event) happenings ≡ events
  pub told : map (λ one. one.turn.answer) happenings ≡ answers
  pub state : MayBe to
  pub start : after.start ≡ before.start
  pub entries : after.entries ≡ before.entries ++ entries_of happenings
  pub choices : after.choices ≡ before.choices ++ choices_of happenings
