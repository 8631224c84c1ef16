-- The steps of a volume that was never opened.
use Rattle.std.proofs.Common.{◌≡◌, ℕ, refl, sym, subst}
use Rattle.std.specs.Ordering.{nat_cmp}
use Rattle.std.specs.FinMap as map
use Rattle.f2_model.specs.declared.bounds.Limits.{Limits}
use Rattle.f2_model.specs.declared.events.Event.{Event}
use Rattle.f2_model.specs.declared.events.Answer.{Answer}
use Rattle.f2_model.specs.Machine.{Advances}
use Rattle.f2_model.specs.State.{State, Flight}
use Rattle.f2_model.specs.Step.{Step, StepGo, calm, unchanged}
use Rattle.f2_model.specs.declared.events.Answer.TheVariants.{Stepped}
use Rattle.f2_model.specs.declared.replies.Step.TheVariants as step
use Rattle.f2_machine_tests.specs.Closed.{never_opened, no_past}

-- an event that changes nothing leaves it where it was
pub stays : (limits : Limits) (event : Event) (answer : Answer) → Step limits calm never_opened event (unchanged never_opened answer)
    → (from : State) → from ≡ never_opened → Advances limits calm from (λ state. state ≡ never_opened) no_past no_past event answer
stays limits event answer step from same =
    subst (λ (state : State). Advances limits calm state (λ to. to ≡ never_opened) no_past no_past event answer) (sym same)
    (record { turn = unchanged never_opened answer; step = step; told = refl; state = refl; start = refl; entries = refl; choices = refl })

-- none of its seats has a call in flight
pub has_no_call : (seat : ℕ) → StepGo calm never_opened seat (unchanged never_opened (Stepped step.None))
has_no_call seat = rw (map.get-empty {X = Flight} nat_cmp seat) refl
