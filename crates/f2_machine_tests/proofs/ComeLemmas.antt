-- Calls of a volume one after another are a run of the abstract machine.
use Rattle.std.proofs.Common.{◌≡◌, ℕ, ◌≤◌, List, [], ◌∷◌, ◌++◌, refl, sym, ap, subst, ◌∙◌, arith, append_assoc, append-nil}
use Rattle.f2_model.specs.declared.bounds.Limits.{Limits}
use Rattle.f2_model.specs.declared.events.Event.{Event}
use Rattle.f2_model.specs.declared.events.Answer.{Answer}
use Rattle.f2_model.specs.History.{Account}
use Rattle.f2_model.specs.Machine.{Advances}
use Rattle.f2_model.specs.State.{State}
use Rattle.f2_model.specs.Step.{Step}
use Rattle.f2_model.specs.Run.{entries_of, choices_of}
use Rattle.f2_machine_tests.specs.Comes.{Comes}

-- no call
pub no_calls : {limits : Limits} {faults : ℕ} {from : State} {MayBe : State → Type 0} {account : Account} → MayBe from
    → Comes limits (record { before = faults; after = faults }) from MayBe account account [] []
no_calls {account = account} is = record {
  happenings = [];
  to = _;
  happened = (omega arith, refl);
  were = refl;
  told = refl;
  state = is;
  start = refl;
  entries = sym (append-nil account.entries);
  choices = sym (append-nil account.choices);
}

-- a call and the ones after it
pub call_and_then : {limits now : Limits} {before mid after : ℕ} {from : State} {MayBe Ends : State → Type 0} {first then last : Account} {event : Event} {answer : Answer} {events : List Event} {answers : List Answer}
    → now ≡ limits → before ≤ mid → Advances now (record { before = before; after = mid }) from MayBe first then event answer
    → ((state : State) → MayBe state → Comes limits (record { before = mid; after = after }) state Ends then last events answers)
    → Comes limits (record { before = before; after = after }) from Ends first last (event ∷ events) (answer ∷ answers)
call_and_then {before = before} {mid = mid} {from = from} {first = first} {event = event} {answer = answer} {answers = answers} same rises one next =
    let rest = next one.turn.after one.state in
    let step = subst (λ (limits : Limits). Step limits (record { before = before; after = mid }) from event one.turn) same one.step in
    record {
      happenings = record { event = event; faults = record { before = before; after = mid }; turn = one.turn } ∷ rest.happenings;
      to = rest.to;
      happened = (omega arith, rises, step, rest.happened);
      were = ap (λ events. event ∷ events) rest.were;
      told = ap (λ told. one.turn.answer ∷ told) rest.told ∙ ap (λ (told : Answer). told ∷ answers) one.told;
      state = rest.state;
      start = rest.start ∙ one.start;
      entries = rest.entries ∙ ap (λ entries. entries ++ entries_of rest.happenings) one.entries ∙ append_assoc first.entries one.turn.entries (entries_of rest.happenings);
      choices = rest.choices ∙ ap (λ choices. choices ++ choices_of rest.happenings) one.choices ∙ append_assoc first.choices one.turn.choices (choices_of rest.happenings);
    }
