-- A machine after an event is a run of the abstract machine still.
use Rattle.std.proofs.Common.{◌≡◌, ℕ, arith, List, [], ◌∷◌, ◌++◌, refl, ap, sym, ◌∙◌, subst, append_assoc, append-nil}
use Rattle.std.specs.Prelude.{Result, Ok, Err, IfOk, OnErr}
use Rattle.std.specs.List.{flat_map}
use Rattle.f2_model.specs.declared.bounds.Limits.{Limits}
use Rattle.f2_model.specs.declared.histories.Entry.{Entry}
use Rattle.f2_model.specs.State.{State, initial}
use Rattle.f2_model.specs.Step.{Turn, Step, calm, crashed}
use Rattle.f2_model.specs.declared.events.Event.{Event}
use Rattle.f2_model.specs.declared.events.Event.TheVariants.{Crash}
use Rattle.f2_model.specs.declared.events.Answer.{Answer}
use Rattle.f2_model.specs.declared.events.Answer.TheVariants.{Crashed}
use Rattle.f2_model.specs.Run.{Happening, Happened, IsRun, entries_of, choices_of}
use Rattle.f2_reference_state.specs.Seen.{Seen, after_turn}
use Rattle.f2_reference.specs.declared.choices.Choices.{Choices}
use Rattle.f2_reference.specs.Choosing.{ComesTo}
use Rattle.f2_reference.specs.Sound.{IsSound, IsPlain, first_meaning}

-- a list of lists one after another
flat_map-append : {X Y : Type 0} (f : X → List Y) (xs ys : List X) → flat_map f (xs ++ ys) ≡ flat_map f xs ++ flat_map f ys
flat_map-append f [] ys = refl
flat_map-append f (x ∷ xs) ys = ap (λ zs. f x ++ zs) (flat_map-append f xs ys) ∙ sym (append_assoc (f x) (flat_map f xs) (flat_map f ys))

-- an event after events, where no call of a disk failed
happened-once : (limits : Limits) (before : ℕ) (from mid : State) (events : List Happening) (event : Event) (turn : Turn) → Happened limits (record { before = before; after = 0 }) from events mid → Step limits calm mid event turn
    → Happened limits (record { before = before; after = 0 }) from (events ++ record { event = event; faults = calm; turn = turn } ∷ []) turn.after
happened-once limits before from mid [] event turn first step = (first.0, omega arith, subst (λ (s : State). Step limits calm s event turn) (sym first.1) step, (omega arith, refl))
happened-once limits before from mid (x ∷ xs) event turn first step = (first.0, first.1, first.2, happened-once limits x.faults.after x.turn.after mid xs event turn first.3 step)

-- a run goes on by one event
run-once : (limits : Limits) (from mid : State) (entries : List Entry) (choices : List ℕ) (event : Event) (turn : Turn) → IsRun limits calm from entries choices mid → Step limits calm mid event turn
    → IsRun limits calm from (entries ++ turn.entries) (choices ++ turn.choices) turn.after
run-once limits from mid entries choices event turn run step =
    let one : Happening = record { event = event; faults = calm; turn = turn } in
    record {
      events = run.events ++ one ∷ [];
      happened = happened-once limits 0 from mid run.events event turn run.happened step;
      entries_left = ap (λ e. e ++ turn.entries) run.entries_left ∙ ap (λ e. entries_of run.events ++ e) (sym (append-nil turn.entries)) ∙ sym (flat_map-append (λ (h : Happening). h.turn.entries) run.events (one ∷ []));
      choices_left = ap (λ c. c ++ turn.choices) run.choices_left ∙ ap (λ c. choices_of run.events ++ c) (sym (append-nil turn.choices)) ∙ sym (flat_map-append (λ (h : Happening). h.turn.choices) run.events (one ∷ []));
    }

-- what an event leaves of a machine
comes_plain : (choices : Choices) (old new : Seen) (event : Event) (answer : Answer) → IsPlain old → ComesTo choices old new event answer → IsSound new → IsPlain new
comes_plain choices old new event answer plain came sound = record {
  sound = sound;
  run = subst (λ (seen : Seen). IsRun seen.limits calm (initial first_meaning) seen.entries seen.choices seen.state) (sym came.after)
      (run-once old.limits (initial first_meaning) old.state old.entries old.choices event came.turn plain.run came.step);
}

-- what an event leaves that may have failed for want of memory
pub stays_plain : {A E : Type 0} (result : Result A E) (told : A → Answer) (choices : Choices) (old new : Seen) (event : Event) → IsPlain old
    → IfOk result (λ answer. ComesTo choices old new event (told answer)) → OnErr result (new ≡ old) → IsSound new → IsPlain new
stays_plain (Ok answer) told choices old new event plain came same sound = comes_plain choices old new event (told answer) plain came sound
stays_plain (Err refused) told choices old new event plain came same sound = subst IsPlain (sym same) plain

-- power is lost
pub comes_crashed : (choices : Choices) (old new : Seen) → new ≡ after_turn old (crashed old.state) → ComesTo choices old new Crash Crashed
comes_crashed choices old new after = record { turn = crashed old.state; step = refl; faultless = refl; chosen = tt; told = refl; after = after }

crashed_sound : (old : Seen) → IsSound old → IsSound (after_turn old (crashed old.state))
crashed_sound old sound = record { size = sound.size; live = sound.live; base = sound.base; pending = sound.pending; marks = sound.marks; acknowledged = sound.acknowledged }

pub crashed_plain : {E : Type 0} (result : Result (Unit {0}) E) (choices : Choices) (old new : Seen) → IsPlain old
    → (IfOk result (λ done. new ≡ after_turn old (crashed old.state))) → OnErr result (new ≡ old) → IsPlain new
crashed_plain (Ok done) choices old new plain after same =
    comes_plain choices old new Crash Crashed plain (comes_crashed choices old new after) (subst IsSound (sym after) (crashed_sound old plain.sound))
crashed_plain (Err refused) choices old new plain after same = subst IsPlain (sym same) plain
