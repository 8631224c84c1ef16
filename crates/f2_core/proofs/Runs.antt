-- Runs that go on.
use Rattle.std.proofs.Common.{◌≡◌, ℕ, ◌≤◌, List, [], ◌∷◌, ◌++◌, refl, ap, sym, ◌∙◌, subst, append_assoc, arith}
use Rattle.std.specs.List.{flat_map}
use Rattle.f2_model.specs.declared.bounds.Limits.{Limits}
use Rattle.f2_model.specs.declared.histories.Entry.{Entry}
use Rattle.f2_model.specs.State.{State}
use Rattle.f2_model.specs.Step.{Faults, Turn, Step, HasRisen, calm}
use Rattle.f2_model.specs.declared.events.Event.{Event}
use Rattle.f2_model.specs.Run.{Happening, Happened, IsRun, entries_of, choices_of}

-- a list of lists one after another
flat_map-append : {X Y : Type 0} (f : X → List Y) (xs ys : List X) → flat_map f (xs ++ ys) ≡ flat_map f xs ++ flat_map f ys
flat_map-append f [] ys = refl
flat_map-append f (x ∷ xs) ys = ap (λ zs. f x ++ zs) (flat_map-append f xs ys) ∙ sym (append_assoc (f x) (flat_map f xs) (flat_map f ys))

pub entries-append : (xs ys : List Happening) → entries_of (xs ++ ys) ≡ entries_of xs ++ entries_of ys
entries-append xs ys = flat_map-append (λ (one : Happening). one.turn.entries) xs ys

pub choices-append : (xs ys : List Happening) → choices_of (xs ++ ys) ≡ choices_of xs ++ choices_of ys
choices-append xs ys = flat_map-append (λ (one : Happening). one.turn.choices) xs ys

abbrev pub counts : ℕ → ℕ → Faults
counts before after = record { before = before; after = after }

-- events after a count that is no greater
happened-later : (limits : Limits) (a b c : ℕ) (from to : State) (ys : List Happening) → a ≤ b → Happened limits (counts b c) from ys to → Happened limits (counts a c) from ys to
happened-later limits a b c from to [] less more = (omega (arith, less, more.0), more.1)
happened-later limits a b c from to (y ∷ ys) less more = (omega (arith, less, more.0), more.1, more.2, more.3)

-- events after events
pub happened-append : (limits : Limits) (a b c : ℕ) (from mid to : State) (xs ys : List Happening) → Happened limits (counts a b) from xs mid → Happened limits (counts b c) mid ys to → Happened limits (counts a c) from (xs ++ ys) to
happened-append limits a b c from mid to [] ys first more = subst (λ s. Happened limits (counts a c) s ys to) (sym first.1) (happened-later limits a b c mid to ys first.0 more)
happened-append limits a b c from mid to (x ∷ xs) ys first more = (first.0, first.1, first.2, happened-append limits x.faults.after b c x.turn.after mid to xs ys first.3 more)

pub run-append : (limits : Limits) (from mid to : State) (es : List Entry) (cs : List ℕ) (ys : List Happening) → IsRun limits calm from es cs mid → Happened limits calm mid ys to
    → IsRun limits calm from (es ++ entries_of ys) (cs ++ choices_of ys) to
run-append limits from mid to es cs ys run more = record {
  events = run.events ++ ys;
  happened = happened-append limits 0 0 0 from mid to run.events ys run.happened more;
  entries_left = ap (λ e. e ++ entries_of ys) run.entries_left ∙ sym (entries-append run.events ys);
  choices_left = ap (λ c. c ++ choices_of ys) run.choices_left ∙ sym (choices-append run.events ys);
}

-- an event in which no call of a disk failed, before others
abbrev pub calmly : Event → Turn → Happening
calmly event turn = record { event = event; faults = calm; turn = turn }

pub happens-first : (limits : Limits) (from to : State) (event : Event) (turn : Turn) (rest : List Happening) → Step limits calm from event turn → Happened limits calm turn.after rest to → Happened limits calm from (calmly event turn ∷ rest) to
happens-first limits from to event turn rest step more = (omega arith, omega arith, step, more)

pub happens-last : (limits : Limits) (from : State) (event : Event) (turn : Turn) → Step limits calm from event turn → Happened limits calm from (calmly event turn ∷ []) turn.after
happens-last limits from event turn step = happens-first limits from turn.after event turn [] step (omega arith, refl)

-- where none failed
pub quiet-calm : ¬ (HasRisen calm)
quiet-calm risen = absurd (omega (arith, risen))
