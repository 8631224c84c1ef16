-- What mounts and unmounts come to.
use mathlib.Core.Bool.{true≢false}
use Rattle.std.proofs.lemmas.Option.{none-some}
use Rattle.std.proofs.Common.{◌≡◌, ◌≤◌, ◌⊎◌, ℕ, length, min, max, take, MatchOption, arith, refl, sym, ap, subst, ◌∙◌, inl, inr, add-zero, append-nil}
use Rattle.std.specs.Prelude.{Bool, true, false, not, if◌then◌else◌, Option, Some, None}
use Rattle.std.specs.Bool.{MatchBool}
use Rattle.std.specs.Option.{unwrap_or}
use Rattle.f2_model.specs.Tree.{Rows}
use Rattle.f2_model.specs.State.{State, Meaning, base_up_to, pending_with}
use Rattle.f2_model.specs.declared.events.Event.{Event}
use Rattle.f2_model.specs.declared.events.Event.TheVariants as event
use Rattle.f2_model.specs.declared.events.Answer.{Answer}
use Rattle.f2_model.specs.declared.events.Answer.TheVariants as answer
use Rattle.f2_model.specs.declared.events.MountRefusal.TheVariants.{ReadFailed, WriteFailed, BadImage, NoMemory}
use Rattle.f2_model.specs.declared.modes.Format.{Format}
use Rattle.f2_model.specs.declared.modes.Format.TheVariants.{Two}
use Rattle.f2_model.specs.Step.{Step, calm, closing, replied, found, unchanged, FindsMarks, FindsPending, MountFails, is_shut, is_up, least_in_flight}
use Rattle.f2_model.specs.declared.replies.Reply.TheVariants as reply
use Rattle.f2_model.specs.declared.histories.CallKind.TheVariants as kind
use Rattle.f2_laws.specs.Choice.{tells_failure}
use Rattle.f2_model.specs.declared.replies.Plan.TheVariants as plan
use Rattle.f2_model.specs.declared.replies.Begun.{Begun}
use Rattle.f2_model.specs.declared.replies.Begun.TheVariants as begun
use Rattle.f2_reference_state.specs.Seen.{Seen, after_turn}
use Rattle.f2_reference.specs.declared.choices.MarksKept.TheVariants.{Fewest, UpTo}
use Rattle.f2_reference.specs.declared.choices.MarksKept.{MarksKept}
use Rattle.f2_reference.specs.declared.choices.Choices.{Choices}
use Rattle.f2_reference.specs.Choosing.{place_left, found_by, Chooses, blocks_after, ComesTo}
use Rattle.f2_reference.specs.Going.{ClosesTo}
use Rattle.f2_reference.specs.Sound.{IsSound}

-- a choice by a test, and by what there is, at a known answer
pub on_true : (b : Bool) (P Q : Type 0) → b ≡ true → P → MatchBool b P Q
on_true true P Q is p = p
on_true false P Q is p = absurd (true≢false (sym is))

pub on_false : (b : Bool) (P Q : Type 0) → b ≡ false → Q → MatchBool b P Q
on_false true P Q is q = absurd (true≢false is)
on_false false P Q is q = q

pub on_none : {X : Type 0} (o : Option X) (P : Type 0) (Q : X → Type 0) → o ≡ None → P → MatchOption o P Q
on_none None P Q is p = p
on_none (Some x) P Q is p = absurd (none-some x (sym is))

pub on_some : {X : Type 0} (o : Option X) (P : Type 0) (Q : X → Type 0) (x : X) → o ≡ Some x → Q x → MatchOption o P Q
on_some None P Q x is q = absurd (none-some x is)
on_some (Some y) P Q x is q = subst Q (sym (ap (λ o. unwrap_or o y) is)) q

-- an event that changed nothing
pub comes_unchanged : (choices : Choices) (old : Seen) (one : Event) (told : Answer) → Step old.limits calm old.state one (unchanged old.state told) → tells_failure told ≡ false
    → Chooses choices old one (unchanged old.state told) → blocks_after choices old told ≡ old.blocks → ComesTo choices old old one told
comes_unchanged choices old one told step faultless chosen blocks = record {
  turn = unchanged old.state told;
  step = step;
  faultless = faultless;
  chosen = chosen;
  told = refl;
  after = λ i. record old {
    state = record old.state { entries = sym (add-zero old.state.entries) i };
    entries = sym (append-nil old.entries) i;
    choices = sym (append-nil old.choices) i;
    blocks = sym blocks i;
  };
}

-- a volume that isn't closed has its mount
pub comes_mounted : (choices : Choices) (old : Seen) → not (is_shut old.state.mode) ≡ true → ComesTo choices old old event.Mount answer.AlreadyMounted
comes_mounted choices old open_still =
    comes_unchanged choices old event.Mount answer.AlreadyMounted (on_true (not (is_shut old.state.mode)) _ _ open_still refl) refl (λ shut. absurd (true≢false (sym open_still ∙ ap not shut))) refl

-- what a mount may find is found as it was told
comes_found : (choices : Choices) (old new : Seen) (meaning : Meaning) (choice : ℕ) → not (is_shut old.state.mode) ≡ false
    → (FindsMarks old.state (found old.state meaning choice) ⊎ FindsPending old.state (found old.state meaning choice))
    → found old.state meaning choice ≡ found_by choices old.state
    → new ≡ record (after_turn old (found old.state meaning choice)) { blocks = choices.blocks }
    → ComesTo choices old new event.Mount (answer.Found (length meaning.marks))
comes_found choices old new meaning choice shut may so after = record {
  turn = found old.state meaning choice;
  step = on_false (not (is_shut old.state.mode)) _ _ shut (either may);
  faultless = refl;
  chosen = λ _. so;
  told = refl;
  after = after;
}
  where
    either : FindsMarks old.state (found old.state meaning choice) ⊎ FindsPending old.state (found old.state meaning choice)
        → FindsMarks old.state (found old.state meaning choice) ⊎ FindsPending old.state (found old.state meaning choice) ⊎ MountFails calm old.state ReadFailed kind.Read (found old.state meaning choice)
        ⊎ MountFails calm old.state WriteFailed kind.Flush (found old.state meaning choice) ⊎ (found old.state meaning choice ≡ unchanged old.state (answer.NotMounted BadImage)) ⊎ (found old.state meaning choice ≡ unchanged old.state (answer.NotMounted NoMemory))
    either (inl marked) = inl marked
    either (inr pending) = inr (inl pending)

-- what a mount was told to find
found_pending : (choices : Choices) (state : State) (tree : Rows) → choices.pending ≡ true → state.pending ≡ Some tree → found state (pending_with state tree) 1 ≡ found_by choices state
found_pending choices state tree told there = rw (told, there) refl

found_marks : (choices : Choices) (state : State) → (if choices.pending then state.pending else None) ≡ None → found state (base_up_to state (place_left choices.marks state)) 0 ≡ found_by choices state
found_marks choices state none = rw (none) refl

-- a mount finds the pending tree
pub comes_pending : (choices : Choices) (old new : Seen) (tree : Rows) → not (is_shut old.state.mode) ≡ false → choices.pending ≡ true → old.state.pending ≡ Some tree
    → new ≡ record (after_turn old (found old.state (pending_with old.state tree) 1)) { blocks = choices.blocks } → ComesTo choices old new event.Mount (answer.Found 0)
comes_pending choices old new tree shut told there after =
    comes_found choices old new (pending_with old.state tree) 1 shut
    (inr (on_some old.state.pending _ (λ one. found old.state (pending_with old.state tree) 1 ≡ found old.state (pending_with old.state one) 1) tree there refl)) (found_pending choices old.state tree told there) after

-- the marks that are left to a mount are first ones, down to the last acknowledged one
left_found : (kept : MarksKept) (state : State) → state.acknowledged ≤ length state.marks → FindsMarks state (found state (base_up_to state (place_left kept state)) 0)
left_found Fewest state there = (state.acknowledged, omega arith, there, refl)
left_found (UpTo place) state there = (max state.acknowledged (min place (length state.marks)), omega arith, omega (arith, there), refl)

-- a mount finds the base with the marks that are left to it
pub comes_marks : (choices : Choices) (old new : Seen) → IsSound old → not (is_shut old.state.mode) ≡ false → (if choices.pending then old.state.pending else None) ≡ None
    → new ≡ record (after_turn old (found old.state (base_up_to old.state (place_left choices.marks old.state)) 0)) { blocks = choices.blocks }
    → ComesTo choices old new event.Mount (answer.Found (length (take (place_left choices.marks old.state) old.state.marks)))
comes_marks choices old new sound shut none after =
    comes_found choices old new (base_up_to old.state (place_left choices.marks old.state)) 0 shut (inl (left_found choices.marks old.state sound.acknowledged)) (found_marks choices old.state none) after

-- a machine after a turn that changes nothing
still : (choices : Choices) (old : Seen) (told : Answer) → blocks_after choices old told ≡ old.blocks → old ≡ record (after_turn old (unchanged old.state told)) { blocks = blocks_after choices old told }
still choices old told blocks = λ i. record old {
  state = record old.state { entries = sym (add-zero old.state.entries) i };
  entries = sym (append-nil old.entries) i;
  choices = sym (append-nil old.choices) i;
  blocks = sym blocks i;
}

-- an unmount or an upgrade of a volume that isn't open
pub closes_closed : (choices : Choices) (old : Seen) (format : Format) → not (is_up old.state.mode) ≡ true → ClosesTo choices old old format (begun.Replied reply.Closed)
closes_closed choices old format closed = record {
  turn = unchanged old.state (replied reply.Closed);
  is = on_true (not (is_up old.state.mode)) _ _ closed refl;
  faultless = refl;
  told = refl;
  after = still choices old (replied reply.Closed) refl;
}

-- one while a call is in flight
pub closes_busy : (choices : Choices) (old : Seen) (format : Format) (by : ℕ) → not (is_up old.state.mode) ≡ false → least_in_flight old.state ≡ Some by → ClosesTo choices old old format (begun.Replied (reply.Busy by))
closes_busy choices old format by up least = record {
  turn = unchanged old.state (replied (reply.Busy by));
  is = on_false (not (is_up old.state.mode)) _ _ up (on_some (least_in_flight old.state) _ (λ other. unchanged old.state (replied (reply.Busy by)) ≡ unchanged old.state (replied (reply.Busy other))) by least refl);
  faultless = refl;
  told = refl;
  after = still choices old (replied (reply.Busy by)) refl;
}

-- its checkpoint begins
pub closes_begun : (choices : Choices) (old new : Seen) (format : Format) → not (is_up old.state.mode) ≡ false → least_in_flight old.state ≡ None
    → new ≡ record (after_turn old (closing old.state format)) { blocks = choices.blocks } → ClosesTo choices old new format (begun.Going plan.Sync)
closes_begun choices old new format up none after = record {
  turn = closing old.state format;
  is = on_false (not (is_up old.state.mode)) _ _ up (on_none (least_in_flight old.state) _ _ none refl);
  faultless = refl;
  told = refl;
  after = after;
}

-- an unmount keeps the format, and an upgrade sets the newer one
pub comes_unmount : (choices : Choices) (old new : Seen) (told : Begun) → ClosesTo choices old new old.state.format told → ComesTo choices old new event.Unmount (answer.Began told)
comes_unmount choices old new told closes = record { turn = closes.turn; step = inl closes.is; faultless = closes.faultless; chosen = tt; told = closes.told; after = closes.after }

pub comes_upgrade : (choices : Choices) (old new : Seen) (told : Begun) → ClosesTo choices old new Two told → ComesTo choices old new event.Upgrade (answer.Began told)
comes_upgrade choices old new told closes = record { turn = closes.turn; step = inl closes.is; faultless = closes.faultless; chosen = tt; told = closes.told; after = closes.after }
