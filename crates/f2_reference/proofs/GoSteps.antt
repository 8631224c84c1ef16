-- What the next event of a seat's call comes to, row by row.
use mathlib.Core.Bool.{true≢false}
use denote.Enum.Bare.{sameb}
use Rattle.std.proofs.Common.{◌≡◌, ℕ, ◌-◌, ◌<◌, Bool, true, false, is_some, [], ◌∷◌, Option, Some, None, MatchOption, refl, sym, ap, ◌∙◌, subst, inl, inr, add-zero, append-nil, length-append, option_copied, arith}
use Rattle.std.proofs.lemmas.Option.{none-some}
use Rattle.std.proofs.lemmas.List.Elements.{All-push}
use Rattle.std.specs.Borrow.{Bor}
use Rattle.std.specs.Bool.{MatchBool}
use Rattle.std.specs.Option.{unwrap_or}
use Rattle.std.specs.FinMap as map
use Rattle.f2_model.specs.State.{State, Flight, InFsync, InCheck, Part, InPages, InNodes, Marked, Progress, Drawn, DrawnNode, DrawnMark, in_nodes}
use Rattle.f2_model.specs.Step as machine
use Rattle.f2_model.specs.Step.{Turn, StepGo, StepFlight, StepPart, calm}
use Rattle.f2_model.specs.declared.events.Answer.{Answer}
use Rattle.f2_model.specs.declared.events.Answer.TheVariants.{Stepped}
use Rattle.f2_model.specs.declared.rows.Row.{Row}
use Rattle.f2_model.specs.declared.replies.Plan.{Plan}
use Rattle.f2_model.specs.declared.replies.Plan.TheVariants as plans
use Rattle.f2_model.specs.declared.replies.Step as step_type
use Rattle.f2_model.specs.declared.replies.Step.TheVariants as step
use Rattle.f2_model.specs.declared.replies.Reply.TheVariants as reply
use Rattle.f2_model.specs.declared.histories.Entry.TheVariants as entry
use Rattle.f2_laws.specs.Choice.{tells_failure}
use Rattle.f2_model.specs.contracts.modes.Mode.{the_type}
use Rattle.f2_model.specs.declared.modes.Mode.{Mode}
use Rattle.f2_model.specs.declared.modes.Mode.TheVariants.{Shut, Mounting, Up}
use Rattle.f2_reference_state.specs.Seen.{Seen, told, after_turn}
use Rattle.f2_reference.specs.declared.choices.Choices.{Choices}
use Rattle.f2_reference.specs.Choosing.{blocks_after, AsLeft}
use Rattle.f2_reference.specs.Going.{IsAt, GoesTo}
use Rattle.f2_reference.specs.Sound.{IsSound, IsFittingMark}

-- a choice by a test, and by what there is, at a known answer
pub on_false : (b : Bool) (P Q : Type 0) → b ≡ false → Q → MatchBool b P Q
on_false true P Q is q = absurd (true≢false is)
on_false false P Q is q = q

pub on_true : (b : Bool) (P Q : Type 0) → b ≡ true → P → MatchBool b P Q
on_true true P Q is p = p
on_true false P Q is p = absurd (true≢false (sym is))

pub on_none : {X : Type 0} (o : Option X) (P : Type 0) (Q : X → Type 0) → o ≡ None → P → MatchOption o P Q
on_none None P Q is p = p
on_none (Some x) P Q is p = absurd (none-some x (sym is))

pub on_some : {X : Type 0} (o : Option X) (P : Type 0) (Q : X → Type 0) (x : X) → o ≡ Some x → Q x → MatchOption o P Q
on_some None P Q x is q = absurd (none-some x is)
on_some (Some y) P Q x is q = subst Q (sym (ap (λ o. unwrap_or o y) is)) q

pub on_any : {X : Type 0} (o : Option X) (P : Type 0) (Q : X → Type 0) → is_some o ≡ true → ((x : X) → Q x) → MatchOption o P Q
on_any None P Q is q = absurd (true≢false (sym is))
on_any (Some x) P Q is q = q x

pub on_nothing : {X : Type 0} (o : Option X) (P : Type 0) (Q : X → Type 0) → is_some o ≡ false → P → MatchOption o P Q
on_nothing None P Q is p = p
on_nothing (Some x) P Q is p = absurd (true≢false is)

-- whether a mode is one that is compared with
pub up_told : (mode : Mode) → sameb the_type mode Up ≡ machine.is_up mode
up_told Shut = refl
up_told Mounting = refl
up_told Up = refl

pub shut_told : (mode : Mode) → sameb the_type mode Shut ≡ machine.is_shut mode
shut_told Shut = refl
shut_told Mounting = refl
shut_told Up = refl

-- a step of a call in flight, by the row of its flight
in_flight : (state : State) (seat : ℕ) (flight : Flight) (turn : Turn) → map.get state.flights seat ≡ Some flight → machine.is_shut state.mode ≡ false → StepFlight calm state seat flight turn → StepGo calm state seat turn
in_flight state seat flight turn is unshut row =
    on_some (map.get state.flights seat) _ _ flight is (on_false (machine.is_shut state.mode) _ _ unshut row)

-- a step with this answer that tells no failure, and a block or a tail as many blocks are left
went : (old new : Seen) (seat : ℕ) (told_step : step_type.Step) (turn : Turn) → StepGo calm old.state seat turn → turn.answer ≡ Stepped told_step → tells_failure (Stepped told_step) ≡ false
    → AsLeft old.blocks (Stepped told_step)
    → ((choices : Choices) → new ≡ record (after_turn old turn) { blocks = blocks_after choices old (Stepped told_step) })
    → GoesTo old new seat told_step
went old new seat told_step turn row is calmly left after choices = record {
  turn = turn;
  step = row;
  faultless = ap tells_failure is ∙ calmly;
  chosen = subst (AsLeft old.blocks) (sym is) left;
  told = is;
  after = after choices;
}

-- a turn that leaves no entry and no choice tells nothing
pub rested : (old : Seen) (after : State) (answer : Answer) → after_turn old (machine.turn_with answer [] [] after) ≡ record old { state = after }
rested old after answer = λ i. record old { state = record after { entries = add-zero after.entries i }; entries = append-nil old.entries i; choices = append-nil old.choices i }

module _ (old new : Seen) (seat : ℕ) where
  pub none-GoesTo : map.get old.state.flights seat ≡ None → new ≡ old → GoesTo old new seat step.None
  none-GoesTo is same = went old new seat step.None (machine.unchanged old.state (Stepped step.None))
      (on_none (map.get old.state.flights seat) _ _ is refl) refl refl tt (λ choices. same ∙ sym (rested old old.state (Stepped step.None)))

  pub closed-GoesTo : (flight : Flight) → map.get old.state.flights seat ≡ Some flight → machine.is_shut old.state.mode ≡ true
      → new ≡ record old { state = machine.without_call old.state seat } → GoesTo old new seat (step.Replied reply.Closed)
  closed-GoesTo flight is shut after = went old new seat (step.Replied reply.Closed) (machine.turn_with (Stepped (step.Replied reply.Closed)) [] [] (machine.without_call old.state seat))
      (on_some (map.get old.state.flights seat) _ _ flight is (on_true (machine.is_shut old.state.mode) _ _ shut refl)) refl refl tt
      (λ choices. after ∙ sym (rested old (machine.without_call old.state seat) (Stepped (step.Replied reply.Closed))))

-- a step of an fsync that has no position open, by the row of its part
at_part : (state : State) (seat ino : ℕ) (part : Part) (turn : Turn) (at : IsAt state seat ino part) → StepPart calm state seat ino at.progress part turn → StepGo calm state seat turn
at_part state seat ino part turn at row =
    in_flight state seat (InFsync ino at.progress) turn at.flight at.unshut
    (on_none at.progress.slot _ _ at.written (subst (λ p. StepPart calm state seat ino at.progress p turn) (sym at.part_is) row))

module _ (old new : Seen) (seat ino : ℕ) where
  pub page-GoesTo : (page : ℕ) → IsAt old.state seat ino InPages → machine.least_of old.state.dirty_pages ino ≡ Some page
      → new ≡ told old (entry.WrotePage ino page ∷ []) [] (machine.page_written old.state ino page) → GoesTo old new seat (step.Page page)
  page-GoesTo page at least after = went old new seat (step.Page page) _
      (at_part old.state seat ino InPages _ at (on_some (machine.least_of old.state.dirty_pages ino) _ _ page least (inl refl))) refl refl tt (λ choices. after)

  pub flushed-GoesTo : IsAt old.state seat ino InPages → machine.least_of old.state.dirty_pages ino ≡ None
      → new ≡ told old (entry.Flushed seat ∷ []) [] (machine.with_progress old.state seat ino (in_nodes None)) → GoesTo old new seat step.Flushed
  flushed-GoesTo at none after = went old new seat step.Flushed _
      (at_part old.state seat ino InPages _ at (on_none (machine.least_of old.state.dirty_pages ino) _ _ none (inl refl))) refl refl tt (λ choices. after)

  pub node-GoesTo : (offset position : ℕ) → IsAt old.state seat ino InNodes → machine.least_of old.state.dirty_nodes ino ≡ Some offset → position ≡ old.state.node_writes
      → new ≡ after_turn old (machine.node_drawn old.state seat ino offset) → GoesTo old new seat (step.Slot position)
  node-GoesTo offset position at least drawn after = subst (λ p. GoesTo old new seat (step.Slot p)) (sym drawn)
      (went old new seat (step.Slot old.state.node_writes) (machine.node_drawn old.state seat ino offset)
      (at_part old.state seat ino InNodes _ at (on_some (machine.least_of old.state.dirty_nodes ino) _ _ offset least refl)) refl refl tt (λ choices. after))

  pub mark-GoesTo : (row : Row) (position : ℕ) → IsAt old.state seat ino InNodes → machine.least_of old.state.dirty_nodes ino ≡ None → map.get old.state.live ino ≡ Some row → position ≡ old.state.node_writes
      → new ≡ after_turn old (machine.mark_drawn old.state seat ino row) → GoesTo old new seat (step.Slot position)
  mark-GoesTo row position at none there drawn after = subst (λ p. GoesTo old new seat (step.Slot p)) (sym drawn)
      (went old new seat (step.Slot old.state.node_writes) (machine.mark_drawn old.state seat ino row)
      (at_part old.state seat ino InNodes _ at (on_none (machine.least_of old.state.dirty_nodes ino) _ _ none (on_some (map.get old.state.live ino) _ _ row there refl))) refl refl tt (λ choices. after))

  module _ (progress : Progress) (flight : map.get old.state.flights seat ≡ Some (InFsync ino progress)) (unshut : machine.is_shut old.state.mode ≡ false) where
    pub slot-GoesTo : (position : ℕ) (drawn : Drawn) → progress.slot ≡ Some (record { position = position; drawn = drawn })
        → new ≡ record old { state = machine.with_progress old.state seat ino (record progress { slot = None }) } → GoesTo old new seat (machine.step_of drawn)
    slot-GoesTo position (DrawnNode offset) open_slot after = went old new seat (step.Node offset) (machine.turn_with (Stepped (step.Node offset)) [] [] (machine.with_progress old.state seat ino (record progress { slot = None })))
        (in_flight old.state seat (InFsync ino progress) _ flight unshut (on_some progress.slot _ _ (record { position = position; drawn = DrawnNode offset }) open_slot (inl refl))) refl refl tt
        (λ choices. after ∙ sym (rested old (machine.with_progress old.state seat ino (record progress { slot = None })) (Stepped (step.Node offset))))
    slot-GoesTo position DrawnMark open_slot after = went old new seat step.Mark (machine.turn_with (Stepped step.Mark) [] [] (machine.with_progress old.state seat ino (record progress { slot = None })))
        (in_flight old.state seat (InFsync ino progress) _ flight unshut (on_some progress.slot _ _ (record { position = position; drawn = DrawnMark }) open_slot (inl refl))) refl refl tt
        (λ choices. after ∙ sym (rested old (machine.with_progress old.state seat ino (record progress { slot = None })) (Stepped step.Mark)))

    module _ (part : progress.part ≡ Marked) (written : progress.slot ≡ None) where
      abbrev at_mark : IsAt old.state seat ino Marked
      at_mark = record { progress = progress; flight = flight; part_is = part; written = written; unshut = unshut }

      pub again-GoesTo : (position : ℕ) → machine.gap_below old.state progress.position ≡ Some position → new ≡ old → GoesTo old new seat (step.Again position)
      again-GoesTo position gap same = went old new seat (step.Again position) (machine.unchanged old.state (Stepped (step.Again position)))
          (at_part old.state seat ino Marked _ at_mark (on_some (machine.gap_below old.state progress.position) _ _ position gap refl)) refl refl tt
          (λ choices. same ∙ sym (rested old old.state (Stepped (step.Again position))))

      pub roll-GoesTo : machine.gap_below old.state progress.position ≡ None → new ≡ after_turn old (machine.acknowledges old.state seat ino progress) → GoesTo old new seat (step.Replied reply.Roll)
      roll-GoesTo no_gap after = went old new seat (step.Replied reply.Roll) (machine.acknowledges old.state seat ino progress)
          (at_part old.state seat ino Marked _ at_mark (on_none (machine.gap_below old.state progress.position) _ _ no_gap (inl refl))) refl refl tt (λ choices. after)

-- the end of a checkpoint tells no failure
no_failure : (plan : Plan) → tells_failure (Stepped (step.Replied (machine.reply_of_plan plan))) ≡ false
no_failure (plans.Cp reason) = refl
no_failure plans.Roll = refl
no_failure plans.Sync = refl

module _ (old new : Seen) (seat : ℕ) (plan : Plan) (flight : map.get old.state.flights seat ≡ Some (InCheck plan)) (unshut : machine.is_shut old.state.mode ≡ false) where
  pub block-GoesTo : is_some old.state.pending ≡ false → 0 < old.blocks → new ≡ record old { blocks = old.blocks - 1 } → GoesTo old new seat step.Block
  block-GoesTo none more after = went old new seat step.Block (machine.unchanged old.state (Stepped step.Block))
      (in_flight old.state seat _ _ flight unshut (on_nothing old.state.pending _ _ none (inl (inl (inl refl))))) refl refl more
      (λ choices. after ∙ ap {A = Seen} {B = Seen} (λ seen. record seen { blocks = old.blocks - 1 }) (sym (rested old old.state (Stepped step.Block))))

  pub tail-GoesTo : is_some old.state.pending ≡ false → old.blocks ≡ 0
      → new ≡ told old (entry.CpTail seat ∷ []) [] (record old.state { pending = Some old.state.live }) → GoesTo old new seat step.Tail
  tail-GoesTo none spent after = went old new seat step.Tail _
      (in_flight old.state seat _ _ flight unshut (on_nothing old.state.pending _ _ none (inr (inl refl)))) refl refl spent (λ choices. after)

  pub done-GoesTo : is_some old.state.pending ≡ true
      → new ≡ after_turn old (machine.completes old.state seat plan) → GoesTo old new seat (step.Replied (machine.reply_of_plan plan))
  done-GoesTo there after = went old new seat (step.Replied (machine.reply_of_plan plan)) _
      (in_flight old.state seat _ _ flight unshut (on_any old.state.pending _ _ there (λ tree. inl refl))) refl (no_failure plan) tt (λ choices. after)

-- an option that is copied is there where it was
pub is_some-copied : {X : Type 0} (o : Option (Bor X)) → is_some (option_copied o) ≡ is_some o
is_some-copied None = refl
is_some-copied (Some x) = refl

-- the state after a marked row joined the marks is sound
pub marked-IsSound : (old new : Seen) (seat ino : ℕ) (row : Row) → IsSound old → map.get old.state.live ino ≡ Some row → new ≡ after_turn old (machine.mark_drawn old.state seat ino row) → IsSound new
marked-IsSound old new seat ino row sound there after = subst IsSound (sym after) (record {
  size = sound.size;
  live = sound.live;
  base = sound.base;
  pending = sound.pending;
  marks = All-push IsFittingMark old.state.marks (record { ino = ino; row = row }) sound.marks (sound.live.keyed ino row there, sound.live.short ino row there);
  acknowledged = omega (arith, sound.acknowledged, length-append old.state.marks (record { ino = ino; row = row } ∷ []));
})
