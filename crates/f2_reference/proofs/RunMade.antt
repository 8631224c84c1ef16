-- A machine that is made: its first mount, the tail of its checkpoint, and its last flush.
use Rattle.std.proofs.lemmas.Option.{none-some}
use Rattle.std.proofs.Common.{◌≡◌, ◌<◌, ℕ, Bool, true, false, cond, [], ◌∷◌, MatchOption, arith, refl, sym, ap, subst, ◌∙◌, inl, inr, All, zero, suc, ◌≤◌}
use Rattle.std.specs.Prelude.{Option, Some, None}
use Rattle.std.specs.Ordering.{nat_cmp, eq_by_cmp}
use Rattle.std.specs.Cmp.{nat_cmp_total, unsigned_tied}
use Rattle.std.specs.FinMap as map
use Rattle.std.specs.FinMap.{nat_cmp-IsAntisymmetric}
use Rattle.f2_model.specs.declared.bounds.Limits.{Limits}
use Rattle.f2_model.specs.declared.histories.Entry.TheVariants as entry
use Rattle.f2_model.specs.declared.replies.Plan.TheVariants as plans
use Rattle.f2_model.specs.declared.replies.Step.TheVariants as step
use Rattle.f2_model.specs.Tree.{ROOT, root_row, root_alone}
use Rattle.f2_model.specs.State.{State, Flight, InCheck, base_up_to, initial}
use Rattle.f2_model.specs.declared.events.Event.{Event}
use Rattle.f2_model.specs.declared.events.Event.TheVariants.{Go, Mount}
use Rattle.f2_model.specs.declared.events.Answer.{Answer}
use Rattle.f2_model.specs.declared.events.Answer.TheVariants.{Stepped}
use Rattle.f2_model.specs.Step.{Turn, calm, MOUNT_SEAT, StepGo, StepCheck, Writes, Flushes, found, turn_with, completes, unchanged, step_failed}
use Rattle.f2_reference_calls.specs.Given.{IsFitting}
use Rattle.f2_spans.specs.Spans.{MOST_SIZE}
use Rattle.f2_reference_state.specs.Seen.{Seen, told, after_turn}
use Rattle.f2_reference.specs.declared.choices.MarksKept.TheVariants.{Fewest}
use Rattle.f2_reference.specs.declared.choices.Choices.{Choices}
use Rattle.f2_reference.specs.Choosing.{AsLeft, blocks_after, ComesTo}
use Rattle.f2_reference.specs.Sound.{IsFittingMark, IsSound, IsPlain, first_meaning, made_by}
use Rattle.f2_reference.proofs.MountRolls.{rolled_fitting}

-- what a machine is made with
abbrev pub making : Choices
making = record { marks = Fewest; pending = false; blocks = 0 }

-- before its mount, after it, and after its tail
abbrev pub begun_by : Limits → Seen
begun_by limits = record { limits = limits; state = initial first_meaning; entries = []; choices = []; blocks = 0 }

abbrev pub mounted_by : Limits → Seen
mounted_by limits = record (after_turn (begun_by limits) (found (initial first_meaning) (base_up_to (initial first_meaning) 0) 0)) { blocks = 0 }

abbrev pub tailed_by : Limits → Seen
tailed_by limits = told (mounted_by limits) (entry.CpTail MOUNT_SEAT ∷ []) [] (record (mounted_by limits).state { pending = Some root_alone })

-- an empty map fits, and so does the tree of the root
empty_fitting : IsFitting map.empty
empty_fitting = record {
  keyed = λ ino row is. absurd (none-some row (sym (map.get-empty nat_cmp ino) ∙ is));
  short = λ ino row is. absurd (none-some row (sym (map.get-empty nat_cmp ino) ∙ is));
}

root_fitting : IsFitting root_alone
root_fitting = rolled_fitting map.empty (record { ino = ROOT; row = root_row } ∷ []) empty_fitting (λ k d inside. root_fits k d inside)
  where
    root_fits : All IsFittingMark (record { ino = ROOT; row = root_row } ∷ [])
    root_fits zero d inside = (refl, omega arith)
    root_fits (suc k) d inside = absurd (omega arith)

-- before its mount it is a run of no event
pub begun_plain : (limits : Limits) → limits.size ≤ MOST_SIZE → IsPlain (begun_by limits)
begun_plain limits size = record {
  sound = record { size = size; live = root_fitting; base = root_fitting; pending = λ tree is. absurd (none-some tree is); marks = λ k d inside. absurd (omega arith); acknowledged = omega arith };
  run = record { events = []; happened = (omega arith, refl); entries_left = refl; choices_left = refl };
}

-- no call of the disk failed where none was made
calm_writes : (seat : ℕ) (failed : Answer) (so turn : Turn) → Writes calm seat failed so turn → turn ≡ so
calm_writes seat failed so turn (inl is) = is
calm_writes seat failed so turn (inr risen) = absurd (omega (arith, risen.0))

calm_flushes : (state : State) (seat : ℕ) (failed : Answer) (so turn : Turn) → Flushes calm state seat failed so turn → turn ≡ so
calm_flushes state seat failed so turn (inl is) = is
calm_flushes state seat failed so turn (inr risen) = absurd (omega (arith, risen.0))

from_some : {X : Type 0} (o : Option X) (P : Type 0) (Q : X → Type 0) (x : X) → o ≡ Some x → MatchOption o P Q → Q x
from_some None P Q x is q = absurd (none-some x is)
from_some (Some y) P Q x is q = subst Q (ap (λ o. Rattle.std.specs.Option.unwrap_or o y) is) q

-- the flight of the mount alone
abbrev pub alone : map.FinMap nat_cmp Flight
alone = map.insert map.empty MOUNT_SEAT (InCheck plans.Sync)

alone_there : map.get alone MOUNT_SEAT ≡ Some (InCheck plans.Sync)
alone_there = map.get-insert nat_cmp_total map.empty MOUNT_SEAT (InCheck plans.Sync) MOUNT_SEAT ∙ ap (λ b. cond b (Some (InCheck plans.Sync)) (map.get (map.empty {R = nat_cmp}) MOUNT_SEAT)) (unsigned_tied MOUNT_SEAT MOUNT_SEAT)

alone_gone : map.remove alone MOUNT_SEAT ≡ map.empty
alone_gone = map.same_map nat_cmp_total nat_cmp-IsAntisymmetric _ _ (λ q. map.get-remove nat_cmp_total alone MOUNT_SEAT q ∙ by_tie q (eq_by_cmp nat_cmp q MOUNT_SEAT) refl ∙ sym (map.get-empty nat_cmp q))
  where
    by_tie : (q : ℕ) (b : Bool) → eq_by_cmp nat_cmp q MOUNT_SEAT ≡ b → cond b None (map.get alone q) ≡ None
    by_tie q true tie = refl
    by_tie q false tie = map.get-insert nat_cmp_total map.empty MOUNT_SEAT (InCheck plans.Sync) q ∙ ap (λ b. cond b (Some (InCheck plans.Sync)) (map.get (map.empty {R = nat_cmp}) q)) tie ∙ map.get-empty nat_cmp q

-- where an event came to a turn it came to its state
ends_at : (choices : Choices) (old new : Seen) (event : Event) (answer : Answer) (turn : Turn) (came : ComesTo choices old new event answer) → came.turn ≡ turn
    → new ≡ record (after_turn old turn) { blocks = blocks_after choices old turn.answer }
ends_at choices old new event answer turn came is =
    came.after ∙ ap (λ told. record (after_turn old came.turn) { blocks = blocks_after choices old told }) (sym came.told) ∙ ap (λ (t : Turn). record (after_turn old t) { blocks = blocks_after choices old t.answer }) is

pub mount_made : (limits : Limits) (new : Seen) (answer : Answer) → ComesTo making (begun_by limits) new Mount answer → new ≡ mounted_by limits
mount_made limits new answer came = ends_at making (begun_by limits) new Mount answer (found (initial first_meaning) (base_up_to (initial first_meaning) 0) 0) came (came.chosen refl)

pub tail_made : (limits : Limits) (new : Seen) (answer : Answer) → ComesTo making (mounted_by limits) new (Go MOUNT_SEAT) answer → new ≡ tailed_by limits
tail_made limits new answer came = ends_at making (mounted_by limits) new (Go MOUNT_SEAT) answer tail came (either (from_some (map.get alone MOUNT_SEAT) _ _ (InCheck plans.Sync) alone_there came.step))
  where
    tail : Turn
    tail = turn_with (Stepped step.Tail) (entry.CpTail MOUNT_SEAT ∷ []) [] (record (mounted_by limits).state { pending = Some root_alone })

    no_block : came.turn ≡ unchanged (mounted_by limits).state (Stepped step.Block) → ⊥
    no_block is =
        let left : 0 < 0 = subst (λ (t : Turn). AsLeft 0 t.answer) is came.chosen in
        omega (arith, left)

    either : StepCheck calm (mounted_by limits).state MOUNT_SEAT plans.Sync came.turn → came.turn ≡ tail
    either (inl (inl block)) = absurd (no_block (calm_writes MOUNT_SEAT step_failed _ came.turn block))
    either (inl (inr flush)) = absurd (no_block (calm_flushes (mounted_by limits).state MOUNT_SEAT step_failed _ came.turn flush))
    either (inr wrote) = calm_writes MOUNT_SEAT step_failed _ came.turn wrote

pub done_made : (limits : Limits) (new : Seen) (answer : Answer) → ComesTo making (tailed_by limits) new (Go MOUNT_SEAT) answer → new ≡ made_by limits
done_made limits new answer came =
    ends_at making (tailed_by limits) new (Go MOUNT_SEAT) answer (completes (tailed_by limits).state MOUNT_SEAT plans.Sync) came
    (calm_flushes (tailed_by limits).state MOUNT_SEAT step_failed _ came.turn (from_some (map.get alone MOUNT_SEAT) _ _ (InCheck plans.Sync) alone_there came.step))
    ∙ ap (λ flights. record (made_by limits) { state = record (made_by limits).state { flights = flights } }) alone_gone
