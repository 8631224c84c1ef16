-- What happens to a core is a step of the machine, case by case.
use Rattle.std.proofs.Common.{◌≡◌, ◌≢◌, ◌⊎◌, inl, inr, ℕ, ◌+◌, ◌<◌, ◌≤◌, Bool, true, false, not, nat_le, List, [], ◌∷◌, refl, sym, ap, ◌∙◌, subst, arith, true≢false}
use Rattle.std.specs.Prelude.{Option, Some, None, Result, Ok, Err, MatchOption, if◌then◌else◌, take}
use Rattle.std.specs.Bool.{MatchBool}
use Rattle.std.specs.List.{filter}
use Rattle.std.specs.Option.{unwrap_or}
use Rattle.std.specs.Ordering.{nat_cmp}
use Rattle.std.specs.Cmp.{nat_cmp_total}
use Rattle.std.specs.FinMap as map
use Rattle.std.specs.FinMap.{nat_cmp-IsAntisymmetric}
use Rattle.f2_model.specs.declared.bounds.Limits.{Limits}
use Rattle.f2_model.specs.declared.rows.Row.{Row}
use Rattle.f2_model.specs.declared.requests.Request.{Request}
use Rattle.f2_model.specs.declared.requests.Request.TheVariants.{Create, Write, Sync}
use Rattle.f2_model.specs.declared.replies.Plan.TheVariants as plan
use Rattle.f2_model.specs.declared.replies.Begun.TheVariants.{Going}
use Rattle.f2_model.specs.declared.replies.Reply.{Reply}
use Rattle.f2_model.specs.declared.replies.Reply.TheVariants as reply
use Rattle.f2_model.specs.declared.replies.Step.TheVariants as step
use Rattle.f2_model.specs.declared.histories.Entry.TheVariants as entry
use Rattle.f2_model.specs.Tree.{Rows, walk}
use Rattle.f2_model.specs.Call.{refusal, effect, space_refusal}
use Rattle.f2_model.specs.State.{State, Mark, Meaning, Flight, InCheck, number_of}
use Rattle.f2_model.specs.declared.modes.Mode.{Mode}
use Rattle.f2_model.specs.declared.modes.Mode.TheVariants.{Shut, Up}
use Rattle.f2_model.specs.declared.events.Answer.TheVariants as answers
use Rattle.f2_model.specs.declared.events.MountRefusal.TheVariants as refusals
use Rattle.f2_model.specs.Step.{Step, Faults, calm, IsSeat, checking, Turn, Serves, TakesEffect, ReadFails, freezes, freezing, freezing_walked, MOST_ENTRIES, is_up, is_shut, is_check, first_key, barring_seat, least_in_flight, is_unmount, with_base, without_call, turn_with, unchanged, replied, told_at_once, found, completes, crashed}
use Rattle.f2_model.specs.declared.events.Event.TheVariants.{Begin, Go, Mount, Crash}
use Rattle.f2_model.specs.declared.events.Answer.TheVariants.{Began, Stepped, AlreadyMounted}
use Rattle.f2_laws.proofs.Maps.{get_put-other, get_taken, get_taken-other}
use Rattle.f2_laws.proofs.Places.{same_or_other}
use Rattle.f2_core.specs.Changes.{IsChange}
use Rattle.f2_core.proofs.Empty.{entries-empty}

-- a choice by a test, and by what there is, at a known answer
pub on_false : (b : Bool) (P Q : Type 0) → b ≡ false → Q → MatchBool b P Q
on_false true P Q is q = absurd (true≢false is)
on_false false P Q is q = q

pub on_true : (b : Bool) (P Q : Type 0) → b ≡ true → P → MatchBool b P Q
on_true true P Q is p = p
on_true false P Q is p = absurd (true≢false (sym is))

on_none : {X : Type 0} (o : Option X) (P : Type 0) (Q : X → Type 0) → o ≡ None → P → MatchOption o P Q
on_none None P Q is p = p
on_none (Some x) P Q is p = absurd (cc)

on_some : {X : Type 0} (o : Option X) (P : Type 0) (Q : X → Type 0) (x : X) → o ≡ Some x → Q x → MatchOption o P Q
on_some None P Q x is q = absurd (cc)
on_some (Some y) P Q x is q = subst Q (sym (ap (λ o. unwrap_or o y) is)) q

is_le : (m n : ℕ) → m ≤ n → nat_le m n ≡ true
is_le m n le = grind (arith, le)

is_above : (m n : ℕ) → n < m → nat_le m n ≡ false
is_above m n lt = grind (arith, lt)

-- nobody is in flight
nobody_bars : (flights : map.FinMap nat_cmp Flight) (seat : ℕ) → flights ≡ map.empty → (if map.contains_key flights seat then Some seat else first_key (filter (λ one. is_check one.1) (map.entries flights))) ≡ None
nobody_bars flights seat none =
    ap (λ (f : map.FinMap nat_cmp Flight). if map.contains_key f seat then Some seat else first_key (filter (λ one. is_check one.1) (map.entries f))) none
    ∙ rw (map.get-empty nat_cmp seat, entries-empty {X = Flight}) refl

nobody_least : (flights : map.FinMap nat_cmp Flight) → flights ≡ map.empty → first_key (map.entries flights) ≡ None
nobody_least flights none = ap (λ (f : map.FinMap nat_cmp Flight). first_key (map.entries f)) none ∙ ap first_key (entries-empty {X = Flight})

-- a seat that came and left
abbrev nobody : map.FinMap nat_cmp Flight
nobody = map.empty

abbrev alone_in : ℕ → Flight → map.FinMap nat_cmp Flight
alone_in seat flight = map.insert nobody seat flight

pub come_and_gone : (seat : ℕ) (flight : Flight) → map.remove (alone_in seat flight) seat ≡ nobody
come_and_gone seat flight = map.same_map nat_cmp_total nat_cmp-IsAntisymmetric (map.remove (alone_in seat flight) seat) nobody (λ q. by_seat q (same_or_other q seat))
  where
    by_seat : (q : ℕ) → (q ≡ seat) ⊎ (q ≢ seat) → map.get (map.remove (alone_in seat flight) seat) q ≡ map.get nobody q
    by_seat q (inl same) = ap (λ i. map.get (map.remove (alone_in seat flight) seat) i) same ∙ get_taken (alone_in seat flight) seat ∙ sym (map.get-empty nat_cmp q)
    by_seat q (inr other) = get_taken-other (alone_in seat flight) seat q other ∙ get_put-other nobody seat flight q other

-- the turns of a checkpoint of a seat, from its beginning to its tail and its end
abbrev pub begun_turn : State → ℕ → Turn
begun_turn state seat = turn_with (Began (Going plan.Sync)) (entry.Begin seat Sync ∷ entry.CpBegin seat plan.Sync ∷ []) (number_of state.format ∷ []) (checking state seat plan.Sync)

abbrev pub tail_turn : State → ℕ → Turn
tail_turn state seat = turn_with (Stepped step.Tail) (entry.CpTail seat ∷ []) [] (record state { pending = Some state.live })

abbrev pub done_turn : State → ℕ → Turn
done_turn state seat = turn_with (Stepped (step.Replied reply.Synced)) (entry.CpDone seat ∷ []) [] (without_call (with_base state state.live state.next_format (state.version + 1) Up) seat)

abbrev pub unmarked : State → List Mark → Meaning
unmarked state marks = record { base = state.base; marks = marks; format = state.format; version = state.version }

abbrev pub found_turn : State → Turn
found_turn state = found state (unmarked state []) 0

abbrev pub refused_turn : State → ℕ → Request → Reply → Turn
refused_turn state seat request refused = told_at_once state seat request refused [] state

-- nobody keeps a call that changes files off
nobody_freezes : (state : State) (end : Result Row Reply) → state.flights ≡ map.empty → freezing_walked state end ≡ None
nobody_freezes state (Ok row) none =
    ap (λ (f : map.FinMap nat_cmp Flight). first_key (filter (λ one. freezes row.ino one.1) (map.entries f))) none
    ∙ ap (λ (es : List (ℕ × Flight)). first_key (filter (λ one. freezes row.ino one.1) es)) (entries-empty {X = Flight})
nobody_freezes state (Err refused) none = refl

nobody_freezes_change : (state : State) (request : Request) → IsChange request → state.flights ≡ map.empty → freezing state request ≡ None
nobody_freezes_change state (Create path) is none = refl
nobody_freezes_change state (Write path pieces) is none = nobody_freezes state (walk state.live path) none
nobody_freezes_change state _ is none = absurd is

-- such a call is one of one event
serves_change : (limits : Limits) (faults : Faults) (state : State) (seat : ℕ) (request : Request) (turn : Turn) → IsChange request
    → MatchOption (space_refusal limits (effect state.live request limits.nids)) (TakesEffect limits state seat request turn ⊎ ReadFails faults state seat request turn) (λ refused. turn ≡ told_at_once state seat request refused [] state)
    → Serves limits faults state seat request turn
serves_change limits faults state seat (Create path) turn is h = h
serves_change limits faults state seat (Write path pieces) turn is h = h
serves_change limits faults state seat _ turn is h = absurd is

module _ (limits : Limits) (state : State) where
  pub step-closed : (seat : ℕ) (seated : IsSeat seat) (request : Request) → state.mode ≡ Shut → Step limits calm state (Begin seat request) (unchanged state (replied reply.Closed))
  step-closed seat seated request shut = (seated, inl (on_true (not (is_up state.mode)) _ _ (ap (λ (m : Mode). not (is_up m)) shut) refl))

  pub step-spent : (seat : ℕ) (seated : IsSeat seat) (request : Request) → state.mode ≡ Up → MOST_ENTRIES ≤ state.entries → Step limits calm state (Begin seat request) (unchanged state (replied reply.Spent))
  step-spent seat seated request up late = (seated, inl (on_false (not (is_up state.mode)) _ _ (ap (λ (m : Mode). not (is_up m)) up) (on_true (nat_le MOST_ENTRIES state.entries) _ _ (is_le MOST_ENTRIES state.entries late) refl)))

  pub step-memory : (seat : ℕ) (seated : IsSeat seat) (request : Request) → Step limits calm state (Begin seat request) (unchanged state (replied reply.Memory))
  step-memory seat seated request = (seated, inr refl)

  module _ (up : state.mode ≡ Up) (early : state.entries < MOST_ENTRIES) (free : state.flights ≡ map.empty) where
    module _ (seat : ℕ) (seated : IsSeat seat) (request : Request) where
      -- the call that is neither closed off, nor too late, nor barred goes on to its refusals
      step-on : (turn : Turn) → MatchOption (refusal limits state.live request)
          (MatchOption (freezing state request) (Serves limits calm state seat request turn) (λ by. turn ≡ unchanged state (replied (reply.Busy by))))
          (λ refused. turn ≡ told_at_once state seat request refused [] state) → Step limits calm state (Begin seat request) turn
      step-on turn rest = (
        seated,
        inl (
            on_false (not (is_up state.mode)) _ _ (ap (λ (m : Mode). not (is_up m)) up) (
            on_false (nat_le MOST_ENTRIES state.entries) _ _ (is_above MOST_ENTRIES state.entries early) (
            on_none (barring_seat state seat) _ _ (nobody_bars state.flights seat free) rest))),
      )

      pub step-refused : (refused : Reply) → refusal limits state.live request ≡ Some refused → Step limits calm state (Begin seat request) (refused_turn state seat request refused)
      step-refused refused is = step-on (refused_turn state seat request refused) (on_some (refusal limits state.live request) _ _ refused is refl)

      step-served : (turn : Turn) → IsChange request → refusal limits state.live request ≡ None
          → MatchOption (space_refusal limits (effect state.live request limits.nids)) (TakesEffect limits state seat request turn ⊎ ReadFails calm state seat request turn) (λ refused. turn ≡ told_at_once state seat request refused [] state)
          → Step limits calm state (Begin seat request) turn
      step-served turn change none rest = step-on turn (
          on_none (refusal limits state.live request) _ _ none (
          on_none (freezing state request) _ _ (nobody_freezes_change state request change free) (serves_change limits calm state seat request turn change rest)))

      pub step-kept_out : (refused : Reply) → IsChange request → refusal limits state.live request ≡ None → space_refusal limits (effect state.live request limits.nids) ≡ Some refused
          → Step limits calm state (Begin seat request) (refused_turn state seat request refused)
      step-kept_out refused change none is =
          step-served (refused_turn state seat request refused) change none (on_some (space_refusal limits (effect state.live request limits.nids)) _ _ refused is refl)

      pub step-takes : (turn : Turn) → IsChange request → refusal limits state.live request ≡ None → space_refusal limits (effect state.live request limits.nids) ≡ None → TakesEffect limits state seat request turn
          → Step limits calm state (Begin seat request) turn
      step-takes turn change none room takes = step-served turn change none (on_none (space_refusal limits (effect state.live request limits.nids)) _ _ room (inl takes))

    pub step-begun : (seat : ℕ) → IsSeat seat → Step limits calm state (Begin seat Sync) (begun_turn state seat)
    step-begun seat seated = (
      seated,
      inl (
          on_false (not (is_up state.mode)) _ _ (ap (λ (m : Mode). not (is_up m)) up) (
          on_false (nat_le MOST_ENTRIES state.entries) _ _ (is_above MOST_ENTRIES state.entries early) (
          on_none (barring_seat state seat) _ _ (nobody_bars state.flights seat free) (
          on_none (least_in_flight state) _ _ (nobody_least state.flights free) refl)))),
    )

  -- a checkpoint goes on to its tail, and to its end
  pub step-tail : (seat : ℕ) → map.get state.flights seat ≡ Some (InCheck plan.Sync) → is_shut state.mode ≡ false → state.pending ≡ None → Step limits calm state (Go seat) (tail_turn state seat)
  step-tail seat check up none = on_some (map.get state.flights seat) _ _ (InCheck plan.Sync) check (on_false (is_shut state.mode) _ _ up (on_none state.pending _ _ none (inr (inl refl))))

  done-completes : (seat : ℕ) → is_unmount state seat ≡ false → done_turn state seat ≡ completes state seat plan.Sync
  done-completes seat stays = ap (λ (b : Bool). turn_with (Stepped (step.Replied reply.Synced)) (if b then (entry.CpDone seat ∷ entry.Unmounted ∷ []) else (entry.CpDone seat ∷ [])) [] (without_call (with_base state state.live state.next_format (state.version + 1) (if b then Shut else Up)) seat)) (sym stays)

  pub step-done : (seat : ℕ) (tree : Rows) → map.get state.flights seat ≡ Some (InCheck plan.Sync) → is_shut state.mode ≡ false → state.pending ≡ Some tree → is_unmount state seat ≡ false → Step limits calm state (Go seat) (done_turn state seat)
  step-done seat tree check up pending stays =
      on_some (map.get state.flights seat) _ _ (InCheck plan.Sync) check (on_false (is_shut state.mode) _ _ up (on_some state.pending _ _ tree pending (inl (done-completes seat stays))))

  pub step-mounted : state.mode ≡ Up → Step limits calm state Mount (unchanged state AlreadyMounted)
  step-mounted up = on_true (not (is_shut state.mode)) _ _ (ap (λ (m : Mode). not (is_shut m)) up) refl

  pub step-no_memory : state.mode ≡ Shut → Step limits calm state Mount (unchanged state (answers.NotMounted refusals.NoMemory))
  step-no_memory shut = on_false (not (is_shut state.mode)) _ _ (ap (λ (m : Mode). not (is_shut m)) shut) (inr (inr (inr (inr (inr refl)))))

  pub step-bad : state.mode ≡ Shut → Step limits calm state Mount (unchanged state (answers.NotMounted refusals.BadImage))
  step-bad shut = on_false (not (is_shut state.mode)) _ _ (ap (λ (m : Mode). not (is_shut m)) shut) (inr (inr (inr (inr (inl refl)))))

  pub step-found : state.mode ≡ Shut → state.marks ≡ [] → state.acknowledged ≡ 0 → Step limits calm state Mount (found_turn state)
  step-found shut none zero =
      on_false (not (is_shut state.mode)) _ _ (ap (λ (m : Mode). not (is_shut m)) shut)
      (inl (0, omega (arith, zero), omega arith, ap (λ (marks : List Mark). found state (unmarked state (take 0 marks)) 0) (sym none)))

  pub step-crashed : Step limits calm state Crash (crashed state)
  step-crashed = refl
