-- The events of a core's call, as those of a line: a checkpoint makes its events up to its reply, and none of them is over
-- before.
use Rattle.std.proofs.Common.{◌≡◌, ◌⊎◌, inl, inr, ℕ, Bool, true, false, not, nat_le, List, [], ◌∷◌, ◌++◌, refl, sym, ap, ◌∙◌, subst}
use Rattle.std.specs.Prelude.{◌≢◌, Option, Some, None, MatchOption}
use Rattle.std.specs.Bool.{MatchBool}
use Rattle.std.specs.List.{AllByRecursion}
use Rattle.std.specs.FinMap as map
use Rattle.f2_laws.proofs.Maps.{get_put}
use Rattle.f2_model.specs.declared.bounds.Limits.{Limits}
use Rattle.f2_model.specs.Call.{refusal, effect, answer, space_refusal}
use Rattle.f2_model.specs.State.{State, Meaning, InCheck, base_up_to, pending_with}
use Rattle.f2_model.specs.Step as machine
use Rattle.f2_model.specs.Step.{Faults, Turn, is_up, is_shut, replied, step_failed, turn_with, unchanged, told_at_once, closed_by_fault, Writes, Flushes, StepBegin, StepCheck, StepGo, StepMount, TakesEffect, ReadFails, adds_row, found, completes, reply_of_plan}
use Rattle.f2_model.specs.Run.{Happening, Happened}
use Rattle.f2_model.specs.declared.modes.Mode.{Mode}
use Rattle.f2_model.specs.declared.modes.Mode.TheVariants as mode
use Rattle.f2_model.specs.declared.events.Event.{Event}
use Rattle.f2_model.specs.declared.events.Event.TheVariants as event
use Rattle.f2_model.specs.declared.events.Answer.{Answer}
use Rattle.f2_model.specs.declared.events.Answer.TheVariants.{Began, Stepped, Found, AlreadyMounted, NotMounted}
use Rattle.f2_model.specs.declared.events.MountRefusal.{MountRefusal}
use Rattle.f2_model.specs.declared.events.MountRefusal.TheVariants as refusals
use Rattle.f2_model.specs.declared.histories.Entry.TheVariants as entry
use Rattle.f2_model.specs.declared.replies.Plan.TheVariants as plans
use Rattle.f2_model.specs.declared.replies.Begun.TheVariants.{Going}
use Rattle.f2_model.specs.declared.replies.Plan.{Plan}
use Rattle.f2_model.specs.declared.replies.Reply.{Reply}
use Rattle.f2_model.specs.declared.replies.Reply.TheVariants as reply
use Rattle.f2_model.specs.declared.replies.Step.{Step}
use Rattle.f2_model.specs.declared.replies.Step.TheVariants as step
use Rattle.f2_model.specs.declared.requests.Request.{Request}
use Rattle.f2_model.specs.declared.requests.Request.TheVariants.{Create, Write, Sync}
use Rattle.f2_core.specs.Events as core
use Rattle.f2_play.specs.Calls.{IsOne, Passes, Goes, IsCall, Mounts, at_once, in_flight, is_over}

-- a test, an option, and two cases, that both ways lead on from
by_bool : {P Q G : Type 0} (b : Bool) → (b ≡ true → P → G) → (b ≡ false → Q → G) → MatchBool b P Q → G
by_bool true p q h = p refl h
by_bool false p q h = q refl h

by_option : {A G P : Type 0} {Q : A → Type 0} (o : Option A) → (P → G) → ((a : A) → Q a → G) → MatchOption o P Q → G
by_option None p q h = p h
by_option (Some a) p q h = q a h

by_either : {A B G : Type 0} → (A → G) → (B → G) → A ⊎ B → G
by_either f g (inl a) = f a
by_either f g (inr b) = g b

-- a row of a table that an option picks
to_some : {X : Type 0} (o : Option X) (P : Type 0) (Q : X → Type 0) (x : X) → o ≡ Some x → MatchOption o P Q → Q x
to_some o P Q x is h = subst (λ p. MatchOption p P Q) is h

-- a seat makes a checkpoint
record IsChecking (state : State) (seat : ℕ) (plan : Plan) : Type 0 where
  flight : map.get state.flights seat ≡ Some (InCheck plan)
  open_now : is_shut state.mode ≡ false

-- it wrote a block or its tail, and goes on
record ChecksOn (seat : ℕ) (plan : Plan) (turn : Turn) : Type 0 where
  one : Step
  answered : turn.answer ≡ Stepped one
  goes_on : is_over one ≡ false
  checking : IsChecking turn.after seat plan

-- it replied
abbrev Replies : Turn → Type 0
Replies turn = (told : Reply) × (turn.answer ≡ Stepped (step.Replied told))

module _ (faults : Faults) (state : State) (seat : ℕ) (plan : Plan) (turn : Turn) (is : IsChecking state seat plan) where
  goes : (so : Turn) → ChecksOn seat plan so → turn ≡ so → ChecksOn seat plan turn ⊎ Replies turn
  goes so on e = inl (subst (ChecksOn seat plan) (sym e) on)

  fails : (so : Turn) → so.answer ≡ step_failed → turn ≡ so → ChecksOn seat plan turn ⊎ Replies turn
  fails so told e = inr (reply.WriteFault, ap (λ (t : Turn). t.answer) e ∙ told)

  writes : (meant : Turn) → ChecksOn seat plan meant → Writes faults seat step_failed meant turn → ChecksOn seat plan turn ⊎ Replies turn
  writes meant on h = by_either (goes meant on) (λ failed. fails _ refl failed.1) h

  flushes : (meant : Turn) → ChecksOn seat plan meant → Flushes faults state seat step_failed meant turn → ChecksOn seat plan turn ⊎ Replies turn
  flushes meant on h = by_either (goes meant on) (λ failed. fails _ refl failed.1) h

  block : ChecksOn seat plan (unchanged state (Stepped step.Block))
  block = record { one = step.Block; answered = refl; goes_on = refl; checking = record { flight = is.flight; open_now = is.open_now } }

  tail : ChecksOn seat plan (turn_with (Stepped step.Tail) (entry.CpTail seat ∷ []) [] (record state { pending = Some state.live }))
  tail = record { one = step.Tail; answered = refl; goes_on = refl; checking = record { flight = is.flight; open_now = is.open_now } }

  ends : Flushes faults state seat step_failed (completes state seat plan) turn → ChecksOn seat plan turn ⊎ Replies turn
  ends h = by_either (λ e. inr (reply_of_plan plan, ap (λ (t : Turn). t.answer) e)) (λ failed. fails _ refl failed.1) h

  check_step : StepCheck faults state seat plan turn → ChecksOn seat plan turn ⊎ Replies turn
  check_step h =
      by_option state.pending
      (by_either (by_either (writes _ block) (flushes _ block)) (writes _ tail))
      (λ tree. ends) h

  go_step : StepGo faults state seat turn → ChecksOn seat plan turn ⊎ Replies turn
  go_step h =
      by_bool (is_shut state.mode)
      (λ shut _. let no : true ≡ false = sym shut ∙ is.open_now in absurd (cc))
      (λ _. check_step) (to_some (map.get state.flights seat) _ _ (InCheck plan) is.flight h)

-- the events of a checkpoint's seat before the one that replies: none is over
passes : (limits : Limits) (faults : Faults) (seat : ℕ) (plan : Plan) (before : List Happening) (last : Happening) (from to : State) → IsChecking from seat plan
    → Happened limits faults from (before ++ last ∷ []) to → AllByRecursion (λ one. one.event ≡ event.Go seat) (before ++ last ∷ [])
    → AllByRecursion (λ one. (early : Reply) → one.turn.answer ≢ Stepped (step.Replied early)) before → AllByRecursion (Passes is_over seat) before
passes limits faults seat plan [] last from to checking happened own untold = tt
passes limits faults seat plan (one ∷ before) last from to checking happened own untold =
    by_either
    (λ on. (
      record { early = on.one; happens = record { event_is = own.0; answered = on.answered }; goes_on = on.goes_on },
      passes limits (record { before = one.faults.after; after = faults.after }) seat plan before last one.turn.after to on.checking happened.3 own.1 untold.1,
    ))
    (λ told. absurd (untold.0 told.0 told.1))
    (go_step one.faults from seat plan one.turn checking
    (subst (λ (e : Event). machine.Step limits one.faults from e one.turn) own.0 happened.2))

goes_of : (limits : Limits) (faults : Faults) (seat : ℕ) (plan : Plan) (told : Reply) (events : List Happening) (from to : State) → IsChecking from seat plan
    → Happened limits faults from events to → core.GoesOn seat told events → Goes is_over seat (step.Replied told) events
goes_of limits faults seat plan told events from to checking happened on = record {
  before = on.before;
  last = on.last;
  whole = on.whole;
  passed = passes limits faults seat plan on.before on.last from to checking
      (subst (λ es. Happened limits faults from es to) on.whole happened)
      (subst (λ es. AllByRecursion (λ one. one.event ≡ event.Go seat) es) on.whole on.own) on.untold;
  happens = record { event_is = last_own on.before on.last (subst (λ es. AllByRecursion (λ one. one.event ≡ event.Go seat) es) on.whole on.own); answered = on.reply };
  stopped = refl;
}
  where
    last_own : (before : List Happening) (last : Happening) → AllByRecursion (λ one. one.event ≡ event.Go seat) (before ++ last ∷ []) → last.event ≡ event.Go seat
    last_own [] last own = own.0
    last_own (one ∷ before) last own = last_own before last own.1

-- an answer that tells a reply isn't one of a call that goes on
not_going : (told : Reply) (plan : Plan) (turn so : Turn) → so.answer ≡ replied told → turn ≡ so → turn.answer ≢ Began (Going plan)
not_going told plan turn so tells e going =
    let no : replied told ≡ Began (Going plan) = sym tells ∙ sym (ap (λ (t : Turn). t.answer) e) ∙ going in
    cc

open_of : (m : Mode) → not (is_up m) ≡ false → is_shut m ≡ false
open_of mode.Shut e = let no : true ≡ false = e in cc
open_of mode.Mounting e = refl
open_of mode.Up e = refl

-- some checkpoint is made
abbrev Checks : State → ℕ → Type 0
Checks state seat = (plan : Plan) × IsChecking state seat plan

module _ (limits : Limits) (faults : Faults) (state : State) (seat : ℕ) (turn : Turn) (plan : Plan) (going : turn.answer ≡ Began (Going plan)) where
  never : {G : Type 0} (told : Reply) (so : Turn) → so.answer ≡ replied told → turn ≡ so → G
  never told so tells e = absurd (not_going told plan turn so tells e going)

  takes : {G : Type 0} (request : Request) → TakesEffect limits state seat request turn → G
  takes request h =
      by_bool (adds_row request)
      (λ _ one. never (answer state.live request) _ refl one.2)
      (λ _ e. never (answer state.live request) _ refl e) h

  alters : {G : Type 0} (request : Request) → MatchOption (space_refusal limits (effect state.live request limits.nids)) (TakesEffect limits state seat request turn ⊎ ReadFails faults state seat request turn) (λ refused. turn ≡ told_at_once state seat request refused [] state) → G
  alters request h =
      by_option (space_refusal limits (effect state.live request limits.nids))
      (by_either (takes request) (λ failed. never reply.ReadFault _ refl failed.1))
      (λ refused e. never refused _ refl e) h

  syncs : not (is_up state.mode) ≡ false → machine.BeginsCheck state seat Sync plans.Sync turn → Checks turn.after seat
  syncs up h =
      by_option (machine.least_in_flight state)
      (λ e. subst (λ (t : Turn). Checks t.after seat) (sym e) (plans.Sync, record { flight = get_put state.flights seat (InCheck plans.Sync); open_now = open_of state.mode up }))
      (λ by e. never (reply.Busy by) _ refl e) h

  serves : (request : Request) → core.IsServed (event.Begin seat request) → not (is_up state.mode) ≡ false → machine.Serves limits faults state seat request turn → Checks turn.after seat
  serves (Create path) served up h = alters (Create path) h
  serves (Write path pieces) served up h = alters (Write path pieces) h
  serves Sync served up h = syncs up h
  serves request served up h = absurd served

  begins : (request : Request) → core.IsServed (event.Begin seat request) → StepBegin limits faults state seat request turn → Checks turn.after seat
  begins request served h =
      by_bool (not (is_up state.mode)) (λ _ e. never reply.Closed _ refl e)
      (λ up. by_bool (nat_le machine.MOST_ENTRIES state.entries) (λ _ e. never reply.Spent _ refl e)
      (λ _. by_option (machine.barring_seat state seat)
      (by_option (refusal limits state.live request)
      (by_option (machine.freezing state request) (serves request served up) (λ by e. never (reply.Busy by) _ refl e))
      (λ refused e. never refused _ refl e))
      (λ by e. never (reply.Busy by) _ refl e))) h

  begin_checks : (request : Request) → core.IsServed (event.Begin seat request) → machine.Step limits faults state (event.Begin seat request) turn → Checks turn.after seat
  begin_checks request served h = by_either (begins request served) (λ e. never reply.Memory _ refl e) h.1

module _ (faults : Faults) (state : State) (turn : Turn) (rows : ℕ) (finds : turn.answer ≡ Found rows) where
  other : {G : Type 0} (refused : MountRefusal) (so : Turn) → so.answer ≡ NotMounted refused → turn ≡ so → G
  other refused so tells e = let no : NotMounted refused ≡ Found rows = sym tells ∙ sym (ap (λ (t : Turn). t.answer) e) ∙ finds in absurd (cc)

  mounting : (meaning : Meaning) (choice : ℕ) → turn ≡ found state meaning choice → Checks turn.after machine.MOUNT_SEAT
  mounting meaning choice e =
      subst (λ (t : Turn). Checks t.after machine.MOUNT_SEAT) (sym e)
      (plans.Sync, record { flight = get_put map.empty machine.MOUNT_SEAT (InCheck plans.Sync); open_now = refl })

  mount_checks : StepMount faults state turn → Checks turn.after machine.MOUNT_SEAT
  mount_checks h =
      by_bool (not (is_shut state.mode))
      (λ _ e. let no : AlreadyMounted ≡ Found rows = sym (ap (λ (t : Turn). t.answer) e) ∙ finds in absurd (cc))
      (λ _.
      by_either (λ one. mounting (base_up_to state one.0) 0 one.3)
      (by_either (by_option state.pending (λ no. absurd no) (λ tree e. mounting (pending_with state tree) 1 e))
      (by_either (λ failed. other refusals.ReadFailed _ refl failed.1)
      (by_either (λ failed. other refusals.WriteFailed _ refl failed.1)
      (by_either (λ e. other refusals.BadImage _ refl e) (λ e. other refusals.NoMemory _ refl e)))))) h

-- one event that is over
pub one_of : (one : Event) (told : Answer) (events : List Happening) → core.IsShort one told events → IsOne one told events
one_of one told events short = record { one = short.one; whole = short.whole; happens = record { event_is = short.begun; answered = short.answered } }

-- a call that a core takes
pub call_of : (limits : Limits) (faults : Faults) (seat : ℕ) (request : Request) (told : Reply) (events : List Happening) (from to : State) → core.IsServed (event.Begin seat request)
    → told ≢ reply.Memory → Happened limits faults from events to → core.IsCall seat request told events → IsCall seat request (step.Replied told) events
call_of limits faults seat request told events from to served some happened (inl short) = at_once told some (one_of (event.Begin seat request) (replied told) events short)
call_of limits faults seat request told events from to served some happened (inr long) =
    let all : Happened limits faults from (long.first ∷ long.rest) to = subst (λ es. Happened limits faults from es to) long.whole happened in
    let begun : machine.Step limits long.first.faults from (event.Begin seat request) long.first.turn =
    subst (λ (e : Event). machine.Step limits long.first.faults from e long.first.turn) long.begun all.2 in
    let checks = begin_checks limits long.first.faults from seat long.first.turn long.plan long.going request served begun in
    in_flight told long.plan record {
      one = long.first;
      rest = long.rest;
      whole = long.whole;
      happens = record { event_is = long.begun; answered = long.going };
      goes = goes_of limits _ seat checks.0 told long.rest long.first.turn.after to checks.1 all.3 long.goes_on;
    }

-- a mount with its checkpoint
pub mount_of : (limits : Limits) (faults : Faults) (rows : ℕ) (events : List Happening) (from to : State) → Happened limits faults from events to → core.IsMount rows events
    → Mounts rows reply.Synced events
mount_of limits faults rows events from to happened mount =
    let all : Happened limits faults from (mount.first ∷ mount.rest) to = subst (λ es. Happened limits faults from es to) mount.whole happened in
    let begun : StepMount mount.first.faults from mount.first.turn =
    subst (λ (e : Event). machine.Step limits mount.first.faults from e mount.first.turn) mount.begun all.2 in
    let checks = mount_checks mount.first.faults from mount.first.turn rows mount.found begun in
    record {
      one = mount.first;
      rest = mount.rest;
      whole = mount.whole;
      happens = record { event_is = mount.begun; answered = mount.found };
      goes = goes_of limits _ machine.MOUNT_SEAT checks.0 reply.Synced mount.rest mount.first.turn.after to checks.1 all.3 mount.goes_on;
    }
