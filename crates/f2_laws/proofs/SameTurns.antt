-- Two faultless turns of one event that chose alike are the same.
use Rattle.std.proofs.Common.{◌≡◌, ◌⊎◌, inl, inr, ℕ, Bool, true, false, not, nat_le, List, [], ◌∷◌, length, take, refl, sym, ap, ◌∙◌}
use Rattle.std.specs.Prelude.{Option, Some, None, Result, Ok, Err, MatchOption, is_some}
use Rattle.std.specs.Bool.{MatchBool}
use Rattle.std.proofs.lemmas.List.{length-take-le}
use Rattle.std.specs.FinMap as map
use Rattle.f2_model.specs.Tree.{Rows, walk}
use Rattle.f2_model.specs.Call.{refusal, answer}
use Rattle.f2_model.specs.declared.bounds.Limits.{Limits}
use Rattle.f2_model.specs.State.{State, Part, InPages, InNodes, Marked, Progress, Flight, InFsync, InCheck, IsFreeIno, base_up_to, pending_with, number_of}
use Rattle.f2_model.specs.Fallback.{fallback}
use Rattle.f2_model.specs.Step
use Rattle.f2_model.specs.Step.{Faults, Turn, Writes, Flushes, StepBegin, Serves, BeginsFsync, BeginsCheck, TakesEffect, ReadFails, StepPart, StepFsync, StepCheck, StepFlight, StepMount, FindsMarks, FindsPending, adds_row}
use Rattle.f2_model.specs.declared.events.Event.{Event}
use Rattle.f2_model.specs.declared.events.Event.TheVariants.{Begin, Go, Tick, Mount, Unmount, Upgrade, Crash}
use Rattle.f2_model.specs.declared.events.Answer.{Answer}
use Rattle.f2_model.specs.declared.events.Answer.TheVariants.{Stepped, NotMounted}
use Rattle.f2_model.specs.declared.events.MountRefusal.TheVariants.{ReadFailed, WriteFailed, BadImage, NoMemory}
use Rattle.f2_model.specs.declared.rows.Row.{Row}
use Rattle.f2_model.specs.declared.modes.Format.{Format}
use Rattle.f2_model.specs.declared.modes.Format.TheVariants.{Two}
use Rattle.f2_model.specs.declared.requests.Request.{Request}
use Rattle.f2_model.specs.declared.requests.Request.TheVariants.{Create, Mkdir, Write, Truncate, Unlink, Rmdir, Rename, Read, List as ListNames, Fsync, Sync}
use Rattle.f2_model.specs.declared.replies.Reply.{Reply}
use Rattle.f2_model.specs.declared.replies.Reply.TheVariants as reply
use Rattle.f2_model.specs.declared.replies.Step.TheVariants as step
use Rattle.f2_model.specs.declared.histories.Entry.TheVariants as entry
use Rattle.f2_model.specs.declared.replies.Plan.{Plan}
use Rattle.f2_model.specs.declared.replies.Plan.TheVariants as plan
use Rattle.f2_model.specs.declared.histories.CallKind.TheVariants as kind
use Rattle.f2_laws.specs.Choice.{tells_failure, choice_told, IsFaultless, ChoseAlike, ChoicesDecide}

-- two turns of which nothing failed, and which chose alike
record Alike (one other : Turn) : Type 0 where
  one_faultless : IsFaultless one
  other_faultless : IsFaultless other
  chose : ChoseAlike one other

-- what holds of both turns makes them the same
abbrev Decides : (Turn → Type 0) → (Turn → Type 0) → Type 0
Decides P Q = (one other : Turn) → Alike one other → P one → Q other → one ≡ other

-- a failed turn is none of two alike
pub fails : {one : Turn} (so : Turn) → tells_failure so.answer ≡ true → one ≡ so → IsFaultless one → ⊥
fails so h e faultless =
    let told = ap (λ (turn : Turn). tells_failure turn.answer) e in cc

outright : (so : Turn) → Decides (λ turn. turn ≡ so) (λ turn. turn ≡ so)
outright so one other alike p q = p ∙ sym q

by_bool : {P Q R S : Turn → Type 0} (b : Bool) → Decides P R → Decides Q S → Decides (λ turn. MatchBool b (P turn) (Q turn)) (λ turn. MatchBool b (R turn) (S turn))
by_bool true p q = p
by_bool false p q = q

by_option : {A : Type 0} {P R : Turn → Type 0} {Q S : A → Turn → Type 0} (o : Option A) → Decides P R → ((a : A) → Decides (Q a) (S a)) → Decides (λ turn. MatchOption o (P turn) (λ a. Q a turn)) (λ turn. MatchOption o (R turn) (λ a. S a turn))
by_option None p q = p
by_option (Some a) p q = q a

writes : (faults later : Faults) (seat : ℕ) (failed : Answer) (so : Turn) → tells_failure failed ≡ true → Decides (Writes faults seat failed so) (Writes later seat failed so)
writes faults later seat failed so h one other alike (inl p) (inl q) = p ∙ sym q
writes faults later seat failed so h one other alike (inr p) q = absurd (fails (Step.closed_by_fault faults seat kind.Write failed so) h p.1 alike.one_faultless)
writes faults later seat failed so h one other alike p (inr q) = absurd (fails (Step.closed_by_fault later seat kind.Write failed so) h q.1 alike.other_faultless)

flushes : (faults later : Faults) (state : State) (seat : ℕ) (failed : Answer) (so : Turn) → tells_failure failed ≡ true → Decides (Flushes faults state seat failed so) (Flushes later state seat failed so)
flushes faults later state seat failed so h one other alike (inl p) (inl q) = p ∙ sym q
flushes faults later state seat failed so h one other alike (inr p) q = absurd (fails (Step.closed_by_fault faults seat kind.Flush failed (Step.unchanged state failed)) h p.1 alike.one_faultless)
flushes faults later state seat failed so h one other alike p (inr q) = absurd (fails (Step.closed_by_fault later seat kind.Flush failed (Step.unchanged state failed)) h q.1 alike.other_faultless)

-- what may hold instead tells a failure
or_fails : {P Q R S : Turn → Type 0} → Decides P R → ((turn : Turn) → IsFaultless turn → Q turn → ⊥) → ((turn : Turn) → IsFaultless turn → S turn → ⊥) → Decides (λ turn. P turn ⊎ Q turn) (λ turn. R turn ⊎ S turn)
or_fails p f g one other alike (inl a) (inl b) = p one other alike a b
or_fails p f g one other alike (inr a) b = absurd (f one alike.one_faultless a)
or_fails p f g one other alike a (inr b) = absurd (g other alike.other_faultless b)

module _ (limits : Limits) (faults later : Faults) (state : State) where
  gives_ino : (seat : ℕ) (request : Request) →
      Decides (λ turn. (ino : ℕ) × IsFreeIno limits state ino × (turn ≡ Step.told_at_once state seat request (answer state.live request) (ino ∷ []) (Step.called state request ino)))
      (λ turn. (ino : ℕ) × IsFreeIno limits state ino × (turn ≡ Step.told_at_once state seat request (answer state.live request) (ino ∷ []) (Step.called state request ino)))
  gives_ino seat request one other alike p q =
      let chosen : (p.0 ∷ []) ≡ (q.0 ∷ []) = sym (ap (λ (turn : Turn). turn.choices) p.2) ∙ alike.chose.choices ∙ ap (λ (turn : Turn). turn.choices) q.2 in
      let same : p.0 ≡ q.0 = cc in
      p.2 ∙ ap (λ ino. Step.told_at_once state seat request (answer state.live request) (ino ∷ []) (Step.called state request ino)) same ∙ sym q.2

  takes_effect : (seat : ℕ) (request : Request) → Decides (TakesEffect limits state seat request) (TakesEffect limits state seat request)
  takes_effect seat request = by_bool (adds_row request) (gives_ino seat request) (outright _)

  serves_other : (seat : ℕ) (request : Request) (want : Option Reply) →
      Decides (λ turn. MatchOption want (TakesEffect limits state seat request turn ⊎ ReadFails faults state seat request turn) (λ refused. turn ≡ Step.told_at_once state seat request refused [] state))
      (λ turn. MatchOption want (TakesEffect limits state seat request turn ⊎ ReadFails later state seat request turn) (λ refused. turn ≡ Step.told_at_once state seat request refused [] state))
  serves_other seat request want =
      by_option want
      (or_fails (takes_effect seat request)
      (λ turn faultless p. fails _ refl p.1 faultless)
      (λ turn faultless p. fails _ refl p.1 faultless))
      (λ refused. outright _)

  begins_check : (seat : ℕ) (request : Request) (plan : Plan) → Decides (BeginsCheck state seat request plan) (BeginsCheck state seat request plan)
  begins_check seat request plan = by_option (Step.least_in_flight state) (outright _) (λ by. outright _)

  begins_fsync : (seat : ℕ) (request : Request) (end : Result Row Reply) → Decides (BeginsFsync limits state seat request end) (BeginsFsync limits state seat request end)
  begins_fsync seat request (Err refused) = outright _
  begins_fsync seat request (Ok row) = by_option (fallback limits state row) (outright _) (λ reason. begins_check seat request (plan.Cp reason))

  serves : (seat : ℕ) (request : Request) → Decides (Serves limits faults state seat request) (Serves limits later state seat request)
  serves seat (Fsync path) = begins_fsync seat (Fsync path) (walk state.live path)
  serves seat Sync = begins_check seat Sync plan.Sync
  serves seat (Create path) = serves_other seat (Create path) _
  serves seat (Mkdir path) = serves_other seat (Mkdir path) _
  serves seat (Write path pieces) = serves_other seat (Write path pieces) _
  serves seat (Truncate path size) = serves_other seat (Truncate path size) _
  serves seat (Unlink path) = serves_other seat (Unlink path) _
  serves seat (Rmdir path) = serves_other seat (Rmdir path) _
  serves seat (Rename from to) = serves_other seat (Rename from to) _
  serves seat (Read path off len) = serves_other seat (Read path off len) _
  serves seat (ListNames path) = serves_other seat (ListNames path) _

  begin : (seat : ℕ) (request : Request) → Decides (StepBegin limits faults state seat request) (StepBegin limits later state seat request)
  begin seat request =
      by_bool (not (Step.is_up state.mode)) (outright _)
      (by_bool (nat_le Step.MOST_ENTRIES state.entries) (outright _)
      (by_option (Step.barring_seat state seat)
      (by_option (refusal limits state.live request)
      (by_option (Step.freezing state request)
      (serves seat request)
      (λ by. outright _))
      (λ refused. outright _))
      (λ by. outright _)))

  no_row : Decides (λ turn. ⊥) (λ turn. ⊥)
  no_row one other alike p q = absurd p

  part : (seat ino : ℕ) (progress : Progress) (at : Part) → Decides (StepPart faults state seat ino progress at) (StepPart later state seat ino progress at)
  part seat ino progress InPages =
      by_option (Step.least_of state.dirty_pages ino)
      (flushes faults later state seat Step.step_failed _ refl)
      (λ page. writes faults later seat Step.step_failed _ refl)
  part seat ino progress InNodes =
      by_option (Step.least_of state.dirty_nodes ino)
      (by_option (map.get state.live ino) no_row (λ row. outright _))
      (λ offset. outright _)
  part seat ino progress Marked =
      by_option (Step.gap_below state progress.position)
      (flushes faults later state seat Step.step_failed _ refl)
      (λ position. outright _)

  fsync : (seat ino : ℕ) (progress : Progress) → Decides (StepFsync faults state seat ino progress) (StepFsync later state seat ino progress)
  fsync seat ino progress =
      by_option progress.slot (part seat ino progress progress.part)
      (λ slot. writes faults later seat Step.step_failed _ refl)

  -- a checkpoint that wrote a block, and one that wrote its tail
  abbrev block : Turn
  block = Step.unchanged state (Stepped step.Block)

  abbrev tail : ℕ → Turn
  tail seat = Step.turn_with (Stepped step.Tail) (entry.CpTail seat ∷ []) [] (record state { pending = Some state.live })

  wrote_block : (counts : Faults) (seat : ℕ) (turn : Turn) → IsFaultless turn → Step.WritesBlock counts state seat turn → turn ≡ block
  wrote_block counts seat turn faultless (inl (inl p)) = p
  wrote_block counts seat turn faultless (inl (inr p)) = absurd (fails (Step.closed_by_fault counts seat kind.Write Step.step_failed block) refl p.1 faultless)
  wrote_block counts seat turn faultless (inr (inl p)) = p
  wrote_block counts seat turn faultless (inr (inr p)) = absurd (fails (Step.closed_by_fault counts seat kind.Flush Step.step_failed (Step.unchanged state Step.step_failed)) refl p.1 faultless)

  wrote_tail : (counts : Faults) (seat : ℕ) (turn : Turn) → IsFaultless turn → Writes counts seat Step.step_failed (tail seat) turn → turn ≡ tail seat
  wrote_tail counts seat turn faultless (inl p) = p
  wrote_tail counts seat turn faultless (inr p) = absurd (fails (Step.closed_by_fault counts seat kind.Write Step.step_failed (tail seat)) refl p.1 faultless)

  -- a block and a tail aren't told alike
  apart : (seat : ℕ) (one other : Turn) → choice_told one.answer ≡ choice_told other.answer → one ≡ block → other ≡ tail seat → ⊥
  apart seat one other told p q =
      let a = ap (λ (turn : Turn). choice_told turn.answer) p in
      let b = ap (λ (turn : Turn). choice_told turn.answer) q in cc

  before_tail : (seat : ℕ) →
      Decides (λ turn. Step.WritesBlock faults state seat turn ⊎ Writes faults seat Step.step_failed (tail seat) turn)
      (λ turn. Step.WritesBlock later state seat turn ⊎ Writes later seat Step.step_failed (tail seat) turn)
  before_tail seat one other alike (inl p) (inl q) = wrote_block faults seat one alike.one_faultless p ∙ sym (wrote_block later seat other alike.other_faultless q)
  before_tail seat one other alike (inr p) (inr q) = wrote_tail faults seat one alike.one_faultless p ∙ sym (wrote_tail later seat other alike.other_faultless q)
  before_tail seat one other alike (inl p) (inr q) = absurd (apart seat one other alike.chose.told (wrote_block faults seat one alike.one_faultless p) (wrote_tail later seat other alike.other_faultless q))
  before_tail seat one other alike (inr p) (inl q) = absurd (apart seat other one (sym alike.chose.told) (wrote_block later seat other alike.other_faultless q) (wrote_tail faults seat one alike.one_faultless p))

  check : (seat : ℕ) (plan : Plan) → Decides (StepCheck faults state seat plan) (StepCheck later state seat plan)
  check seat plan = by_option state.pending (before_tail seat) (λ tree. flushes faults later state seat Step.step_failed _ refl)

  flight : (seat : ℕ) (one : Flight) → Decides (StepFlight faults state seat one) (StepFlight later state seat one)
  flight seat (InFsync ino progress) = fsync seat ino progress
  flight seat (InCheck plan) = check seat plan

  go : (seat : ℕ) → Decides (Step.StepGo faults state seat) (Step.StepGo later state seat)
  go seat = by_option (map.get state.flights seat) (outright _) (λ one. by_bool (Step.is_shut state.mode) (outright _) (flight seat one))

  ticks_page : (page : ℕ × ℕ) → Decides (Step.TicksPage limits faults state page) (Step.TicksPage limits later state page)
  ticks_page page = by_bool (Step.has_data_room limits state) (writes faults later Step.NO_SEAT _ _ refl) (outright _)

  ticks_node : (node : ℕ × ℕ) → Decides (Step.TicksNode limits faults state node) (Step.TicksNode limits later state node)
  ticks_node node = by_bool (Step.has_node_room limits state) (writes faults later Step.NO_SEAT _ _ refl) (outright _)

  ticks : Decides (Step.StepTick limits faults state) (Step.StepTick limits later state)
  ticks =
      by_bool (not (Step.is_up state.mode)) (outright _)
      (by_bool (nat_le Step.MOST_ENTRIES state.entries) (outright _)
      (by_bool (is_some (Step.checking_seat state)) (outright _)
      (by_bool (Step.is_clean state) (outright _)
      (by_option (Step.least_thawed state state.dirty_pages)
      (by_option (Step.least_thawed state state.dirty_nodes) (outright _) ticks_node)
      ticks_page))))

  -- what a mount without a failure finds: marks, or the pending tree
  abbrev Finds : Turn → Type 0
  Finds turn = FindsMarks state turn ⊎ FindsPending state turn

  finds : (counts : Faults) (turn : Turn) → IsFaultless turn →
      FindsMarks state turn ⊎ FindsPending state turn ⊎ Step.MountFails counts state ReadFailed kind.Read turn ⊎ Step.MountFails counts state WriteFailed kind.Flush turn
      ⊎ (turn ≡ Step.unchanged state (NotMounted BadImage)) ⊎ (turn ≡ Step.unchanged state (NotMounted NoMemory)) →
      Finds turn
  finds counts turn faultless (inl h) = inl h
  finds counts turn faultless (inr (inl h)) = inr h
  finds counts turn faultless (inr (inr (inl h))) = absurd (fails _ refl h.1 faultless)
  finds counts turn faultless (inr (inr (inr (inl h)))) = absurd (fails _ refl h.1 faultless)
  finds counts turn faultless (inr (inr (inr (inr (inl h))))) = absurd (fails _ refl h faultless)
  finds counts turn faultless (inr (inr (inr (inr (inr h))))) = absurd (fails _ refl h faultless)

  abbrev found_marks : ℕ → Turn
  found_marks place = Step.found state (base_up_to state place) 0

  same_marks : Decides (FindsMarks state) (FindsMarks state)
  same_marks one other alike p q =
      let told : Some (length (take p.0 state.marks)) ≡ Some (length (take q.0 state.marks)) =
      sym (ap (λ (turn : Turn). choice_told turn.answer) p.3) ∙ alike.chose.told ∙ ap (λ (turn : Turn). choice_told turn.answer) q.3 in
      let lengths : length (take p.0 state.marks) ≡ length (take q.0 state.marks) = cc in
      let same : p.0 ≡ q.0 = sym (length-take-le p.0 state.marks p.2) ∙ lengths ∙ length-take-le q.0 state.marks q.2 in
      p.3 ∙ ap found_marks same ∙ sym q.3

  same_pending : Decides (FindsPending state) (FindsPending state)
  same_pending = by_option state.pending no_row (λ tree. outright _)

  -- the choice tells marks from the pending tree
  marks_chosen : (turn : Turn) → FindsMarks state turn → turn.choices ≡ (0 ∷ number_of state.format ∷ [])
  marks_chosen turn h = ap (λ (t : Turn). t.choices) h.3

  pending_chosen : (pending : Option Rows) (turn : Turn) → MatchOption pending ⊥ (λ tree. turn ≡ Step.found state (pending_with state tree) 1) → turn.choices ≡ (1 ∷ number_of state.next_format ∷ [])
  pending_chosen None turn h = absurd h
  pending_chosen (Some tree) turn h = ap (λ (t : Turn). t.choices) h

  other_choice : (one other : Turn) → one.choices ≡ other.choices → one.choices ≡ (0 ∷ number_of state.format ∷ []) → other.choices ≡ (1 ∷ number_of state.next_format ∷ []) → ⊥
  other_choice one other e p q =
      let no : ◌≡◌ {A = List ℕ} (0 ∷ number_of state.format ∷ []) (1 ∷ number_of state.next_format ∷ []) = sym p ∙ e ∙ q in cc

  same_finds : (one other : Turn) → Alike one other → Finds one → Finds other → one ≡ other
  same_finds one other alike (inl p) (inl q) = same_marks one other alike p q
  same_finds one other alike (inr p) (inr q) = same_pending one other alike p q
  same_finds one other alike (inl p) (inr q) = absurd (other_choice one other alike.chose.choices (marks_chosen one p) (pending_chosen state.pending other q))
  same_finds one other alike (inr p) (inl q) = absurd (other_choice other one (sym alike.chose.choices) (marks_chosen other q) (pending_chosen state.pending one p))

  mount : Decides (StepMount faults state) (StepMount later state)
  mount =
      by_bool (not (Step.is_shut state.mode)) (outright _)
      (λ one other alike p q. same_finds one other alike (finds faults one alike.one_faultless p) (finds later other alike.other_faultless q))

  close : (format : Format) → Decides (Step.StepClose state format) (Step.StepClose state format)
  close format =
      by_bool (not (Step.is_up state.mode)) (outright _)
      (by_option (Step.least_in_flight state) (outright _) (λ by. outright _))

  -- want of memory tells a failure
  no_memory : (turn : Turn) → IsFaultless turn → turn ≡ Step.unchanged state (Step.replied reply.Memory) → ⊥
  no_memory turn faultless e = fails (Step.unchanged state (Step.replied reply.Memory)) refl e faultless

  same_turn : (event : Event) → Decides (Step.Step limits faults state event) (Step.Step limits later state event)
  same_turn (Begin seat request) = (λ one other alike p q. or_fails (begin seat request) no_memory no_memory one other alike p.1 q.1)
  same_turn (Go seat) = go seat
  same_turn Tick = ticks
  same_turn Mount = mount
  same_turn Unmount = or_fails (close state.format) no_memory no_memory
  same_turn Upgrade = or_fails (close Two) no_memory no_memory
  same_turn Crash = outright _

pub choices_decide_turns : ChoicesDecide
choices_decide_turns limits faults later state event one other p q faultless other_faultless chose =
    same_turn limits faults later state event one other (record { one_faultless = faultless; other_faultless = other_faultless; chose = chose }) p q
