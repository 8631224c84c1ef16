-- Every event but the end of a checkpoint and a mount keeps the base and the marks.
use Rattle.std.proofs.Common.{◌≡◌, ◌⊎◌, inl, inr, ℕ, not, nat_le, rules, Bool, true, false, IsTrue, [], ◌∷◌, refl, sym, subst, ◌∙◌, arith}
use Rattle.std.specs.Prelude.{Option, Some, None, Result, Ok, Err, MatchOption, is_some, if◌then◌else◌}
use Rattle.std.specs.Bool.{MatchBool}
use Rattle.std.specs.List.{list_any}
use Rattle.std.proofs.lemmas.List.{append-nil}
use Rattle.std.specs.FinMap as map
use Rattle.f2_model.specs.Tree.{Rows, walk}
use Rattle.f2_model.specs.Call.{effect, refusal}
use Rattle.f2_model.specs.declared.bounds.Limits.{Limits}
use Rattle.f2_model.specs.State.{State, Part, InPages, InNodes, Marked, Progress, Flight, InFsync, InCheck, base_up_to, pending_with, marked_dirty, from_both_rows, from_row}
use Rattle.f2_model.specs.Step
use Rattle.f2_model.specs.Fallback.{fallback}
use Rattle.f2_model.specs.Step.{Faults, Turn, Writes, Flushes, StepBegin, Serves, BeginsFsync, BeginsCheck, TakesEffect, ReadFails, StepPart, StepFsync, StepCheck, StepFlight, StepMount, FindsMarks, FindsPending, called, closed_by_fault, is_unmount, adds_row}
use Rattle.f2_model.specs.declared.events.Event.TheVariants.{Begin, Go, Tick, Mount, Unmount, Upgrade, Crash}
use Rattle.f2_model.specs.declared.events.Answer.{Answer}
use Rattle.f2_model.specs.declared.events.Answer.TheVariants.{NotMounted}
use Rattle.f2_model.specs.declared.events.MountRefusal.TheVariants.{ReadFailed, WriteFailed, BadImage, NoMemory}
use Rattle.f2_model.specs.declared.rows.Row.{Row}
use Rattle.f2_model.specs.declared.modes.Format.{Format}
use Rattle.f2_model.specs.declared.modes.Format.TheVariants.{Two}
use Rattle.f2_model.specs.declared.requests.Request.{Request}
use Rattle.f2_model.specs.declared.requests.Request.TheVariants.{Create, Mkdir, Write, Truncate, Unlink, Rmdir, Rename, Read, List as ListNames, Fsync, Sync}
use Rattle.f2_model.specs.declared.replies.Reply.{Reply}
use Rattle.f2_model.specs.declared.replies.Plan.{Plan}
use Rattle.f2_model.specs.declared.replies.Plan.TheVariants as plan
use Rattle.f2_model.specs.declared.histories.Entry.TheVariants as entry
use Rattle.f2_model.specs.declared.histories.CallKind.TheVariants as kind
use Rattle.f2_laws.specs.Survival.{KeepsDurable, IsCheckpointed, IsFound, is_checkpoint_done, is_mounted, EventsKeepDurable, CrashesLeaveTheSame}

pub crashes_leave : CrashesLeaveTheSame
crashes_leave state meaning = (λ h. h, λ h. h)

-- what the law says of one turn
abbrev Survives : State → Turn → Type 0
Survives state turn =
    KeepsDurable state turn.after
    ⊎ (IsTrue (list_any is_checkpoint_done turn.entries) × IsCheckpointed state turn.after)
    ⊎ (IsTrue (list_any is_mounted turn.entries) × IsFound state turn.after)

-- a state whose base, marks and acknowledged place are the same
same : (state after : State) → after.base ≡ state.base → after.format ≡ state.format → after.version ≡ state.version → after.marks ≡ state.marks → after.acknowledged ≡ state.acknowledged → KeepsDurable state after
same state after base format version marks place = record { base = base; format = format; version = version; marks = ([], marks ∙ sym (append-nil state.marks)); acknowledged = omega arith }

-- a test, and an option, that both ways lead on from
by_bool : {P Q G : Type 0} (b : Bool) → (P → G) → (Q → G) → MatchBool b P Q → G
by_bool true p q h = p h
by_bool false p q h = q h

by_option : {A G P : Type 0} {Q : A → Type 0} (o : Option A) → (P → G) → ((a : A) → Q a → G) → MatchOption o P Q → G
by_option None p q h = p h
by_option (Some a) p q h = q a h

by_either : {A B G : Type 0} → (A → G) → (B → G) → A ⊎ B → G
by_either f g (inl a) = f a
by_either f g (inr b) = g b

module _ (state : State) (turn : Turn) where
  -- a turn that is told outright
  is : (so : Turn) → Survives state so → turn ≡ so → Survives state turn
  is so h e = subst (Survives state) (sym e) h

  -- a turn whose state keeps all three
  kept : (so : Turn) → KeepsDurable state so.after → turn ≡ so → Survives state turn
  kept so h e = is so (inl h) e

  still : (so : Turn) → so.after.base ≡ state.base → so.after.format ≡ state.format → so.after.version ≡ state.version → so.after.marks ≡ state.marks → so.after.acknowledged ≡ state.acknowledged → turn ≡ so → Survives state turn
  still so base format version marks place e = kept so (same state so.after base format version marks place) e

  writes : (faults : Faults) (seat : ℕ) (failed : Answer) (so : Turn) → KeepsDurable state so.after → Writes faults seat failed so turn → Survives state turn
  writes faults seat failed so h (inl e) = kept so h e
  writes faults seat failed so h (inr e) = kept _ (record { base = h.base; format = h.format; version = h.version; marks = h.marks; acknowledged = h.acknowledged }) e.1

  flushes : (faults : Faults) (seat : ℕ) (failed : Answer) (so : Turn) → Survives state so → Flushes faults state seat failed so turn → Survives state turn
  flushes faults seat failed so h (inl e) = is so h e
  flushes faults seat failed so h (inr e) = still _ refl refl refl refl refl e.1

-- what calls of one event change beside the tree keeps the base and the marks
from_both_rows_keeps : (state : State) (a b : Result Row Reply) (next : Row → Row → State) → ((old new : Row) → KeepsDurable state (next old new)) → KeepsDurable state (from_both_rows state a b next)
from_both_rows_keeps state (Ok old) (Ok new) next h = h old new
from_both_rows_keeps state (Ok old) (Err refusal) next h = same state state refl refl refl refl refl
from_both_rows_keeps state (Err refusal) b next h = same state state refl refl refl refl refl

from_row_keeps : (state : State) (a : Result Row Reply) (next : Row → State) → ((row : Row) → KeepsDurable state (next row)) → KeepsDurable state (from_row state a next)
from_row_keeps state (Ok row) next h = h row
from_row_keeps state (Err refusal) next h = same state state refl refl refl refl refl

marked_dirty_keeps : (state : State) (request : Request) (after : Rows) → KeepsDurable state (marked_dirty state request after)
marked_dirty_keeps state (Write path pieces) after = from_both_rows_keeps state (walk state.live path) (walk after path) _ (λ old new. same state _ refl refl refl refl refl)
marked_dirty_keeps state (Truncate path size) after = from_both_rows_keeps state (walk state.live path) (walk after path) _ (λ old new. same state _ refl refl refl refl refl)
marked_dirty_keeps state (Unlink path) after = from_row_keeps state (walk state.live path) _ (λ row. same state _ refl refl refl refl refl)
marked_dirty_keeps state (Rename from to) after = from_row_keeps state (walk state.live from) _ (λ row. same state _ refl refl refl refl refl)
marked_dirty_keeps state (Create path) after = same state state refl refl refl refl refl
marked_dirty_keeps state (Mkdir path) after = same state state refl refl refl refl refl
marked_dirty_keeps state (Rmdir path) after = same state state refl refl refl refl refl
marked_dirty_keeps state (Read path off len) after = same state state refl refl refl refl refl
marked_dirty_keeps state (ListNames path) after = same state state refl refl refl refl refl
marked_dirty_keeps state (Fsync path) after = same state state refl refl refl refl refl
marked_dirty_keeps state Sync after = same state state refl refl refl refl refl

called_keeps : (state : State) (request : Request) (ino : ℕ) → KeepsDurable state (called state request ino)
called_keeps state request ino =
    let h = marked_dirty_keeps state request (effect state.live request ino) in
    record { base = h.base; format = h.format; version = h.version; marks = h.marks; acknowledged = h.acknowledged }

module _ (limits : Limits) (faults : Faults) (state : State) (turn : Turn) where
  takes_effect : (seat : ℕ) (request : Request) → TakesEffect limits state seat request turn → Survives state turn
  takes_effect seat request h =
      let keeps = λ (ino : ℕ). called_keeps state request ino in
      by_bool (adds_row request)
      (λ one. kept state turn _ (record { base = (keeps one.0).base; format = (keeps one.0).format; version = (keeps one.0).version; marks = (keeps one.0).marks; acknowledged = (keeps one.0).acknowledged }) one.2)
      (λ e. kept state turn _ (record { base = (keeps 0).base; format = (keeps 0).format; version = (keeps 0).version; marks = (keeps 0).marks; acknowledged = (keeps 0).acknowledged }) e)
      h

  serves_other : (seat : ℕ) (request : Request) (want : Option Reply) → MatchOption want (TakesEffect limits state seat request turn ⊎ ReadFails faults state seat request turn) (λ refused. turn ≡ Step.told_at_once state seat request refused [] state) → Survives state turn
  serves_other seat request None (inl h) = takes_effect seat request h
  serves_other seat request None (inr h) = still state turn _ refl refl refl refl refl h.1
  serves_other seat request (Some refused) e = still state turn _ refl refl refl refl refl e

  begins_check : (seat : ℕ) (request : Request) (plan : Plan) → BeginsCheck state seat request plan turn → Survives state turn
  begins_check seat request plan h = by_option (Step.least_in_flight state) (still state turn _ refl refl refl refl refl) (λ by. still state turn _ refl refl refl refl refl) h

  begins_fsync : (seat : ℕ) (request : Request) (end : Result Row Reply) → BeginsFsync limits state seat request end turn → Survives state turn
  begins_fsync seat request (Err refused) e = still state turn _ refl refl refl refl refl e
  begins_fsync seat request (Ok row) h = by_option (fallback limits state row) (still state turn _ refl refl refl refl refl) (λ reason. begins_check seat request (plan.Cp reason)) h

  serves : (seat : ℕ) (request : Request) → Serves limits faults state seat request turn → Survives state turn
  serves seat (Fsync path) h = begins_fsync seat (Fsync path) (walk state.live path) h
  serves seat Sync h = begins_check seat Sync plan.Sync h
  serves seat (Create path) h = serves_other seat (Create path) _ h
  serves seat (Mkdir path) h = serves_other seat (Mkdir path) _ h
  serves seat (Write path pieces) h = serves_other seat (Write path pieces) _ h
  serves seat (Truncate path size) h = serves_other seat (Truncate path size) _ h
  serves seat (Unlink path) h = serves_other seat (Unlink path) _ h
  serves seat (Rmdir path) h = serves_other seat (Rmdir path) _ h
  serves seat (Rename from to) h = serves_other seat (Rename from to) _ h
  serves seat (Read path off len) h = serves_other seat (Read path off len) _ h
  serves seat (ListNames path) h = serves_other seat (ListNames path) _ h

  begin : (seat : ℕ) (request : Request) → StepBegin limits faults state seat request turn → Survives state turn
  begin seat request h =
      by_bool (not (Step.is_up state.mode)) (still state turn _ refl refl refl refl refl)
      (by_bool (nat_le Step.MOST_ENTRIES state.entries) (still state turn _ refl refl refl refl refl)
      (by_option (Step.barring_seat state seat)
      (by_option (refusal limits state.live request)
      (by_option (Step.freezing state request)
      (serves seat request)
      (λ by. still state turn _ refl refl refl refl refl))
      (λ refused. still state turn _ refl refl refl refl refl))
      (λ by. still state turn _ refl refl refl refl refl))) h

  part : (seat ino : ℕ) (progress : Progress) (at : Part) → StepPart faults state seat ino progress at turn → Survives state turn
  part seat ino progress InPages h =
      by_option (Step.least_of state.dirty_pages ino)
      (flushes state turn faults seat Step.step_failed _ (inl (same state _ refl refl refl refl refl)))
      (λ page. writes state turn faults seat Step.step_failed _ (same state _ refl refl refl refl refl)) h
  part seat ino progress InNodes h =
      by_option (Step.least_of state.dirty_nodes ino)
      (by_option (map.get state.live ino) (λ never. absurd never)
      (λ row. kept state turn (Step.mark_drawn state seat ino row)
      (record { base = refl; format = refl; version = refl; marks = (record { ino = ino; row = row } ∷ [], refl); acknowledged = omega arith })))
      (λ offset. still state turn _ refl refl refl refl refl) h
  part seat ino progress Marked h =
      by_option (Step.gap_below state progress.position)
      (flushes state turn faults seat Step.step_failed (Step.acknowledges state seat ino progress)
      (inl (record { base = refl; format = refl; version = refl; marks = ([], sym (append-nil state.marks)); acknowledged = omega arith })))
      (λ position. still state turn _ refl refl refl refl refl) h

  fsync : (seat ino : ℕ) (progress : Progress) → StepFsync faults state seat ino progress turn → Survives state turn
  fsync seat ino progress h =
      by_option progress.slot (part seat ino progress progress.part)
      (λ slot. writes state turn faults seat Step.step_failed _ (same state _ refl refl refl refl refl)) h

  -- the end of a checkpoint leaves its entry
  completes_tells : (seat : ℕ) (b : Bool) → IsTrue (list_any is_checkpoint_done (if b then (entry.CpDone seat ∷ entry.Unmounted ∷ []) else (entry.CpDone seat ∷ [])))
  completes_tells seat true = search rules
  completes_tells seat false = search rules

  check : (seat : ℕ) (plan : Plan) → StepCheck faults state seat plan turn → Survives state turn
  check seat plan h =
      by_option state.pending
      (by_either
      (by_either
      (writes state turn faults seat Step.step_failed _ (same state _ refl refl refl refl refl))
      (flushes state turn faults seat Step.step_failed _ (inl (same state _ refl refl refl refl refl))))
      (writes state turn faults seat Step.step_failed _ (same state _ refl refl refl refl refl)))
      (λ tree. flushes state turn faults seat Step.step_failed (Step.completes state seat plan) (inr (inl (completes_tells seat (is_unmount state seat), record { base = refl; format = refl; version = refl; live = refl; marks = refl })))) h

  flight : (seat : ℕ) (one : Flight) → StepFlight faults state seat one turn → Survives state turn
  flight seat (InFsync ino progress) h = fsync seat ino progress h
  flight seat (InCheck plan) h = check seat plan h

  go : (seat : ℕ) → Step.StepGo faults state seat turn → Survives state turn
  go seat h =
      by_option (map.get state.flights seat) (still state turn _ refl refl refl refl refl)
      (λ one. by_bool (Step.is_shut state.mode) (still state turn _ refl refl refl refl refl) (flight seat one)) h

  ticks_page : (page : ℕ × ℕ) → Step.TicksPage limits faults state page turn → Survives state turn
  ticks_page page h =
      by_bool (Step.has_data_room limits state) (writes state turn faults Step.NO_SEAT _ _ (same state _ refl refl refl refl refl)) (still state turn _ refl refl refl refl refl) h

  ticks_node : (node : ℕ × ℕ) → Step.TicksNode limits faults state node turn → Survives state turn
  ticks_node node h =
      by_bool (Step.has_node_room limits state) (writes state turn faults Step.NO_SEAT _ _ (same state _ refl refl refl refl refl)) (still state turn _ refl refl refl refl refl) h

  ticks : Step.StepTick limits faults state turn → Survives state turn
  ticks h =
      by_bool (not (Step.is_up state.mode)) (still state turn _ refl refl refl refl refl)
      (by_bool (nat_le Step.MOST_ENTRIES state.entries) (still state turn _ refl refl refl refl refl)
      (by_bool (is_some (Step.checking_seat state)) (still state turn _ refl refl refl refl refl)
      (by_bool (Step.is_clean state) (still state turn _ refl refl refl refl refl)
      (by_option (Step.least_thawed state state.dirty_pages)
      (by_option (Step.least_thawed state state.dirty_nodes) (still state turn _ refl refl refl refl refl) ticks_node)
      ticks_page)))) h

  -- what a mount finds is what a crash may leave
  finds_marks : FindsMarks state turn → Survives state turn
  finds_marks h = is state turn (Step.found state (base_up_to state h.0) 0) (inr (inr (search rules, record { remained = inl (h.0, h.1, h.2, refl); live = refl; acknowledged = refl }))) h.3

  finds_pending_of : (pending : Option Rows) → state.pending ≡ pending → MatchOption pending ⊥ (λ tree. turn ≡ Step.found state (pending_with state tree) 1) → Survives state turn
  finds_pending_of None e h = absurd h
  finds_pending_of (Some tree) e h = is state turn (Step.found state (pending_with state tree) 1) (inr (inr (search rules, record { remained = inr (tree, e, refl); live = refl; acknowledged = refl }))) h

  mount : StepMount faults state turn → Survives state turn
  mount h =
      by_bool (not (Step.is_shut state.mode)) (still state turn _ refl refl refl refl refl) mounting h
    where
      mounting : FindsMarks state turn ⊎ FindsPending state turn ⊎ Step.MountFails faults state ReadFailed kind.Read turn ⊎ Step.MountFails faults state WriteFailed kind.Flush turn ⊎ (turn ≡ Step.unchanged state (NotMounted BadImage)) ⊎ (turn ≡ Step.unchanged state (NotMounted NoMemory)) → Survives state turn
      mounting (inl h) = finds_marks h
      mounting (inr (inl h)) = finds_pending_of state.pending refl h
      mounting (inr (inr (inl h))) = still state turn _ refl refl refl refl refl h.1
      mounting (inr (inr (inr (inl h)))) = still state turn _ refl refl refl refl refl h.1
      mounting (inr (inr (inr (inr (inl h))))) = still state turn _ refl refl refl refl refl h
      mounting (inr (inr (inr (inr (inr h))))) = still state turn _ refl refl refl refl refl h

  close : (format : Format) → Step.StepClose state format turn → Survives state turn
  close format h =
      by_bool (not (Step.is_up state.mode)) (still state turn _ refl refl refl refl refl)
      (by_option (Step.least_in_flight state) (still state turn _ refl refl refl refl refl) (λ by. still state turn _ refl refl refl refl refl)) h

pub step_survives : EventsKeepDurable
step_survives limits faults state (Begin seat request) turn h = by_either (begin limits faults state turn seat request) (still state turn _ refl refl refl refl refl) h.1
step_survives limits faults state (Go seat) turn h = go limits faults state turn seat h
step_survives limits faults state Tick turn h = ticks limits faults state turn h
step_survives limits faults state Mount turn h = mount limits faults state turn h
step_survives limits faults state Unmount turn (inl h) = close limits faults state turn state.format h
step_survives limits faults state Unmount turn (inr e) = still state turn _ refl refl refl refl refl e
step_survives limits faults state Upgrade turn (inl h) = close limits faults state turn Two h
step_survives limits faults state Upgrade turn (inr e) = still state turn _ refl refl refl refl refl e
step_survives limits faults state Crash turn e = still state turn _ refl refl refl refl refl e
