-- Each event leaves a proper state proper.
use Rattle.std.proofs.Common.{◌≡◌, ◌⊎◌, inl, inr, ℕ, Bool, true, false, not, nat_le, List, [], ◌∷◌, length, refl, sym, ap, subst, ◌∙◌, arith, true≢false}
use Rattle.std.specs.Prelude.{Option, Some, None, Result, Ok, Err, MatchOption, is_some, ◌+◌, max}
use Rattle.std.specs.Bool.{MatchBool}
use Rattle.std.specs.FinMap as map
use Rattle.std.specs.FinSet as set
use Rattle.f2_model.specs.Tree.{walk}
use Rattle.f2_model.specs.Call.{effect, refusal, space_refusal, answer}
use Rattle.f2_model.specs.declared.bounds.Limits.{Limits}
use Rattle.f2_model.specs.State.{State, Part, InPages, InNodes, Marked, DrawnMark, Progress, Flight, InFsync, InCheck, IsFreeIno, fresh_progress, in_nodes, marked_at, base_up_to, pending_with}
use Rattle.f2_model.specs.Step
use Rattle.f2_model.specs.Fallback.{fallback}
use Rattle.f2_model.specs.declared.events.Event.TheVariants.{Begin, Go, Tick, Mount, Unmount, Upgrade, Crash}
use Rattle.f2_model.specs.declared.events.Answer.{Answer}
use Rattle.f2_model.specs.declared.events.Answer.TheVariants.{Stepped, NotMounted}
use Rattle.f2_model.specs.declared.events.MountRefusal.{MountRefusal}
use Rattle.f2_model.specs.declared.events.MountRefusal.TheVariants.{ReadFailed, WriteFailed, BadImage, NoMemory}
use Rattle.f2_model.specs.declared.modes.Format.{Format}
use Rattle.f2_model.specs.declared.modes.Format.TheVariants.{Two}
use Rattle.f2_model.specs.Step.{Faults, Turn, Writes, Flushes, StepBegin, Serves, BeginsFsync, BeginsCheck, TakesEffect, ReadFails, StepPart, StepFsync, StepCheck, StepFlight, StepMount, FindsMarks, FindsPending, called, adds_row, is_shut, is_up, freezing}
use Rattle.f2_model.specs.declared.rows.Row.{Row}
use Rattle.f2_model.specs.declared.rows.Kind.TheVariants.{Regular}
use Rattle.f2_model.specs.declared.requests.Request.{Request}
use Rattle.f2_model.specs.declared.requests.Request.TheVariants.{Create, Mkdir, Write, Truncate, Unlink, Rmdir, Rename, Read, List as ListNames, Fsync, Sync}
use Rattle.f2_model.specs.declared.replies.Reply.{Reply}
use Rattle.f2_model.specs.declared.replies.Reply.TheVariants as reply
use Rattle.f2_model.specs.declared.replies.Plan.{Plan}
use Rattle.f2_model.specs.declared.replies.Step.TheVariants as step
use Rattle.f2_model.specs.declared.replies.Plan.TheVariants as plan
use Rattle.f2_model.specs.declared.histories.Entry.{Entry}
use Rattle.f2_model.specs.declared.histories.Entry.TheVariants as entry
use Rattle.f2_model.specs.declared.histories.CallKind.{CallKind}
use Rattle.f2_model.specs.declared.histories.CallKind.TheVariants as kind
use Rattle.f2_laws.proofs.Walks.{walk_ends}
use Rattle.f2_laws.proofs.Passed.{passed}
use Rattle.f2_laws.proofs.NewRows.{same_space}
use Rattle.f2_room_laws.specs.ProperTrees.{IsNumber, IsProperTree}
use Rattle.f2_laws.specs.Flights.{IsFrozen}
use Rattle.f2_room_laws.specs.ProperStates.{IsProperState, EventsKeepStatesProper}
use Rattle.f2_laws.proofs.Seats.{nobody, no_check, unbarred}
use Rattle.f2_laws.proofs.Dirtied.{dirty_only}
use Rattle.f2_room_laws.proofs.Effects.{Keeps, effect_keeps, effect_proper}
use Rattle.f2_laws.proofs.Flying.{Idle}
use Rattle.f2_room_laws.proofs.Modes.{where_up}
use Rattle.f2_room_laws.proofs.States.{Rolls, proper_aside, proper_told, proper_closed, proper_crashed, proper_left, proper_acknowledged, proper_checking, proper_pending, proper_logged, proper_drawn, proper_changed, proper_begun, proper_part, proper_marked, proper_completed, proper_found}

-- a test, and an option, that both ways lead on from
by_bool : {P Q G : Type 0} (b : Bool) → (b ≡ true → P → G) → (b ≡ false → Q → G) → MatchBool b P Q → G
by_bool true p q h = p refl h
by_bool false p q h = q refl h

by_option : {A G P : Type 0} {Q : A → Type 0} (o : Option A) → (o ≡ None → P → G) → ((a : A) → o ≡ Some a → Q a → G) → MatchOption o P Q → G
by_option None p q h = p refl h
by_option (Some a) p q h = q a refl h

shown : (b : Bool) → not b ≡ false → b ≡ true
shown true e = refl
shown false e = absurd (true≢false e)

module _ (limits : Limits) (faults : Faults) (state : State) (turn : Turn) (h : IsProperState limits state) where
  abbrev Stays : Type 0
  Stays = IsProperState limits turn.after

  is : (so : Turn) → IsProperState limits so.after → turn ≡ so → Stays
  is so holds e = subst (λ (t : Turn). IsProperState limits t.after) (sym e) holds

  -- an event that changes nothing
  still : (told : Answer) (entries : List Entry) (choices : List ℕ) → turn ≡ Step.turn_with told entries choices state → Stays
  still told entries choices e = is (Step.turn_with told entries choices state) (proper_told limits state h (state.entries + length entries)) e

  closes : (seat : ℕ) (call : CallKind) (failed : Answer) (so : Turn) → IsProperState limits so.after → turn ≡ Step.closed_by_fault faults seat call failed so → Stays
  closes seat call failed so holds e = is (Step.closed_by_fault faults seat call failed so) (proper_closed limits so.after holds seat (so.after.entries + 1)) e

  writes : (seat : ℕ) (failed : Answer) (so : Turn) → IsProperState limits so.after → Writes faults seat failed so turn → Stays
  writes seat failed so holds (inl e) = is so holds e
  writes seat failed so holds (inr e) = closes seat kind.Write failed so holds e.1

  flushes : (seat : ℕ) (failed : Answer) (so : Turn) → IsProperState limits so.after → Flushes faults state seat failed so turn → Stays
  flushes seat failed so holds (inl e) = is so holds e
  flushes seat failed so holds (inr e) = closes seat kind.Flush failed (Step.unchanged state failed) (proper_told limits state h (state.entries + 0)) e.1

  -- a call of one event takes effect
  called_proper : (request : Request) (ino entries : ℕ) → IsProperTree limits (effect state.live request ino) → Keeps state.live (effect state.live request ino) state.flights (adds_row request) ino → (adds_row request ≡ true → map.get state.base ino ≡ None) → (adds_row request ≡ true → set.contains state.logged ino ≡ false) → IsProperState limits (record (called state request ino) { entries = entries })
  called_proper request ino entries proper keeps no_base out =
      dirty_only (λ (s : State). IsProperState limits (record s { live = effect state.live request ino; entries = entries })) state
      (λ pages nodes moved shrunk. proper_changed limits state h (effect state.live request ino) (adds_row request) ino pages nodes moved shrunk entries proper keeps no_base out)
      (effect state.live request ino) request

  -- what the tests before have told of a call of one event
  module _ (seat : ℕ) (request : Request) (up : is_up state.mode ≡ true) (none : refusal limits state.live request ≡ None) (thawed : freezing state request ≡ None) where
    rolling : Rolls limits state
    rolling = where_up state.mode (Idle state.flights) (Rolls limits state) up h.mode

    frozen_row : (ino : ℕ) → IsFrozen state.flights ino → (row : Row) × (map.get state.live ino ≡ Some row) × (row.kind ≡ Regular)
    frozen_row ino frozen = let r = rolling.files ino frozen in (r.row, r.there, r.regular)

    keeps : (ino : ℕ) → (adds_row request ≡ true → map.get state.live ino ≡ None) → Keeps state.live (effect state.live request ino) state.flights (adds_row request) ino
    keeps ino new = effect_keeps limits state h.live.good frozen_row ino request new (passed limits state.live request none) thawed

    absent : map.get state.live limits.nids ≡ None
    absent = by_row (map.get state.live limits.nids) refl
      where
        by_row : (o : Option Row) → map.get state.live limits.nids ≡ o → o ≡ None
        by_row None e = refl
        by_row (Some row) e = let number = h.live.numbers limits.nids row e in absurd (omega arith)

    effective : (ino : ℕ) (choices : List ℕ) → (adds_row request ≡ true → IsFreeIno limits state ino) → space_refusal limits (effect state.live request ino) ≡ None → turn ≡ Step.told_at_once state seat request (answer state.live request) choices (called state request ino) → Stays
    effective ino choices free space e =
        let kept = keeps ino (λ adds. (free adds).no_row) in
        let proper = effect_proper limits state.live state.flights request ino h.live none (λ adds. (free adds).no_row) (λ adds. number ino (free adds)) space kept in
        is (Step.told_at_once state seat request (answer state.live request) choices (called state request ino))
        (called_proper request ino ((called state request ino).entries + 1) proper kept (λ adds. (free adds).no_base_row) (λ adds. (free adds).not_logged)) e
      where
        number : (ino : ℕ) → IsFreeIno limits state ino → IsNumber limits ino
        number ino free = (let above = free.above in omega arith, free.below)

    takes_effect : (adds_row request ≡ false → effect state.live request 0 ≡ effect state.live request limits.nids) → space_refusal limits (effect state.live request limits.nids) ≡ None → TakesEffect limits state seat request turn → Stays
    takes_effect alike space taken =
        by_bool (adds_row request)
        (λ adds one. effective one.0 (one.0 ∷ []) (λ _. one.1) (same_space limits state.live request one.0 limits.nids h.live.good one.1.no_row absent ∙ space) one.2)
        (λ adds e. effective 0 [] (λ yes. absurd (true≢false (sym yes ∙ adds))) (ap (space_refusal limits) (alike adds) ∙ space) e)
        taken

    serves_other : (adds_row request ≡ false → effect state.live request 0 ≡ effect state.live request limits.nids) → MatchOption (space_refusal limits (effect state.live request limits.nids)) (TakesEffect limits state seat request turn ⊎ ReadFails faults state seat request turn) (λ refused. turn ≡ Step.told_at_once state seat request refused [] state) → Stays
    serves_other alike served = by_option (space_refusal limits (effect state.live request limits.nids)) by_want (λ refused _ e. still _ _ _ e) served
      where
        by_want : space_refusal limits (effect state.live request limits.nids) ≡ None → TakesEffect limits state seat request turn ⊎ ReadFails faults state seat request turn → Stays
        by_want space (inl taken) = takes_effect alike space taken
        by_want space (inr failed) = still _ _ _ failed.1

  begins_check : (seat : ℕ) (request : Request) (plan : Plan) → BeginsCheck state seat request plan turn → Stays
  begins_check seat request plan begun =
      by_option (Step.least_in_flight state)
      (λ none e. is _ (proper_checking limits state h seat plan state.format (state.entries + 2) (nobody state none)) e)
      (λ by _ e. still _ _ _ e) begun

  begins_fsync : (seat : ℕ) (path : List (List ℕ)) → is_up state.mode ≡ true → Step.checking_seat state ≡ None → (end : Result Row Reply) → walk state.live path ≡ end → BeginsFsync limits state seat (Fsync path) end turn → Stays
  begins_fsync seat path up none (Err refused) leads e = still _ _ _ e
  begins_fsync seat path up none (Ok row) leads begun =
      by_option (fallback limits state row)
      (λ rolls e. is _ (proper_begun limits state h seat fresh_progress row (state.entries + 1) up (walk_ends limits.size state.live h.live.good path row leads).there rolls (no_check state none)) e)
      (λ reason _. begins_check seat (Fsync path) (plan.Cp reason)) begun

  serves : (seat : ℕ) (request : Request) → is_up state.mode ≡ true → Step.checking_seat state ≡ None → refusal limits state.live request ≡ None → freezing state request ≡ None → Serves limits faults state seat request turn → Stays
  serves seat (Fsync path) up none passes thawed served = begins_fsync seat path up none (walk state.live path) refl served
  serves seat Sync up none passes thawed served = begins_check seat Sync plan.Sync served
  serves seat (Create path) up none passes thawed served = serves_other seat (Create path) up passes thawed (λ adds. absurd (true≢false adds)) served
  serves seat (Mkdir path) up none passes thawed served = serves_other seat (Mkdir path) up passes thawed (λ adds. absurd (true≢false adds)) served
  serves seat (Write path pieces) up none passes thawed served = serves_other seat (Write path pieces) up passes thawed (λ _. refl) served
  serves seat (Truncate path size) up none passes thawed served = serves_other seat (Truncate path size) up passes thawed (λ _. refl) served
  serves seat (Unlink path) up none passes thawed served = serves_other seat (Unlink path) up passes thawed (λ _. refl) served
  serves seat (Rmdir path) up none passes thawed served = serves_other seat (Rmdir path) up passes thawed (λ _. refl) served
  serves seat (Rename from to) up none passes thawed served = serves_other seat (Rename from to) up passes thawed (λ _. refl) served
  serves seat (Read path off len) up none passes thawed served = serves_other seat (Read path off len) up passes thawed (λ _. refl) served
  serves seat (ListNames path) up none passes thawed served = serves_other seat (ListNames path) up passes thawed (λ _. refl) served

  begin : (seat : ℕ) (request : Request) → StepBegin limits faults state seat request turn → Stays
  begin seat request begun =
      by_bool (not (is_up state.mode)) (λ _ e. still _ _ _ e)
      (λ open_now. by_bool (nat_le Step.MOST_ENTRIES state.entries) (λ _ e. still _ _ _ e)
      (λ _. by_option (Step.barring_seat state seat)
      (λ free. by_option (refusal limits state.live request)
      (λ passes. by_option (freezing state request)
      (λ thawed. serves seat request (shown (is_up state.mode) open_now) (unbarred state seat free) passes thawed)
      (λ by _ e. still _ _ _ e))
      (λ refused _ e. still _ _ _ e))
      (λ by _ e. still _ _ _ e))) begun

  part : (seat ino : ℕ) (progress : Progress) → map.get state.flights seat ≡ Some (InFsync ino progress) → is_shut state.mode ≡ false → (at : Part) → StepPart faults state seat ino progress at turn → Stays
  part seat ino progress there open_now InPages stepped =
      by_option (Step.least_of state.dirty_pages ino)
      (λ _. flushes seat Step.step_failed _ (proper_part limits state h seat ino progress there (in_nodes None) (state.entries + 1)))
      (λ page _. writes seat Step.step_failed _ (proper_aside limits state h (set.remove state.dirty_pages (ino, page)) state.dirty_nodes state.moved state.shrunk state.node_writes (state.data_writes + 1) (state.entries + 1))) stepped
  part seat ino progress there open_now InNodes stepped =
      by_option (Step.least_of state.dirty_nodes ino)
      (λ _. by_option (map.get state.live ino) (λ _ never. absurd never)
      (λ row row_there. is (Step.mark_drawn state seat ino row) (proper_marked limits state h seat ino progress there row row_there open_now (marked_at (length state.marks) state.node_writes (Some (Step.next_slot state DrawnMark))) (state.node_writes + 1) (state.entries + 1))))
      (λ offset _. is (Step.node_drawn state seat ino offset) (proper_drawn limits state h seat ino progress there offset (state.entries + 1))) stepped
  part seat ino progress there open_now Marked stepped =
      by_option (Step.gap_below state progress.position)
      (λ _. flushes seat Step.step_failed (Step.acknowledges state seat ino progress) (proper_acknowledged limits state h seat (max state.acknowledged (progress.place + 1)) (state.entries + 1) (omega arith)))
      (λ position _ e. still _ _ _ e) stepped

  fsync : (seat ino : ℕ) (progress : Progress) → map.get state.flights seat ≡ Some (InFsync ino progress) → is_shut state.mode ≡ false → StepFsync faults state seat ino progress turn → Stays
  fsync seat ino progress there open_now stepped =
      by_option progress.slot (λ _. part seat ino progress there open_now progress.part)
      (λ slot _. writes seat Step.step_failed _ (proper_part limits state h seat ino progress there (record progress { slot = None }) (state.entries + 0))) stepped

  check : (seat : ℕ) (plan : Plan) → map.get state.flights seat ≡ Some (InCheck plan) → StepCheck faults state seat plan turn → Stays
  check seat plan there stepped =
      by_option state.pending (λ _. by_pending)
      (λ tree _. flushes seat Step.step_failed (Step.completes state seat plan) (proper_completed limits state h seat plan (Step.is_unmount state seat) (state.entries + length (Step.completes state seat plan).entries) there)) stepped
    where
      by_block : Writes faults seat Step.step_failed (Step.unchanged state (Stepped step.Block)) turn ⊎ Flushes faults state seat Step.step_failed (Step.unchanged state (Stepped step.Block)) turn → Stays
      by_block (inl e) = writes seat Step.step_failed _ (proper_told limits state h (state.entries + 0)) e
      by_block (inr e) = flushes seat Step.step_failed _ (proper_told limits state h (state.entries + 0)) e

      by_pending : Step.WritesBlock faults state seat turn ⊎ Writes faults seat Step.step_failed (Step.turn_with (Stepped step.Tail) (entry.CpTail seat ∷ []) [] (record state { pending = Some state.live })) turn → Stays
      by_pending (inl e) = by_block e
      by_pending (inr e) = writes seat Step.step_failed _ (proper_pending limits state h (state.entries + 1)) e

  flight : (seat : ℕ) (one : Flight) → map.get state.flights seat ≡ Some one → is_shut state.mode ≡ false → StepFlight faults state seat one turn → Stays
  flight seat (InFsync ino progress) there open_now stepped = fsync seat ino progress there open_now stepped
  flight seat (InCheck plan) there open_now stepped = check seat plan there stepped

  go : (seat : ℕ) → Step.StepGo faults state seat turn → Stays
  go seat stepped =
      by_option (map.get state.flights seat) (λ _ e. still _ _ _ e)
      (λ one there. by_bool (is_shut state.mode) (λ _ e. is _ (proper_left limits state h seat (state.entries + 0)) e) (λ open_now. flight seat one there open_now)) stepped

  ticks_page : (page : ℕ × ℕ) → Step.TicksPage limits faults state page turn → Stays
  ticks_page page stepped =
      by_bool (Step.has_data_room limits state)
      (λ _. writes Step.NO_SEAT _ _ (proper_aside limits state h (set.remove state.dirty_pages (page.0, page.1)) state.dirty_nodes state.moved state.shrunk state.node_writes (state.data_writes + 1) (state.entries + 1)))
      (λ _ e. still _ _ _ e) stepped

  ticks_node : (node : ℕ × ℕ) → Step.TicksNode limits faults state node turn → Stays
  ticks_node node stepped =
      by_bool (Step.has_node_room limits state)
      (λ _. writes Step.NO_SEAT _ _ (proper_logged limits state h node.0 (set.remove state.dirty_nodes (node.0, node.1)) (state.node_writes + 1) (state.entries + 1)))
      (λ _ e. still _ _ _ e) stepped

  ticks : Step.StepTick limits faults state turn → Stays
  ticks stepped =
      by_bool (not (is_up state.mode)) (λ _ e. still _ _ _ e)
      (λ _. by_bool (nat_le Step.MOST_ENTRIES state.entries) (λ _ e. still _ _ _ e)
      (λ _. by_bool (is_some (Step.checking_seat state)) (λ _ e. still _ _ _ e)
      (λ _. by_bool (Step.is_clean state) (λ _ e. still _ _ _ e)
      (λ _. by_option (Step.least_thawed state state.dirty_pages)
      (λ _. by_option (Step.least_thawed state state.dirty_nodes) (λ _ e. still _ _ _ e) (λ node _. ticks_node node))
      (λ page _. ticks_page page))))) stepped

  mount : StepMount faults state turn → Stays
  mount stepped = by_bool (not (is_shut state.mode)) (λ _ e. still _ _ _ e) (λ _. mounting) stepped
    where
      finds_pending : FindsPending state turn → Stays
      finds_pending found = by_option state.pending (λ _ never. absurd never) (λ tree is_there e. is (Step.found state (pending_with state tree) 1) (proper_found limits state (pending_with state tree) 1 (h.pending tree is_there)) e) found

      fails : (seat : ℕ) (call : CallKind) (refused : MountRefusal) → turn ≡ Step.closed_by_fault faults seat call (NotMounted refused) (Step.unchanged state (NotMounted refused)) → Stays
      fails seat call refused e = closes seat call (NotMounted refused) (Step.unchanged state (NotMounted refused)) (proper_told limits state h (state.entries + 0)) e

      mounting : FindsMarks state turn ⊎ FindsPending state turn ⊎ Step.MountFails faults state ReadFailed kind.Read turn ⊎ Step.MountFails faults state WriteFailed kind.Flush turn ⊎ (turn ≡ Step.unchanged state (NotMounted BadImage)) ⊎ (turn ≡ Step.unchanged state (NotMounted NoMemory)) → Stays
      mounting (inl found) = is (Step.found state (base_up_to state found.0) 0) (proper_found limits state (base_up_to state found.0) 0 (h.remains found.0 found.1 found.2)) found.3
      mounting (inr (inl found)) = finds_pending found
      mounting (inr (inr (inl failed))) = fails Step.NO_SEAT kind.Read ReadFailed failed.1
      mounting (inr (inr (inr (inl failed)))) = fails Step.NO_SEAT kind.Flush WriteFailed failed.1
      mounting (inr (inr (inr (inr (inl e))))) = still _ _ _ e
      mounting (inr (inr (inr (inr (inr e))))) = still _ _ _ e

  close : (format : Format) → Step.StepClose state format turn → Stays
  close format stepped =
      by_bool (not (is_up state.mode)) (λ _ e. still _ _ _ e)
      (λ _. by_option (Step.least_in_flight state)
      (λ none e. is _ (proper_checking limits state h Step.MOUNT_SEAT plan.Sync format (state.entries + 1) (nobody state none)) e)
      (λ by _ e. still _ _ _ e)) stepped

pub events_keep_states_proper : EventsKeepStatesProper
events_keep_states_proper limits faults state (Begin seat request) turn step h = by_memory step.1
  where
    by_memory : StepBegin limits faults state seat request turn ⊎ (turn ≡ Step.unchanged state (Step.replied reply.Memory)) → IsProperState limits turn.after
    by_memory (inl stepped) = begin limits faults state turn h seat request stepped
    by_memory (inr e) = still limits faults state turn h _ _ _ e
events_keep_states_proper limits faults state (Go seat) turn stepped h = go limits faults state turn h seat stepped
events_keep_states_proper limits faults state Tick turn stepped h = ticks limits faults state turn h stepped
events_keep_states_proper limits faults state Mount turn stepped h = mount limits faults state turn h stepped
events_keep_states_proper limits faults state Unmount turn (inl stepped) h = close limits faults state turn h state.format stepped
events_keep_states_proper limits faults state Unmount turn (inr e) h = still limits faults state turn h _ _ _ e
events_keep_states_proper limits faults state Upgrade turn (inl stepped) h = close limits faults state turn h Two stepped
events_keep_states_proper limits faults state Upgrade turn (inr e) h = still limits faults state turn h _ _ _ e
events_keep_states_proper limits faults state Crash turn e h = is limits faults state turn h (Step.crashed state) (proper_crashed limits state h (state.entries + 1)) e
