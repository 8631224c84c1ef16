-- The kinds of turns that an event comes to: what holds of each kind holds of every turn.
use Rattle.std.proofs.Common.{◌≡◌, ◌⊎◌, inl, inr, ℕ, Bool, true, false, not, nat_le, List, [], ◌∷◌, refl, sym, subst, true≢false}
use Rattle.std.specs.Prelude.{Option, Some, None, Result, Ok, Err, MatchOption, is_some}
use Rattle.std.specs.Bool.{MatchBool}
use Rattle.std.specs.FinMap as map
use Rattle.f2_model.specs.Tree.{walk}
use Rattle.f2_model.specs.Call.{refusal, effect, answer, space_refusal}
use Rattle.f2_model.specs.declared.bounds.Limits.{Limits}
use Rattle.f2_model.specs.State.{State, Meaning, MayRemain, Part, InPages, InNodes, Marked, Slot, Progress, fresh_progress, in_nodes, Flight, InFsync, InCheck, IsFreeIno, base_up_to, pending_with, number_of}
use Rattle.f2_model.specs.Fallback.{fallback}
use Rattle.f2_model.specs.Step
use Rattle.f2_model.specs.Step.{Faults, Turn, MOUNT_SEAT, NO_SEAT, turn_with, unchanged, told_at_once, replied, is_up, is_shut, closed_by_fault, step_failed, Writes, Flushes, StepBegin, Serves, BeginsFsync, BeginsCheck, TakesEffect, ReadFails, StepPart, StepFsync, StepCheck, StepFlight, StepMount, FindsMarks, FindsPending, MountFails, adds_row, called, least_of, least_thawed, page_written, node_logged, with_progress, without_call, checking, node_drawn, mark_drawn, acknowledges, completes, gap_below, found, closing, crashed}
use Rattle.f2_model.specs.declared.events.Event.{Event}
use Rattle.f2_model.specs.declared.events.Event.TheVariants.{Begin, Go, Tick, Mount, Unmount, Upgrade, Crash}
use Rattle.f2_model.specs.declared.events.Answer.{Answer}
use Rattle.f2_model.specs.declared.events.Answer.TheVariants.{Began, Stepped, Ticked, NotMounted}
use Rattle.f2_model.specs.declared.events.MountRefusal.{MountRefusal}
use Rattle.f2_model.specs.declared.events.MountRefusal.TheVariants.{ReadFailed, WriteFailed, BadImage, NoMemory}
use Rattle.f2_model.specs.declared.modes.Format.{Format}
use Rattle.f2_model.specs.declared.modes.Format.TheVariants.{Two}
use Rattle.f2_model.specs.declared.rows.Row.{Row}
use Rattle.f2_model.specs.declared.requests.Request.{Request}
use Rattle.f2_model.specs.declared.requests.Request.TheVariants.{Create, Mkdir, Write, Truncate, Unlink, Rmdir, Rename, Read, List as ListNames, Fsync, Sync}
use Rattle.f2_model.specs.declared.replies.Reply.{Reply}
use Rattle.f2_model.specs.declared.replies.Reply.TheVariants as reply
use Rattle.f2_model.specs.declared.replies.Outcome.TheVariants as outcome
use Rattle.f2_model.specs.declared.replies.Begun.TheVariants.{Going}
use Rattle.f2_model.specs.declared.replies.Step.TheVariants as step
use Rattle.f2_model.specs.declared.replies.Tick.TheVariants as tick
use Rattle.f2_model.specs.declared.replies.Plan.{Plan}
use Rattle.f2_model.specs.declared.replies.Plan.TheVariants as plan
use Rattle.f2_model.specs.declared.histories.CallKind.{CallKind}
use Rattle.f2_model.specs.declared.histories.CallKind.TheVariants as kind
use Rattle.f2_model.specs.declared.histories.Entry.TheVariants as entry

-- a call of one event takes effect: the volume is open, nothing refuses the call, no fsync holds its file, and a new row gets a free ino
pub record IsServed (limits : Limits) (state : State) (request : Request) (ino : ℕ) : Type 0 where
  pub up : is_up state.mode ≡ true
  pub passes : refusal limits state.live request ≡ None
  pub thawed : Step.freezing state request ≡ None
  pub free : adds_row request ≡ true → IsFreeIno limits state ino

-- a checkpoint begins: the volume is open, and nobody is in flight
pub record IsFree (state : State) : Type 0 where
  pub up : is_up state.mode ≡ true
  pub nobody : Step.least_in_flight state ≡ None

-- an fsync of a row begins, and rolls forward
pub record RollsForward (limits : Limits) (state : State) (seat : ℕ) (path : List (List ℕ)) (row : Row) : Type 0 where
  pub up : is_up state.mode ≡ true
  pub unbarred : Step.barring_seat state seat ≡ None
  pub leads : walk state.live path ≡ Ok row
  pub thawed : Step.freezing_seat state row.ino ≡ None
  pub rolls : fallback limits state row ≡ None

-- a seat's fsync goes on, with no position open
pub record IsAtPart (state : State) (seat ino : ℕ) (progress : Progress) (at : Part) : Type 0 where
  pub there : map.get state.flights seat ≡ Some (InFsync ino progress)
  pub open_now : is_shut state.mode ≡ false
  pub no_slot : progress.slot ≡ None
  pub part : progress.part ≡ at

-- what holds of each kind of turn of a state
pub record Handles (limits : Limits) (faults : Faults) (state : State) (P : Turn → Type 0) : Type 0 where
  -- nothing changes, and what is told differs
  pub still : (answer : Answer) → P (unchanged state answer)
  pub told : (seat : ℕ) (request : Request) (refused : Reply) → P (told_at_once state seat request refused [] state)
  pub unread : (seat : ℕ) (request : Request) → P (turn_with (replied reply.ReadFault) (entry.Did seat request outcome.ReadFault ∷ entry.Fault seat kind.Read faults.after ∷ []) [] state)
  -- a call begins
  pub calls : (seat : ℕ) (request : Request) (ino : ℕ) (choices : List ℕ) → IsServed limits state request ino → P (told_at_once state seat request (answer state.live request) choices (called state request ino))
  pub checks : (seat : ℕ) (request : Request) (plan : Plan) → IsFree state → P (turn_with (Began (Going plan)) (entry.Begin seat request ∷ entry.CpBegin seat plan ∷ []) (number_of state.format ∷ []) (checking state seat plan))
  pub rolls : (seat : ℕ) (path : List (List ℕ)) (row : Row) → RollsForward limits state seat path row → P (turn_with (Began (Going plan.Roll)) (entry.Begin seat (Fsync path) ∷ []) [] (record state { flights = map.insert state.flights seat (InFsync row.ino fresh_progress) }))
  -- an fsync goes on
  pub leaves : (seat : ℕ) → is_shut state.mode ≡ true → P (turn_with (Stepped (step.Replied reply.Closed)) [] [] (without_call state seat))
  pub submits : (seat ino : ℕ) (progress : Progress) (slot : Slot) → map.get state.flights seat ≡ Some (InFsync ino progress) → P (turn_with (Stepped (Step.step_of slot.drawn)) [] [] (with_progress state seat ino (record progress { slot = None })))
  pub page : (seat ino : ℕ) (progress : Progress) (page : ℕ) → IsAtPart state seat ino progress InPages → least_of state.dirty_pages ino ≡ Some page → P (turn_with (Stepped (step.Page page)) (entry.WrotePage ino page ∷ []) [] (page_written state ino page))
  pub flushed : (seat ino : ℕ) (progress : Progress) → IsAtPart state seat ino progress InPages → least_of state.dirty_pages ino ≡ None → P (turn_with (Stepped step.Flushed) (entry.Flushed seat ∷ []) [] (with_progress state seat ino (in_nodes None)))
  pub node : (seat ino : ℕ) (progress : Progress) (offset : ℕ) → IsAtPart state seat ino progress InNodes → least_of state.dirty_nodes ino ≡ Some offset → P (node_drawn state seat ino offset)
  pub mark : (seat ino : ℕ) (progress : Progress) (row : Row) → IsAtPart state seat ino progress InNodes → least_of state.dirty_nodes ino ≡ None → map.get state.live ino ≡ Some row → P (mark_drawn state seat ino row)
  pub acks : (seat ino : ℕ) (progress : Progress) → IsAtPart state seat ino progress Marked → gap_below state progress.position ≡ None → P (acknowledges state seat ino progress)
  -- a checkpoint goes on
  pub tail : (seat : ℕ) (plan : Plan) → map.get state.flights seat ≡ Some (InCheck plan) → state.pending ≡ None → P (turn_with (Stepped step.Tail) (entry.CpTail seat ∷ []) [] (record state { pending = Some state.live }))
  pub done : (seat : ℕ) (plan : Plan) → map.get state.flights seat ≡ Some (InCheck plan) → P (completes state seat plan)
  -- the flusher writes
  pub ticks_page : (page : ℕ × ℕ) → P (turn_with (Ticked tick.Data) (entry.WrotePage page.0 page.1 ∷ []) [] (page_written state page.0 page.1))
  pub ticks_node : (node : ℕ × ℕ) → P (turn_with (Ticked tick.Node) (entry.WroteNode node.0 node.1 ∷ []) [] (node_logged state node.0 node.1))
  -- the volume is opened, is to be closed, and loses power
  pub finds : (meaning : Meaning) (choice : ℕ) → MayRemain state meaning → P (found state meaning choice)
  pub closes : (format : Format) → IsFree state → P (closing state format)
  pub crashes : P (crashed state)
  -- a write or a flush fails, and the volume is closed
  pub fails : (seat : ℕ) (call : CallKind) (failed : Answer) (meant : Turn) → P meant → P (closed_by_fault faults seat call failed meant)

-- a test, and an option, that both ways lead on from
by_bool : {P Q G : Type 0} (b : Bool) → (b ≡ true → P → G) → (b ≡ false → Q → G) → MatchBool b P Q → G
by_bool true p q h = p refl h
by_bool false p q h = q refl h

by_option : {A G P : Type 0} {Q : A → Type 0} (o : Option A) → (o ≡ None → P → G) → ((a : A) → o ≡ Some a → Q a → G) → MatchOption o P Q → G
by_option None p q h = p refl h
by_option (Some a) p q h = q a refl h

by_either : {A B G : Type 0} → (A → G) → (B → G) → A ⊎ B → G
by_either f g (inl a) = f a
by_either f g (inr b) = g b

shown : (b : Bool) → not b ≡ false → b ≡ true
shown true e = refl
shown false e = absurd (true≢false e)

module _ (limits : Limits) (faults : Faults) (state : State) (P : Turn → Type 0) (h : Handles limits faults state P) (turn : Turn) where
  is : (so : Turn) → P so → turn ≡ so → P turn
  is so holds e = subst P (sym e) holds

  writes : (seat : ℕ) (failed : Answer) (so : Turn) → P so → Writes faults seat failed so turn → P turn
  writes seat failed so holds (inl e) = is so holds e
  writes seat failed so holds (inr e) = is _ (h.fails seat kind.Write failed so holds) e.1

  flushes : (seat : ℕ) (failed : Answer) (so : Turn) → P so → Flushes faults state seat failed so turn → P turn
  flushes seat failed so holds (inl e) = is so holds e
  flushes seat failed so holds (inr e) = is _ (h.fails seat kind.Flush failed (unchanged state failed) (h.still failed)) e.1

  takes_effect : (seat : ℕ) (request : Request) → is_up state.mode ≡ true → refusal limits state.live request ≡ None → Step.freezing state request ≡ None → TakesEffect limits state seat request turn → P turn
  takes_effect seat request up passes thawed taken =
      by_bool (adds_row request)
      (λ adds one. is _ (h.calls seat request one.0 (one.0 ∷ []) (record { up = up; passes = passes; thawed = thawed; free = λ _. one.1 })) one.2)
      (λ adds e. is _ (h.calls seat request 0 [] (record { up = up; passes = passes; thawed = thawed; free = λ yes. absurd (true≢false (subst (λ b. b ≡ false) yes adds)) })) e)
      taken

  serves_other : (seat : ℕ) (request : Request) → is_up state.mode ≡ true → refusal limits state.live request ≡ None → Step.freezing state request ≡ None → MatchOption (space_refusal limits (effect state.live request limits.nids)) (TakesEffect limits state seat request turn ⊎ ReadFails faults state seat request turn) (λ refused. turn ≡ told_at_once state seat request refused [] state) → P turn
  serves_other seat request up passes thawed served =
      by_option (space_refusal limits (effect state.live request limits.nids))
      (λ _. by_either (takes_effect seat request up passes thawed) (λ failed. is _ (h.unread seat request) failed.1))
      (λ refused _ e. is _ (h.told seat request refused) e) served

  begins_check : (seat : ℕ) (request : Request) (plan : Plan) → is_up state.mode ≡ true → BeginsCheck state seat request plan turn → P turn
  begins_check seat request plan up begun =
      by_option (Step.least_in_flight state)
      (λ none e. is _ (h.checks seat request plan (record { up = up; nobody = none })) e)
      (λ by _ e. is _ (h.still _) e) begun

  begins_fsync : (seat : ℕ) (path : List (List ℕ)) → is_up state.mode ≡ true → Step.barring_seat state seat ≡ None → (end : Result Row Reply) → walk state.live path ≡ end → Step.freezing_walked state end ≡ None → BeginsFsync limits state seat (Fsync path) end turn → P turn
  begins_fsync seat path up free (Err refused) leads thawed e = is _ (h.told seat (Fsync path) refused) e
  begins_fsync seat path up free (Ok row) leads thawed begun =
      by_option (fallback limits state row)
      (λ none e. is _ (h.rolls seat path row (record { up = up; unbarred = free; leads = leads; thawed = thawed; rolls = none })) e)
      (λ reason _. begins_check seat (Fsync path) (plan.Cp reason) up) begun

  serves : (seat : ℕ) (request : Request) → is_up state.mode ≡ true → Step.barring_seat state seat ≡ None → refusal limits state.live request ≡ None → Step.freezing state request ≡ None → Serves limits faults state seat request turn → P turn
  serves seat (Fsync path) up free passes thawed served = begins_fsync seat path up free (walk state.live path) refl thawed served
  serves seat Sync up free passes thawed served = begins_check seat Sync plan.Sync up served
  serves seat (Create path) up free passes thawed served = serves_other seat (Create path) up passes thawed served
  serves seat (Mkdir path) up free passes thawed served = serves_other seat (Mkdir path) up passes thawed served
  serves seat (Write path pieces) up free passes thawed served = serves_other seat (Write path pieces) up passes thawed served
  serves seat (Truncate path size) up free passes thawed served = serves_other seat (Truncate path size) up passes thawed served
  serves seat (Unlink path) up free passes thawed served = serves_other seat (Unlink path) up passes thawed served
  serves seat (Rmdir path) up free passes thawed served = serves_other seat (Rmdir path) up passes thawed served
  serves seat (Rename from to) up free passes thawed served = serves_other seat (Rename from to) up passes thawed served
  serves seat (Read path off len) up free passes thawed served = serves_other seat (Read path off len) up passes thawed served
  serves seat (ListNames path) up free passes thawed served = serves_other seat (ListNames path) up passes thawed served

  begin : (seat : ℕ) (request : Request) → StepBegin limits faults state seat request turn → P turn
  begin seat request begun =
      by_bool (not (is_up state.mode)) (λ _ e. is _ (h.still _) e)
      (λ open_now. by_bool (nat_le Step.MOST_ENTRIES state.entries) (λ _ e. is _ (h.still _) e)
      (λ _. by_option (Step.barring_seat state seat)
      (λ free. by_option (refusal limits state.live request)
      (λ passes. by_option (Step.freezing state request)
      (λ thawed. serves seat request (shown (is_up state.mode) open_now) free passes thawed)
      (λ by _ e. is _ (h.still _) e))
      (λ refused _ e. is _ (h.told seat request refused) e))
      (λ by _ e. is _ (h.still _) e))) begun

  part : (seat ino : ℕ) (progress : Progress) (at : Part) → IsAtPart state seat ino progress at → StepPart faults state seat ino progress at turn → P turn
  part seat ino progress InPages here stepped =
      by_option (least_of state.dirty_pages ino)
      (λ none. flushes seat step_failed _ (h.flushed seat ino progress here none))
      (λ page one. writes seat step_failed _ (h.page seat ino progress page here one)) stepped
  part seat ino progress InNodes here stepped =
      by_option (least_of state.dirty_nodes ino)
      (λ none. by_option (map.get state.live ino) (λ _ never. absurd never)
      (λ row there e. is _ (h.mark seat ino progress row here none there) e))
      (λ offset one e. is _ (h.node seat ino progress offset here one) e) stepped
  part seat ino progress Marked here stepped =
      by_option (gap_below state progress.position)
      (λ none. flushes seat step_failed _ (h.acks seat ino progress here none))
      (λ position _ e. is _ (h.still _) e) stepped

  fsync : (seat ino : ℕ) (progress : Progress) → map.get state.flights seat ≡ Some (InFsync ino progress) → is_shut state.mode ≡ false → StepFsync faults state seat ino progress turn → P turn
  fsync seat ino progress there open_now stepped =
      by_option progress.slot
      (λ none. part seat ino progress progress.part (record { there = there; open_now = open_now; no_slot = none; part = refl }))
      (λ slot _. writes seat step_failed _ (h.submits seat ino progress slot there)) stepped

  check : (seat : ℕ) (plan : Plan) → map.get state.flights seat ≡ Some (InCheck plan) → StepCheck faults state seat plan turn → P turn
  check seat plan there stepped =
      by_option state.pending
      (λ none. by_either
      (by_either (writes seat step_failed _ (h.still _)) (flushes seat step_failed _ (h.still _)))
      (writes seat step_failed _ (h.tail seat plan there none)))
      (λ tree _. flushes seat step_failed _ (h.done seat plan there)) stepped

  flight : (seat : ℕ) (one : Flight) → map.get state.flights seat ≡ Some one → is_shut state.mode ≡ false → StepFlight faults state seat one turn → P turn
  flight seat (InFsync ino progress) there open_now stepped = fsync seat ino progress there open_now stepped
  flight seat (InCheck plan) there open_now stepped = check seat plan there stepped

  go : (seat : ℕ) → Step.StepGo faults state seat turn → P turn
  go seat stepped =
      by_option (map.get state.flights seat) (λ _ e. is _ (h.still _) e)
      (λ one there. by_bool (is_shut state.mode) (λ shut e. is _ (h.leaves seat shut) e) (λ open_now. flight seat one there open_now)) stepped

  ticks_page : (page : ℕ × ℕ) → Step.TicksPage limits faults state page turn → P turn
  ticks_page page stepped = by_bool (Step.has_data_room limits state) (λ _. writes NO_SEAT _ _ (h.ticks_page page)) (λ _ e. is _ (h.still _) e) stepped

  ticks_node : (node : ℕ × ℕ) → Step.TicksNode limits faults state node turn → P turn
  ticks_node node stepped = by_bool (Step.has_node_room limits state) (λ _. writes NO_SEAT _ _ (h.ticks_node node)) (λ _ e. is _ (h.still _) e) stepped

  ticks : Step.StepTick limits faults state turn → P turn
  ticks stepped =
      by_bool (not (is_up state.mode)) (λ _ e. is _ (h.still _) e)
      (λ _. by_bool (nat_le Step.MOST_ENTRIES state.entries) (λ _ e. is _ (h.still _) e)
      (λ _. by_bool (is_some (Step.checking_seat state)) (λ _ e. is _ (h.still _) e)
      (λ _. by_bool (Step.is_clean state) (λ _ e. is _ (h.still _) e)
      (λ _. by_option (least_thawed state state.dirty_pages)
      (λ _. by_option (least_thawed state state.dirty_nodes) (λ _ e. is _ (h.still _) e) (λ node _. ticks_node node))
      (λ page _. ticks_page page))))) stepped

  finds_marks : FindsMarks state turn → P turn
  finds_marks one = is _ (h.finds (base_up_to state one.0) 0 (inl (one.0, one.1, one.2, refl))) one.3

  finds_pending : FindsPending state turn → P turn
  finds_pending one = by_option state.pending (λ _ never. absurd never) (λ tree there e. is _ (h.finds (pending_with state tree) 1 (inr (tree, there, refl))) e) one

  mount_fails : (refused : MountRefusal) (call : CallKind) → MountFails faults state refused call turn → P turn
  mount_fails refused call failed = is _ (h.fails NO_SEAT call (NotMounted refused) (unchanged state (NotMounted refused)) (h.still _)) failed.1

  mount : StepMount faults state turn → P turn
  mount stepped = by_bool (not (is_shut state.mode)) (λ _ e. is _ (h.still _) e) (λ _. mounting) stepped
    where
      mounting : FindsMarks state turn ⊎ FindsPending state turn ⊎ MountFails faults state ReadFailed kind.Read turn ⊎ MountFails faults state WriteFailed kind.Flush turn ⊎ (turn ≡ unchanged state (NotMounted BadImage)) ⊎ (turn ≡ unchanged state (NotMounted NoMemory)) → P turn
      mounting (inl one) = finds_marks one
      mounting (inr (inl one)) = finds_pending one
      mounting (inr (inr (inl failed))) = mount_fails ReadFailed kind.Read failed
      mounting (inr (inr (inr (inl failed)))) = mount_fails WriteFailed kind.Flush failed
      mounting (inr (inr (inr (inr (inl e))))) = is _ (h.still _) e
      mounting (inr (inr (inr (inr (inr e))))) = is _ (h.still _) e

  close : (format : Format) → Step.StepClose state format turn → P turn
  close format stepped =
      by_bool (not (is_up state.mode)) (λ _ e. is _ (h.still _) e)
      (λ open_now. by_option (Step.least_in_flight state)
      (λ none e. is _ (h.closes format (record { up = shown (is_up state.mode) open_now; nobody = none })) e)
      (λ by _ e. is _ (h.still _) e)) stepped

  pub step_handled : (event : Event) → Step.Step limits faults state event turn → P turn
  step_handled (Begin seat request) stepped = by_either (begin seat request) (is _ (h.still _)) stepped.1
  step_handled (Go seat) stepped = go seat stepped
  step_handled Tick stepped = ticks stepped
  step_handled Mount stepped = mount stepped
  step_handled Unmount stepped = by_either (close state.format) (is _ (h.still _)) stepped
  step_handled Upgrade stepped = by_either (close Two) (is _ (h.still _)) stepped
  step_handled Crash stepped = is _ h.crashes stepped
