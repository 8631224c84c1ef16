-- No event but the flusher's answers as one of the flusher.
use Rattle.std.proofs.Common.{◌≡◌, ◌⊎◌, inl, inr, ℕ, Bool, true, false, not, nat_le, List, [], refl, ap, ◌∙◌, true≢false}
use Rattle.std.specs.Prelude.{Option, Some, None, Result, Ok, Err, MatchOption}
use Rattle.std.specs.Bool.{MatchBool}
use Rattle.std.specs.FinMap as map
use Rattle.f2_model.specs.Tree.{walk}
use Rattle.f2_model.specs.Call.{refusal, effect, space_refusal}
use Rattle.f2_model.specs.State.{State, Part, InPages, InNodes, Marked, Progress, Flight, InFsync, InCheck}
use Rattle.f2_model.specs.Fallback.{fallback}
use Rattle.f2_model.specs.Step
use Rattle.f2_model.specs.Step.{Faults, Turn, Writes, Flushes, StepBegin, Serves, BeginsFsync, BeginsCheck, TakesEffect, ReadFails, StepPart, StepFsync, StepCheck, StepFlight, StepMount, FindsPending, told_at_once, adds_row, least_of, gap_below, is_up, is_shut, step_failed}
use Rattle.f2_model.specs.declared.bounds.Limits.{Limits}
use Rattle.f2_model.specs.declared.events.Event.{Event}
use Rattle.f2_model.specs.declared.events.Event.TheVariants.{Begin, Go, Tick, Mount, Unmount, Upgrade, Crash}
use Rattle.f2_model.specs.declared.events.Answer.{Answer}
use Rattle.f2_model.specs.declared.events.Answer.TheVariants.{Ticked}
use Rattle.f2_model.specs.declared.modes.Format.{Format}
use Rattle.f2_model.specs.declared.modes.Format.TheVariants.{Two}
use Rattle.f2_model.specs.declared.replies.Plan.{Plan}
use Rattle.f2_model.specs.declared.replies.Plan.TheVariants as plan
use Rattle.f2_model.specs.declared.replies.Reply.{Reply}
use Rattle.f2_model.specs.declared.requests.Request.{Request}
use Rattle.f2_model.specs.declared.requests.Request.TheVariants.{Create, Mkdir, Write, Truncate, Unlink, Rmdir, Rename, Read, List as ListNames, Fsync, Sync}
use Rattle.f2_model.specs.declared.rows.Row.{Row}

-- whether an answer is one of the flusher, and an event is its
abbrev pub is_ticked : Answer → Bool
is_ticked (Ticked tick) = true
is_ticked _ = false

abbrev pub is_tick : Event → Bool
is_tick Tick = true
is_tick _ = false

by_bool : {P Q G : Type 0} (b : Bool) → (P → G) → (Q → G) → MatchBool b P Q → G
by_bool true p q h = p h
by_bool false p q h = q h

by_option : {A G P : Type 0} {Q : A → Type 0} (o : Option A) → (P → G) → ((a : A) → Q a → G) → MatchOption o P Q → G
by_option None p q h = p h
by_option (Some a) p q h = q a h

by_either : {A B G : Type 0} → (A → G) → (B → G) → A ⊎ B → G
by_either f g (inl a) = f a
by_either f g (inr b) = g b

module _ (limits : Limits) (faults : Faults) (state : State) (turn : Turn) where
  abbrev Other : Type 0
  Other = is_ticked turn.answer ≡ false

  is : (so : Turn) → turn ≡ so → is_ticked so.answer ≡ false → Other
  is so e other = ap (λ (t : Turn). is_ticked t.answer) e ∙ other

  writes : (seat : ℕ) (failed : Answer) (so : Turn) → is_ticked failed ≡ false → is_ticked so.answer ≡ false → Writes faults seat failed so turn → Other
  writes seat failed so fails other (inl e) = is so e other
  writes seat failed so fails other (inr e) = is _ e.1 fails

  flushes : (seat : ℕ) (failed : Answer) (so : Turn) → is_ticked failed ≡ false → is_ticked so.answer ≡ false → Flushes faults state seat failed so turn → Other
  flushes seat failed so fails other (inl e) = is so e other
  flushes seat failed so fails other (inr e) = is _ e.1 fails

  takes_effect : (seat : ℕ) (request : Request) → TakesEffect limits state seat request turn → Other
  takes_effect seat request taken = by_bool (adds_row request) (λ one. is _ one.2 refl) (λ e. is _ e refl) taken

  serves_other : (seat : ℕ) (request : Request) → MatchOption (space_refusal limits (effect state.live request limits.nids)) (TakesEffect limits state seat request turn ⊎ ReadFails faults state seat request turn) (λ refused. turn ≡ told_at_once state seat request refused [] state) → Other
  serves_other seat request served =
      by_option (space_refusal limits (effect state.live request limits.nids))
      (by_either (takes_effect seat request) (λ failed. is _ failed.1 refl))
      (λ refused e. is _ e refl) served

  begins_check : (seat : ℕ) (request : Request) (plan : Plan) → BeginsCheck state seat request plan turn → Other
  begins_check seat request plan begun = by_option (Step.least_in_flight state) (λ e. is _ e refl) (λ by e. is _ e refl) begun

  begins_fsync : (seat : ℕ) (path : List (List ℕ)) (end : Result Row Reply) → BeginsFsync limits state seat (Fsync path) end turn → Other
  begins_fsync seat path (Err refused) e = is _ e refl
  begins_fsync seat path (Ok row) begun = by_option (fallback limits state row) (λ e. is _ e refl) (λ reason. begins_check seat (Fsync path) (plan.Cp reason)) begun

  serves : (seat : ℕ) (request : Request) → Serves limits faults state seat request turn → Other
  serves seat (Fsync path) served = begins_fsync seat path (walk state.live path) served
  serves seat Sync served = begins_check seat Sync plan.Sync served
  serves seat (Create path) served = serves_other seat (Create path) served
  serves seat (Mkdir path) served = serves_other seat (Mkdir path) served
  serves seat (Write path pieces) served = serves_other seat (Write path pieces) served
  serves seat (Truncate path size) served = serves_other seat (Truncate path size) served
  serves seat (Unlink path) served = serves_other seat (Unlink path) served
  serves seat (Rmdir path) served = serves_other seat (Rmdir path) served
  serves seat (Rename from to) served = serves_other seat (Rename from to) served
  serves seat (Read path off len) served = serves_other seat (Read path off len) served
  serves seat (ListNames path) served = serves_other seat (ListNames path) served

  begin : (seat : ℕ) (request : Request) → StepBegin limits faults state seat request turn → Other
  begin seat request begun =
      by_bool (not (is_up state.mode)) (λ e. is _ e refl)
      (by_bool (nat_le Step.MOST_ENTRIES state.entries) (λ e. is _ e refl)
      (by_option (Step.barring_seat state seat)
      (by_option (refusal limits state.live request)
      (by_option (Step.freezing state request) (serves seat request) (λ by e. is _ e refl))
      (λ refused e. is _ e refl))
      (λ by e. is _ e refl))) begun

  part : (seat ino : ℕ) (progress : Progress) (at : Part) → StepPart faults state seat ino progress at turn → Other
  part seat ino progress InPages stepped = by_option (least_of state.dirty_pages ino) (flushes seat step_failed _ refl refl) (λ page. writes seat step_failed _ refl refl) stepped
  part seat ino progress InNodes stepped =
      by_option (least_of state.dirty_nodes ino)
      (by_option (map.get state.live ino) (λ never. absurd never) (λ row e. is _ e refl))
      (λ offset e. is _ e refl) stepped
  part seat ino progress Marked stepped = by_option (gap_below state progress.position) (flushes seat step_failed _ refl refl) (λ position e. is _ e refl) stepped

  fsync : (seat ino : ℕ) (progress : Progress) → StepFsync faults state seat ino progress turn → Other
  fsync seat ino progress stepped = by_option progress.slot (part seat ino progress progress.part) (λ slot. writes seat step_failed _ refl refl) stepped

  check : (seat : ℕ) (plan : Plan) → StepCheck faults state seat plan turn → Other
  check seat plan stepped =
      by_option state.pending
      (by_either (by_either (writes seat step_failed _ refl refl) (flushes seat step_failed _ refl refl)) (writes seat step_failed _ refl refl))
      (λ tree. flushes seat step_failed _ refl refl) stepped

  flight : (seat : ℕ) (one : Flight) → StepFlight faults state seat one turn → Other
  flight seat (InFsync ino progress) stepped = fsync seat ino progress stepped
  flight seat (InCheck plan) stepped = check seat plan stepped

  go : (seat : ℕ) → Step.StepGo faults state seat turn → Other
  go seat stepped = by_option (map.get state.flights seat) (λ e. is _ e refl) (λ one. by_bool (is_shut state.mode) (λ e. is _ e refl) (flight seat one)) stepped

  finds_pending : FindsPending state turn → Other
  finds_pending one = by_option state.pending (λ never. absurd never) (λ tree e. is _ e refl) one

  mount : StepMount faults state turn → Other
  mount stepped =
      by_bool (not (is_shut state.mode)) (λ e. is _ e refl)
      (by_either (λ one. is _ one.3 refl)
      (by_either finds_pending
      (by_either (λ failed. is _ failed.1 refl)
      (by_either (λ failed. is _ failed.1 refl)
      (by_either (λ e. is _ e refl) (λ e. is _ e refl)))))) stepped

  close : (format : Format) → Step.StepClose state format turn → Other
  close format stepped = by_bool (not (is_up state.mode)) (λ e. is _ e refl) (by_option (Step.least_in_flight state) (λ e. is _ e refl) (λ by e. is _ e refl)) stepped

  pub not_ticked : (event : Event) → is_tick event ≡ false → Step.Step limits faults state event turn → Other
  not_ticked (Begin seat request) other stepped = by_either (begin seat request) (λ e. is _ e refl) stepped.1
  not_ticked (Go seat) other stepped = go seat stepped
  not_ticked Tick other stepped = absurd (true≢false other)
  not_ticked Mount other stepped = mount stepped
  not_ticked Unmount other stepped = by_either (close state.format) (λ e. is _ e refl) stepped
  not_ticked Upgrade other stepped = by_either (close Two) (λ e. is _ e refl) stepped
  not_ticked Crash other stepped = is _ stepped refl
