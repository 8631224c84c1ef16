-- The row of a file in fsync stays.
use Rattle.std.proofs.Common.{◌≡◌, ℕ, List, [], ◌∷◌, refl, sym, ap, ◌∙◌}
use Rattle.std.specs.Prelude.{Some}
use Rattle.std.specs.Ordering.{nat_cmp}
use Rattle.std.specs.FinMap as map
use Rattle.f2_model.specs.Call.{effect}
use Rattle.f2_model.specs.State.{State, Progress, InFsync, InCheck, initial}
use Rattle.f2_model.specs.Step.{Faults, Turn, MOUNT_SEAT, closed_by_fault}
use Rattle.f2_model.specs.Run.{Happening, Happened}
use Rattle.f2_model.specs.declared.bounds.Limits.{Limits}
use Rattle.f2_model.specs.declared.events.Answer.{Answer}
use Rattle.f2_model.specs.declared.histories.CallKind.{CallKind}
use Rattle.f2_model.specs.declared.replies.Plan.TheVariants as plan
use Rattle.f2_model.specs.declared.requests.Request.{Request}
use Rattle.f2_model.specs.declared.rows.Row.{Row}
use Rattle.f2_model.specs.declared.rows.Kind.TheVariants.{Regular}
use Rattle.f2_laws.specs.Flights.{IsFrozen}
use Rattle.f2_laws.proofs.Passed.{passed}
use Rattle.f2_laws.proofs.Flying.{Idle, after_left, frozen_check, nobody_yet}
use Rattle.f2_laws.proofs.Cases.{IsServed, Handles, step_handled}
use Rattle.f2_room_laws.specs.ProperStates.{IsProperState}
use Rattle.f2_room_laws.specs.Staying.{StaysInFsync, RowsStayInFsync}
use Rattle.f2_room_laws.proofs.Effects.{effect_keeps}
use Rattle.f2_room_laws.proofs.Modes.{where_up}
use Rattle.f2_room_laws.proofs.States.{Rolls, initial_proper}
use Rattle.f2_room_laws.proofs.Events.{events_keep_states_proper}
use Rattle.f2_room_laws.proofs.Runs.{runs_proper}

module _ (limits : Limits) (faults : Faults) (state : State) (h : IsProperState limits state) (seat ino : ℕ) (progress : Progress) (there : map.get state.flights seat ≡ Some (InFsync ino progress)) where
  -- where the seat still has the file in fsync, its row is the same
  abbrev Stays : Turn → Type 0
  Stays turn = (after : Progress) → map.get turn.after.flights seat ≡ Some (InFsync ino after) → map.get turn.after.live ino ≡ map.get state.live ino

  frozen_row : Rolls limits state → (at : ℕ) → IsFrozen state.flights at → (row : Row) × (map.get state.live at ≡ Some row) × (row.kind ≡ Regular)
  frozen_row rolling at frozen = let r = rolling.files at frozen in (r.row, r.there, r.regular)

  calls : (request : Request) (new : ℕ) → IsServed limits state request new → map.get (effect state.live request new) ino ≡ map.get state.live ino
  calls request new served =
      let rolling = where_up state.mode (Idle state.flights) (Rolls limits state) served.up h.mode in
      let keeps = effect_keeps limits state h.live.good (frozen_row rolling) new request (λ adds. (served.free adds).no_row) (passed limits state.live request served.passes) served.thawed in
      keeps.frozen ino (seat, (progress, there))

  not_found : (at : ℕ) (after : Progress) → map.get {R = nat_cmp} (map.insert map.empty MOUNT_SEAT (InCheck plan.Sync)) at ≡ Some (InFsync ino after) → ⊥
  not_found at after found =
      let frozen = frozen_check map.empty MOUNT_SEAT plan.Sync ino (at, (after, found)) in
      nobody_yet frozen.0 (InFsync ino frozen.1.0) frozen.1.1

  fails : (by : ℕ) (call : CallKind) (failed : Answer) (meant : Turn) → Stays meant → Stays (closed_by_fault faults by call failed meant)
  fails by call failed meant stays after found = stays after (after_left meant.after.flights by seat (InFsync ino after) found).1

  handles : Handles limits faults state Stays
  handles = record {
    still = λ answer after found. refl;
    told = λ by request refused after found. refl;
    unread = λ by request after found. refl;
    calls = λ by request new choices served after found. calls request new served;
    checks = λ by request plan free after found. refl;
    rolls = λ by path row rolls after found. refl;
    leaves = λ by shut after found. refl;
    submits = λ by file before slot there after found. refl;
    page = λ by file before page here is after found. refl;
    flushed = λ by file before here none after found. refl;
    node = λ by file before offset here is after found. refl;
    mark = λ by file before row here none there after found. refl;
    acks = λ by file before here gap after found. refl;
    tail = λ by plan there none after found. refl;
    done = λ by plan there after found. refl;
    ticks_page = λ page after found. refl;
    ticks_node = λ node after found. refl;
    finds = λ meaning choice remains after found. absurd (not_found seat after found);
    closes = λ format free after found. refl;
    crashes = λ after found. refl;
    fails = fails;
  }

happened_stays : (limits : Limits) (faults : Faults) (events : List Happening) (state to : State) (seat ino : ℕ) (progress : Progress) → IsProperState limits state → map.get state.flights seat ≡ Some (InFsync ino progress) → Happened limits faults state events to → StaysInFsync seat ino events → map.get to.live ino ≡ map.get state.live ino
happened_stays limits faults [] state to seat ino progress proper there h stays = ap (λ (s : State). map.get s.live ino) (sym h.1)
happened_stays limits faults (one ∷ rest) state to seat ino progress proper there h stays =
    let next = stays.0 in
    let after_proper = events_keep_states_proper limits one.faults state one.event one.turn h.2 proper in
    let first = step_handled limits one.faults state (λ turn. (after : Progress) → map.get turn.after.flights seat ≡ Some (InFsync ino after) → map.get turn.after.live ino ≡ map.get state.live ino) (handles limits one.faults state proper seat ino progress there) one.turn one.event h.2 in
    happened_stays limits _ rest one.turn.after to seat ino next.0 after_proper next.1 h.3 stays.1 ∙ first next.0 next.1

pub rows_stay : RowsStayInFsync
rows_stay limits faults later meaning entries choices state to events seat ino progress proper run =
    happened_stays limits later events state to seat ino progress (runs_proper limits faults (initial meaning) entries choices state (initial_proper limits meaning proper) run)
