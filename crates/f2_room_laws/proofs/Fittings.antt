-- Each event leaves the marks of a state fitting.
use Rattle.std.proofs.Common.{◌≡◌, ◌⊎◌, inl, inr, ℕ, Bool, true, false, List, [], ◌∷◌, ◌++◌, All, Contains, take, length, sym, ap, subst, ◌∙◌, arith, true≢false}
use Rattle.std.specs.Prelude.{Some, None}
use Rattle.std.specs.FinMap as map
use Rattle.std.proofs.lemmas.List.{take_all, take-append-drop}
use Rattle.std.proofs.lemmas.List.Elements.{All-nil, All-push, All-take, Contains-push_cases, Contains-append_left}
use Rattle.f2_model.specs.Tree.{Rows}
use Rattle.f2_model.specs.Call.{effect}
use Rattle.f2_model.specs.State.{State, Mark, Meaning, MayRemain, Progress, fresh_progress, in_nodes, marked_at, DrawnNode, DrawnMark, InFsync, InCheck, rolled, initial}
use Rattle.f2_model.specs.Step.{Faults, MOUNT_SEAT, next_slot, is_up}
use Rattle.f2_model.specs.declared.bounds.Limits.{Limits}
use Rattle.f2_model.specs.declared.replies.Plan.{Plan}
use Rattle.f2_model.specs.declared.replies.Plan.TheVariants as plan
use Rattle.f2_model.specs.declared.requests.Request.{Request}
use Rattle.f2_model.specs.declared.rows.Row.{Row}
use Rattle.f2_model.specs.declared.rows.Kind.TheVariants.{Regular}
use Rattle.f2_model.specs.Run.{IsRun}
use Rattle.f2_model.specs.declared.histories.Entry.{Entry}
use Rattle.f2_model.specs.declared.modes.Format.{Format}
use Rattle.f2_laws.specs.Flights.{Flights, IsFrozen}
use Rattle.f2_laws.proofs.Walks.{some_same, walk_ends}
use Rattle.f2_laws.proofs.Passed.{passed}
use Rattle.f2_laws.proofs.Flying.{Idle, frozen_more, frozen_left, frozen_check, frozen_part, idle_after_check, nobody_yet}
use Rattle.f2_laws.proofs.Dirtied.{dirty_only}
use Rattle.f2_laws.proofs.Cases.{IsServed, RollsForward, Handles, step_handled}
use Rattle.f2_laws.proofs.Runs.{runs_keep}
use Rattle.f2_room_laws.specs.ProperTrees.{IsProperTree, HasRoomForRoot}
use Rattle.f2_room_laws.specs.ProperStates.{IsProperState}
use Rattle.f2_room_laws.specs.Running.{just_made}
use Rattle.f2_room_laws.specs.Fitting.{FitsBase, NamesDiffer, AreFitting, MayBeMarked, IsBased, GoTogether, IsFittingState, InitialIsFitting, EventsKeepStatesFitting, FittingStatesFit, MarksFit}
use Rattle.f2_room_laws.proofs.Effects.{effect_keeps}
use Rattle.f2_room_laws.proofs.Modes.{where_up}
use Rattle.f2_room_laws.proofs.States.{Rolls, initial_proper}
use Rattle.f2_room_laws.proofs.Events.{events_keep_states_proper}
use Rattle.f2_room_laws.proofs.BareTree.{bare_proper}
use Rattle.f2_room_laws.proofs.Marked.{may_be_marked}

abbrev Together : Limits → State → Type 0
Together limits state = GoTogether limits state.live state.base state.marks state.flights (is_up state.mode)

-- no file is in fsync while a mount's checkpoint is alone
none_found : (ino : ℕ) → IsFrozen (map.insert map.empty MOUNT_SEAT (InCheck plan.Sync)) ino → ⊥
none_found ino frozen =
    let before = frozen_check map.empty MOUNT_SEAT plan.Sync ino frozen in
    nobody_yet before.0 (InFsync ino before.1.0) before.1.1

no_marks : (limits : Limits) (base : Rows) → All (FitsBase limits base) []
no_marks limits base = All-nil (FitsBase limits base)

no_names : NamesDiffer []
no_names one other found also parent name = absurd (omega (arith, found.1))

-- fewer marks differ still
fewer_names : (k : ℕ) (marks : List Mark) → NamesDiffer marks → NamesDiffer (take k marks)
fewer_names k marks differ one other found also parent name = differ one other (among one found) (among other also) parent name
  where
    among : (mark : Mark) → Contains (take k marks) mark → Contains marks mark
    among mark found = subst (λ (ms : List Mark). Contains ms mark) (take-append-drop k marks) (Contains-append_left (take k marks) _ mark found)

module _ (limits : Limits) (faults : Faults) (state : State) (proper : IsProperState limits state) (h : Together limits state) where
  -- fewer files are in fsync, or the volume is closed
  fewer : (left : Flights) (open_now : Bool) → ((ino : ℕ) → IsFrozen left ino → IsFrozen state.flights ino) → (open_now ≡ true → is_up state.mode ≡ true) → GoTogether limits state.live state.base state.marks left open_now
  fewer left open_now frozen still = record { fits = h.fits; names = h.names; files = λ ino one. h.files ino (frozen ino one); based = λ now. h.based (still now) }

  left : (seat : ℕ) → GoTogether limits state.live state.base state.marks (map.remove state.flights seat) (is_up state.mode)
  left seat = fewer (map.remove state.flights seat) (is_up state.mode) (frozen_left state.flights seat) (λ now. now)

  checks : (seat : ℕ) (plan : Plan) → GoTogether limits state.live state.base state.marks (map.insert state.flights seat (InCheck plan)) (is_up state.mode)
  checks seat plan = fewer (map.insert state.flights seat (InCheck plan)) (is_up state.mode) (frozen_check state.flights seat plan) (λ now. now)

  goes_on : (seat ino : ℕ) (progress next : Progress) → map.get state.flights seat ≡ Some (InFsync ino progress) → GoTogether limits state.live state.base state.marks (map.insert state.flights seat (InFsync ino next)) (is_up state.mode)
  goes_on seat ino progress next there = fewer (map.insert state.flights seat (InFsync ino next)) (is_up state.mode) (frozen_part state.flights seat ino progress next there) (λ now. now)

  rolling : is_up state.mode ≡ true → Rolls limits state
  rolling up = where_up state.mode (Idle state.flights) (Rolls limits state) up proper.mode

  -- a call leaves the rows of files in fsync
  frozen_row : is_up state.mode ≡ true → (at : ℕ) → IsFrozen state.flights at → (row : Row) × (map.get state.live at ≡ Some row) × (row.kind ≡ Regular)
  frozen_row up at frozen = let r = (rolling up).files at frozen in (r.row, r.there, r.regular)

  called : (request : Request) (ino : ℕ) → IsServed limits state request ino → GoTogether limits (effect state.live request ino) state.base state.marks state.flights (is_up state.mode)
  called request ino served =
      let keeps = effect_keeps limits state proper.live.good (frozen_row served.up) ino request (λ adds. (served.free adds).no_row) (passed limits state.live request served.passes) served.thawed in
      record {
        fits = h.fits;
        names = h.names;
        files = λ at frozen. (let file = h.files at frozen in record { row = file.row; there = keeps.frozen at frozen ∙ file.there; fits = file.fits; apart = file.apart });
        based = h.based;
      }

  begun : (seat : ℕ) (path : List (List ℕ)) (row : Row) → RollsForward limits state seat path row → GoTogether limits state.live state.base state.marks (map.insert state.flights seat (InFsync row.ino fresh_progress)) (is_up state.mode)
  begun seat path row rolls = record { fits = h.fits; names = h.names; files = λ at frozen. by_file at (frozen_more state.flights seat row.ino fresh_progress at frozen); based = h.based }
    where
      there : map.get state.live row.ino ≡ Some row
      there = (walk_ends limits.size state.live proper.live.good path row rolls.leads).there

      by_file : (at : ℕ) → (at ≡ row.ino) ⊎ IsFrozen state.flights at → MayBeMarked limits state.live state.base state.marks at
      by_file at (inl same) =
          subst (MayBeMarked limits state.live state.base state.marks) (sym same)
          (may_be_marked limits state proper.live (rolling rolls.up) h.fits (h.based rolls.up) row there rolls.rolls)
      by_file at (inr before) = h.files at before

  module _ (ino : ℕ) (row : Row) (frozen : IsFrozen state.flights ino) (there : map.get state.live ino ≡ Some row) where
    abbrev mark : Mark
    mark = record { ino = ino; row = row }

    abbrev more : List Mark
    more = state.marks ++ mark ∷ []

    mine : MayBeMarked limits state.live state.base state.marks ino
    mine = h.files ino frozen

    row_is : mine.row ≡ row
    row_is = some_same (sym mine.there ∙ there)

    mark_fits : FitsBase limits state.base mark
    mark_fits = subst (λ (r : Row). FitsBase limits state.base (record { ino = ino; row = r })) row_is mine.fits

    mark_apart : (one : Mark) → Contains state.marks one → one.row.parent ≡ row.parent → one.row.name ≡ row.name → one.ino ≡ ino
    mark_apart = subst (λ (r : Row). (one : Mark) → Contains state.marks one → one.row.parent ≡ r.parent → one.row.name ≡ r.name → one.ino ≡ ino) row_is mine.apart

    more_names : NamesDiffer more
    more_names one other found also parent name = by_place (Contains-push_cases state.marks mark one found) (Contains-push_cases state.marks mark other also)
      where
        by_place : Contains state.marks one ⊎ (mark ≡ one) → Contains state.marks other ⊎ (mark ≡ other) → one.ino ≡ other.ino
        by_place (inl p) (inl q) = h.names one other p q parent name
        by_place (inl p) (inr q) = mark_apart one p (parent ∙ ap (λ (m : Mark). m.row.parent) (sym q)) (name ∙ ap (λ (m : Mark). m.row.name) (sym q)) ∙ ap (λ (m : Mark). m.ino) q
        by_place (inr p) (inl q) =
            sym (mark_apart other q (sym parent ∙ ap (λ (m : Mark). m.row.parent) (sym p)) (sym name ∙ ap (λ (m : Mark). m.row.name) (sym p)) ∙ ap (λ (m : Mark). m.ino) p)
        by_place (inr p) (inr q) = ap (λ (m : Mark). m.ino) (sym p ∙ q)

    -- the new mark and a file in fsync have their names in the live tree
    more_files : (at : ℕ) → IsFrozen state.flights at → MayBeMarked limits state.live state.base more at
    more_files at held = record { row = file.row; there = file.there; fits = file.fits; apart = λ one found parent name. by_place one parent name (Contains-push_cases state.marks mark one found) }
      where
        file : MayBeMarked limits state.live state.base state.marks at
        file = h.files at held

        by_place : (one : Mark) → one.row.parent ≡ file.row.parent → one.row.name ≡ file.row.name → Contains state.marks one ⊎ (mark ≡ one) → one.ino ≡ at
        by_place one parent name (inl before) = file.apart one before parent name
        by_place one parent name (inr same) =
            ap (λ (m : Mark). m.ino) (sym same)
            ∙ proper.live.good.apart ino at row file.row there file.there mark_fits.not_root file.fits.not_root (ap (λ (m : Mark). m.row.parent) same ∙ parent) (ap (λ (m : Mark). m.row.name) same ∙ name)

    more_based : is_up state.mode ≡ true → IsBased limits state.base more
    more_based up =
        let before = h.based up in
        record { whole = before.whole; keyed = All-push (λ (mark : Mark). mark.row.ino ≡ mark.ino) state.marks mark before.keyed (proper.live.good.keyed ino row there) }

    marked : (seat : ℕ) (progress next : Progress) → map.get state.flights seat ≡ Some (InFsync ino progress) → GoTogether limits state.live state.base more (map.insert state.flights seat (InFsync ino next)) (is_up state.mode)
    marked seat progress next flies = record {
      fits = All-push (FitsBase limits state.base) state.marks mark h.fits mark_fits;
      names = more_names;
      files = λ at held. more_files at (frozen_part state.flights seat ino progress next flies at held);
      based = more_based;
    }

  -- a checkpoint is done
  completed : (seat : ℕ) (plan : Plan) (open_now : Bool) → map.get state.flights seat ≡ Some (InCheck plan) → GoTogether limits state.live state.live [] (map.remove state.flights seat) open_now
  completed seat plan open_now there = record {
    fits = no_marks limits state.live;
    names = no_names;
    files = λ ino frozen. absurd (idle_after_check state.flights seat plan proper.alone there ino frozen);
    based = λ up. record { whole = proper.live; keyed = All-nil (λ (mark : Mark). mark.row.ino ≡ mark.ino) };
  }

  -- what a mount finds
  found : (meaning : Meaning) → MayRemain state meaning → GoTogether limits (rolled meaning.base meaning.marks) meaning.base meaning.marks (map.insert map.empty MOUNT_SEAT (InCheck plan.Sync)) false
  found meaning remains = record { fits = by_meaning remains; names = names_of remains; files = λ ino frozen. absurd (none_found ino frozen); based = λ up. absurd (true≢false (sym up)) }
    where
      by_meaning : MayRemain state meaning → All (FitsBase limits meaning.base) meaning.marks
      by_meaning (inl some) = subst (λ (m : Meaning). All (FitsBase limits m.base) m.marks) (sym some.3) (All-take (FitsBase limits state.base) some.0 state.marks h.fits)
      by_meaning (inr tree) = subst (λ (m : Meaning). All (FitsBase limits m.base) m.marks) (sym tree.2) (no_marks limits tree.0)

      names_of : MayRemain state meaning → NamesDiffer meaning.marks
      names_of (inl some) = subst (λ (m : Meaning). NamesDiffer m.marks) (sym some.3) (fewer_names some.0 state.marks h.names)
      names_of (inr tree) = subst (λ (m : Meaning). NamesDiffer m.marks) (sym tree.2) no_names

  handles : Handles limits faults state (λ turn. Together limits turn.after)
  handles = record {
    still = λ answer. h;
    told = λ seat request refused. h;
    unread = λ seat request. h;
    calls = λ seat request ino choices served. dirty_only (λ (s : State). GoTogether limits (effect state.live request ino) s.base s.marks s.flights (is_up s.mode)) state (λ pages nodes moved shrunk. called request ino served) (effect state.live request ino) request;
    checks = λ seat request plan free. checks seat plan;
    rolls = λ seat path row rolls. begun seat path row rolls;
    leaves = λ seat shut. left seat;
    submits = λ seat ino progress slot there. goes_on seat ino progress (record progress { slot = None }) there;
    page = λ seat ino progress page here is. h;
    flushed = λ seat ino progress here none. goes_on seat ino progress (in_nodes None) here.there;
    node = λ seat ino progress offset here is. goes_on seat ino progress (in_nodes (Some (next_slot state (DrawnNode offset)))) here.there;
    mark = λ seat ino progress row here none there. marked ino row (seat, (progress, here.there)) there seat progress (marked_at (length state.marks) state.node_writes (Some (next_slot state DrawnMark))) here.there;
    acks = λ seat ino progress here gap. left seat;
    tail = λ seat plan there none. h;
    done = λ seat plan there. completed seat plan _ there;
    ticks_page = λ page. h;
    ticks_node = λ node. h;
    finds = λ meaning choice remains. found meaning remains;
    closes = λ format free. checks MOUNT_SEAT plan.Sync;
    crashes = fewer map.empty false (λ ino frozen. absurd (nobody_yet frozen.0 (InFsync ino frozen.1.0) frozen.1.1)) (λ now. absurd (true≢false (sym now)));
    fails = λ seat call failed meant holds. record {
      fits = holds.fits;
      names = holds.names;
      files = λ ino frozen. holds.files ino (frozen_left meant.after.flights seat ino frozen);
      based = λ now. absurd (true≢false (sym now));
    };
  }

pub events_keep_states_fitting : EventsKeepStatesFitting
events_keep_states_fitting limits faults state event turn step h = record {
  proper = events_keep_states_proper limits faults state event turn step h.proper;
  marks = step_handled limits faults state (λ turn. Together limits turn.after) (handles limits faults state h.proper h.marks) turn event step;
}

pub initial_fitting : InitialIsFitting
initial_fitting limits meaning fitting = record {
  proper = initial_proper limits meaning (subst (λ (ms : List Mark). IsProperTree limits (rolled meaning.base ms)) (take_all (length meaning.marks) meaning.marks (omega arith)) (fitting.trees (length meaning.marks) (omega arith) (omega arith)));
  marks = record {
    fits = fitting.base;
    names = fitting.names;
    files = λ ino frozen. absurd (nobody_yet frozen.0 (InFsync ino frozen.1.0) frozen.1.1);
    based = λ now. absurd (true≢false (sym now));
  };
}

pub fitting_fits : FittingStatesFit
fitting_fits limits state h = record { base = h.marks.fits; names = h.marks.names; trees = h.proper.remains }

-- a run of an image that was just made
pub runs_fitting : (limits : Limits) (faults : Faults) (format : Format) (version : ℕ) (entries : List Entry) (choices : List ℕ) (state : State) → HasRoomForRoot limits → IsRun limits faults (initial (just_made format version)) entries choices state → IsFittingState limits state
runs_fitting limits faults format version entries choices state room run =
    runs_keep limits (IsFittingState limits) (events_keep_states_fitting limits) faults (initial (just_made format version)) entries choices state (initial_fitting limits (just_made format version) bare_fits) run
  where
    bare_fits : AreFitting limits (initial (just_made format version))
    bare_fits = record { base = no_marks limits _; names = no_names; trees = λ place from to. subst (λ (ms : List Mark). IsProperTree limits (rolled (just_made format version).base ms)) (sym (take_all place [] (omega arith))) (bare_proper limits room) }

pub marks_fit : MarksFit
marks_fit limits faults format version entries choices state room run = fitting_fits limits state (runs_fitting limits faults format version entries choices state room run)
