-- What an fsync flushed or gave its position stays clean until it leaves.
use Rattle.std.proofs.Common.{◌≡◌, ◌≢◌, ℕ, Bool, true, false, ◌||◌, List, [], ◌∷◌, ◌++◌, length, refl, sym, ap, subst, ◌∙◌, true≢false}
use Rattle.std.specs.Prelude.{Some, None, Result, Ok, if◌then◌else◌, ◌==◌}
use Rattle.std.proofs.lemmas.Bool.{eqb-true}
use Rattle.std.specs.List.{list_any, filter}
use Rattle.std.specs.FinMap as map
use Rattle.std.specs.FinSet as set
use Rattle.f2_model.specs.Tree.{Rows, walk}
use Rattle.f2_model.specs.Call.{effect}
use Rattle.f2_model.specs.declared.bounds.Limits.{Limits}
use Rattle.f2_model.specs.State.{State, Meaning, Pairs, Part, InPages, InNodes, Marked, Progress, fresh_progress, in_nodes, marked_at, DrawnNode, DrawnMark, InFsync, InCheck, marked_dirty, dirtied, touched, removed, without_pairs, directs_of, has_direct, initial}
use Rattle.f2_model.specs.Step.{Faults, Turn, Step, MOUNT_SEAT, freezing, freezing_walked, freezing_seat, next_slot, least_of, mark_drawn, is_unmount}
use Rattle.f2_model.specs.declared.events.Event.{Event}
use Rattle.f2_model.specs.declared.rows.Row.{Row}
use Rattle.f2_model.specs.declared.requests.Request.{Request}
use Rattle.f2_model.specs.declared.requests.Request.TheVariants.{Create, Mkdir, Write, Truncate, Unlink, Rmdir, Rename, Read, List as ListNames, Fsync, Sync}
use Rattle.f2_model.specs.declared.replies.Reply.{Reply}
use Rattle.f2_model.specs.declared.replies.Plan.{Plan}
use Rattle.f2_model.specs.declared.replies.Plan.TheVariants as plan
use Rattle.f2_model.specs.declared.histories.Entry.TheVariants as entry
use Rattle.f2_laws.specs.Flights.{Flights, IsFrozen}
use Rattle.f2_laws.specs.Freezing.{IsClean, is_mark_of, IsMarkedClean, MarksAreClean}
use Rattle.f2_laws.proofs.Seats.{nobody, no_check, not_frozen, unbarred}
use Rattle.f2_laws.proofs.Flying.{Alone, alone_left, alone_check, alone_fsync, alone_part, nobody_yet}
use Rattle.f2_laws.proofs.EachFsync.{EachFsync, each_none, each_put, each_check, each_left, each_after_check}
use Rattle.f2_laws.proofs.Dirtied.{from_both_rows_only, from_row_only}
use Rattle.f2_laws.proofs.Clean.{clean_without, clean_without_ino, clean_without_all, clean_with_all, none_least}
use Rattle.f2_laws.proofs.Cases.{IsFree, IsAtPart, Handles, step_handled}
use Rattle.f2_laws.proofs.Telling.{PassesOver, Tells, telling}
use Rattle.f2_laws.proofs.Runs.{runs_keep}

-- what an fsync has done of its file at each part
abbrev Asks : Part → Pairs → Pairs → ℕ → Type 0
Asks InPages pages nodes ino = Unit {0}
Asks InNodes pages nodes ino = IsClean pages ino
Asks Marked pages nodes ino = IsClean pages ino × IsClean nodes ino

abbrev HasDone : Pairs → Pairs → ℕ → Progress → Type 0
HasDone pages nodes ino progress = Asks progress.part pages nodes ino

asks_still : (part : Part) (pages nodes pages_after nodes_after : Pairs) (ino : ℕ) → (IsClean pages ino → IsClean pages_after ino) → (IsClean nodes ino → IsClean nodes_after ino) → Asks part pages nodes ino → Asks part pages_after nodes_after ino
asks_still InPages pages nodes pages_after nodes_after ino f g h = tt
asks_still InNodes pages nodes pages_after nodes_after ino f g h = f h
asks_still Marked pages nodes pages_after nodes_after ino f g h = (f h.0, g h.1)

-- what every event keeps
record IsSettled (pages nodes : Pairs) (flights : Flights) : Type 0 where
  done : EachFsync (HasDone pages nodes) flights
  alone : Alone flights

abbrev Settled : State → Type 0
Settled state = IsSettled state.dirty_pages state.dirty_nodes state.flights

-- nothing gets dirty of a file in fsync
settled_still : (pages nodes pages_after nodes_after : Pairs) (flights : Flights) → ((ino : ℕ) → IsFrozen flights ino → IsClean pages ino → IsClean pages_after ino) → ((ino : ℕ) → IsFrozen flights ino → IsClean nodes ino → IsClean nodes_after ino) → IsSettled pages nodes flights → IsSettled pages_after nodes_after flights
settled_still pages nodes pages_after nodes_after flights f g h = record {
  done = λ seat ino progress there. asks_still progress.part pages nodes pages_after nodes_after ino (f ino (seat, (progress, there))) (g ino (seat, (progress, there))) (h.done seat ino progress there);
  alone = h.alone;
}

module _ (state : State) (h : Settled state) where
  -- a call changes a file that isn't in fsync
  elsewhere : (row : Row) → freezing_seat state row.ino ≡ None → (ino : ℕ) → IsFrozen state.flights ino → ino ≢ row.ino
  elsewhere row thawed ino frozen same = not_frozen state row.ino thawed (subst (IsFrozen state.flights) same frozen)

  settled_dirtied : (old new : Row) (now_touched now_removed : List ℕ) → freezing_seat state old.ino ≡ None → Settled (dirtied state old new now_touched now_removed)
  settled_dirtied old new now_touched now_removed thawed =
      let after = dirtied state old new now_touched now_removed in
      let lost = directs_of now_removed in
      settled_still state.dirty_pages state.dirty_nodes after.dirty_pages after.dirty_nodes state.flights
      (λ ino frozen clean. clean_with_all (without_pairs old.ino state.dirty_pages now_removed) ino old.ino now_touched (elsewhere old thawed ino frozen) (clean_without_all state.dirty_pages ino old.ino now_removed clean))
      (λ ino frozen clean. clean_with_all (without_pairs old.ino state.dirty_nodes lost) ino old.ino (filter (has_direct new) lost ++ directs_of now_touched) (elsewhere old thawed ino frozen) (clean_without_all state.dirty_nodes ino old.ino lost clean))
      h

  thawed_row : (end : Result Row Reply) (row : Row) → end ≡ Ok row → freezing_walked state end ≡ None → freezing_seat state row.ino ≡ None
  thawed_row end row leads none = sym (ap (freezing_walked state) leads) ∙ none

  settled_called : (request : Request) (after : Rows) → freezing state request ≡ None → Settled (marked_dirty state request after)
  settled_called (Write path pieces) after thawed =
      from_both_rows_only Settled state (walk state.live path) (walk after path) _ h
      (λ old new leads. settled_dirtied old new (touched old (Write path pieces)) (removed old (Write path pieces)) (thawed_row (walk state.live path) old leads thawed))
  settled_called (Truncate path size) after thawed =
      from_both_rows_only Settled state (walk state.live path) (walk after path) _ h
      (λ old new leads. settled_dirtied old new (touched old (Truncate path size)) (removed old (Truncate path size)) (thawed_row (walk state.live path) old leads thawed))
  settled_called (Unlink path) after thawed =
      from_row_only Settled state (walk state.live path) _ h
      (λ row leads. settled_still state.dirty_pages state.dirty_nodes _ _ state.flights (λ ino frozen clean. clean_without_ino state.dirty_pages ino clean row.ino) (λ ino frozen clean. clean_without_ino state.dirty_nodes ino clean row.ino) h)
  settled_called (Rename from to) after thawed = from_row_only Settled state (walk state.live from) _ h (λ row leads. h)
  settled_called (Create path) after thawed = h
  settled_called (Mkdir path) after thawed = h
  settled_called (Rmdir path) after thawed = h
  settled_called (Read path off len) after thawed = h
  settled_called (ListNames path) after thawed = h
  settled_called (Fsync path) after thawed = h
  settled_called Sync after thawed = h

module _ (limits : Limits) (faults : Faults) (state : State) (h : Settled state) where
  page_goes : (pair : ℕ × ℕ) → IsSettled (set.remove state.dirty_pages pair) state.dirty_nodes state.flights
  page_goes pair = settled_still state.dirty_pages state.dirty_nodes (set.remove state.dirty_pages pair) state.dirty_nodes state.flights (λ ino frozen clean. clean_without state.dirty_pages ino clean pair) (λ ino frozen clean. clean) h

  node_goes : (pair : ℕ × ℕ) → IsSettled state.dirty_pages (set.remove state.dirty_nodes pair) state.flights
  node_goes pair = settled_still state.dirty_pages state.dirty_nodes state.dirty_pages (set.remove state.dirty_nodes pair) state.flights (λ ino frozen clean. clean) (λ ino frozen clean. clean_without state.dirty_nodes ino clean pair) h

  -- pages are clean from the flush on
  flushed_pages : (seat ino : ℕ) (progress : Progress) → IsAtPart state seat ino progress InNodes → IsClean state.dirty_pages ino
  flushed_pages seat ino progress here = subst (λ part. Asks part state.dirty_pages state.dirty_nodes ino) here.part (h.done seat ino progress here.there)

  goes_on : (pages nodes : Pairs) → IsSettled pages nodes state.flights → (seat ino : ℕ) (progress next : Progress) → map.get state.flights seat ≡ Some (InFsync ino progress) → HasDone pages nodes ino next → IsSettled pages nodes (map.insert state.flights seat (InFsync ino next))
  goes_on pages nodes settled seat ino progress next there has = record {
    done = each_put (HasDone pages nodes) state.flights seat ino next has settled.done;
    alone = alone_part state.flights seat ino progress next there settled.alone;
  }

  checks : (seat : ℕ) (plan : Plan) → IsFree state → IsSettled state.dirty_pages state.dirty_nodes (map.insert state.flights seat (InCheck plan))
  checks seat plan free = record {
    done = each_check (HasDone state.dirty_pages state.dirty_nodes) state.flights seat plan h.done;
    alone = alone_check state.flights seat plan (nobody state free.nobody);
  }

  left : (seat : ℕ) → IsSettled state.dirty_pages state.dirty_nodes (map.remove state.flights seat)
  left seat = record { done = each_left (HasDone state.dirty_pages state.dirty_nodes) state.flights seat h.done; alone = alone_left state.flights seat h.alone }

  settled_handles : Handles limits faults state (λ turn. Settled turn.after)
  settled_handles = record {
    still = λ answer. h;
    told = λ seat request refused. h;
    unread = λ seat request. h;
    calls = λ seat request ino choices served. settled_called state h request (effect state.live request ino) served.thawed;
    checks = λ seat request plan free. checks seat plan free;
    rolls = λ seat path row rolls. record {
      done = each_put (HasDone state.dirty_pages state.dirty_nodes) state.flights seat row.ino fresh_progress tt h.done;
      alone = alone_fsync state.flights seat row.ino fresh_progress (no_check state (unbarred state seat rolls.unbarred));
    };
    leaves = λ seat shut. left seat;
    submits = λ seat ino progress slot there. goes_on state.dirty_pages state.dirty_nodes h seat ino progress (record progress { slot = None }) there (h.done seat ino progress there);
    page = λ seat ino progress page here is. page_goes (ino, page);
    flushed = λ seat ino progress here none. goes_on state.dirty_pages state.dirty_nodes h seat ino progress (in_nodes None) here.there (none_least state.dirty_pages ino none);
    node = λ seat ino progress offset here is. goes_on state.dirty_pages (set.remove state.dirty_nodes (ino, offset)) (node_goes (ino, offset)) seat ino progress (in_nodes (Some (next_slot state (DrawnNode offset)))) here.there (flushed_pages seat ino progress here);
    mark = λ seat ino progress row here none there. goes_on state.dirty_pages state.dirty_nodes h seat ino progress (marked_at (length state.marks) state.node_writes (Some (next_slot state DrawnMark))) here.there (flushed_pages seat ino progress here, none_least state.dirty_nodes ino none);
    acks = λ seat ino progress here gap. left seat;
    tail = λ seat plan there none. h;
    done = λ seat plan there. record { done = each_after_check (HasDone set.empty set.empty) state.flights seat plan h.alone there; alone = alone_left state.flights seat h.alone };
    ticks_page = λ page. page_goes (page.0, page.1);
    ticks_node = λ node. node_goes (node.0, node.1);
    finds = λ meaning choice remains. record { done = each_check (HasDone set.empty set.empty) map.empty MOUNT_SEAT plan.Sync (each_none (HasDone set.empty set.empty)); alone = alone_check map.empty MOUNT_SEAT plan.Sync nobody_yet };
    closes = λ format free. checks MOUNT_SEAT plan.Sync free;
    crashes = record { done = each_none (HasDone state.dirty_pages state.dirty_nodes); alone = λ seat other plan flight check found. absurd (nobody_yet seat (InCheck plan) check) };
    fails = λ seat call failed meant holds. record { done = each_left (HasDone meant.after.dirty_pages meant.after.dirty_nodes) meant.after.flights seat holds.done; alone = alone_left meant.after.flights seat holds.alone };
  }

keeps_settled : (limits : Limits) (faults : Faults) (state : State) (event : Event) (turn : Turn) → Step limits faults state event turn → Settled state → Settled turn.after
keeps_settled limits faults state event turn step h = step_handled limits faults state (λ turn. Settled turn.after) (settled_handles limits faults state h) turn event step

initial_settled : (meaning : Meaning) → Settled (initial meaning)
initial_settled meaning = record { done = each_none (HasDone set.empty set.empty); alone = λ seat other plan flight check found. absurd (nobody_yet seat (InCheck plan) check) }

-- no entry but a mark is one of a file
over_marks : (ino : ℕ) → PassesOver (is_mark_of ino)
over_marks ino = record {
  begin = λ by request. refl;
  did = λ by request outcome. refl;
  page = λ file page. refl;
  node = λ file offset. refl;
  flushed = λ by. refl;
  checkpoint = λ by plan. refl;
  fault = λ by call count. refl;
  crash = refl;
}

module _ (limits : Limits) (faults : Faults) (state : State) (h : Settled state) (ino : ℕ) where
  abbrev Marks : Turn → Type 0
  Marks turn = IsMarkedClean state turn.after ino

  nothing : {G : Type 0} → false ≡ true → G
  nothing h = absurd (true≢false (sym h))

  not_done : (by : ℕ) (b : Bool) → {G : Type 0} → list_any (is_mark_of ino) (if b then (entry.CpDone by ∷ entry.Unmounted ∷ []) else (entry.CpDone by ∷ [])) ≡ true → G
  not_done by true h = nothing h
  not_done by false h = nothing h

  only : (b : Bool) → (b || false) ≡ true → b ≡ true
  only true h = refl
  only false h = nothing h

  mark : (seat file : ℕ) (progress : Progress) (row : Row) → IsAtPart state seat file progress InNodes → least_of state.dirty_nodes file ≡ None → map.get state.live file ≡ Some row → Tells limits faults state (is_mark_of ino) (over_marks ino) Marks (mark_drawn state seat file row)
  mark seat file progress row here none there told =
      subst (IsMarkedClean state (mark_drawn state seat file row).after) (eqb-true file ino (only (file == ino) told)) (record { row = row; there = there; marks = refl; pages = flushed_pages limits faults state h seat file progress here; nodes = none_least state.dirty_nodes file none })

  mark_handles : Handles limits faults state (Tells limits faults state (is_mark_of ino) (over_marks ino) Marks)
  mark_handles =
      telling limits faults state (is_mark_of ino) (over_marks ino) Marks mark
      (λ seat file progress here gap. nothing)
      (λ seat none. nothing)
      (λ seat plan there. not_done seat (is_unmount state seat))
      (λ meaning choice remains. nothing)
      (λ seat call failed meant holds. record { row = holds.row; there = holds.there; marks = holds.marks; pages = holds.pages; nodes = holds.nodes })

pub marks_clean : MarksAreClean
marks_clean limits faults later meaning entries choices state event turn ino run step =
    let holds : Settled state = runs_keep limits Settled (keeps_settled limits) faults (initial meaning) entries choices state (initial_settled meaning) run in
    step_handled limits later state (Tells limits later state (is_mark_of ino) (over_marks ino) (λ turn. IsMarkedClean state turn.after ino)) (mark_handles limits later state holds ino) turn event step
