-- Each event leaves room for what was written and is owed.
use Rattle.std.proofs.Common.{◌≡◌, inl, inr, ℕ, ◌+◌, ◌≤◌, Bool, true, false, cond, not, nat_le, List, [], ◌∷◌, length, refl, sym, ap, subst, ◌∙◌, arith, true≢false}
use Rattle.std.specs.Prelude.{Option, Some, None, MatchOption, is_some}
use Rattle.std.specs.Bool.{MatchBool}
use Rattle.std.specs.Ordering.{nat_cmp}
use Rattle.std.specs.Cmp.{nat_cmp_total}
use Rattle.std.specs.FinMap as map
use Rattle.std.specs.FinSet as set
use Rattle.std.proofs.lemmas.Bool.{ltb-true}
use Rattle.f2_model.specs.Call.{effect}
use Rattle.f2_model.specs.State.{State, Part, InPages, InNodes, Marked, Progress, Pairs, Inos, fresh_progress, in_nodes, marked_at, DrawnNode, DrawnMark, Flight, InFsync, InCheck, marked_dirty, initial}
use Rattle.f2_model.specs.Fallback.{pairs_of, owed}
use Rattle.f2_model.specs.Step
use Rattle.f2_model.specs.Step.{Faults, Turn, Writes, MOUNT_SEAT, NO_SEAT, next_slot, least_of, least_thawed, is_up, is_unmount, page_written, node_logged, turn_with, unchanged}
use Rattle.f2_model.specs.declared.bounds.Limits.{Limits}
use Rattle.f2_model.specs.declared.events.Event.{Event}
use Rattle.f2_model.specs.declared.events.Event.TheVariants.{Begin, Go, Tick, Mount, Unmount, Upgrade, Crash}
use Rattle.f2_model.specs.declared.events.Answer.{Answer}
use Rattle.f2_model.specs.declared.events.Answer.TheVariants.{Ticked}
use Rattle.f2_model.specs.declared.modes.Mode.{Mode}
use Rattle.f2_model.specs.declared.modes.Mode.TheVariants.{Shut, Mounting, Up}
use Rattle.f2_model.specs.declared.replies.Plan.{Plan}
use Rattle.f2_model.specs.declared.replies.Plan.TheVariants as plan
use Rattle.f2_model.specs.declared.replies.Tick.TheVariants as tick
use Rattle.f2_model.specs.declared.histories.CallKind.TheVariants as kind
use Rattle.f2_model.specs.declared.histories.Entry.{Entry}
use Rattle.f2_model.specs.declared.histories.Entry.TheVariants as entry
use Rattle.f2_model.specs.declared.modes.Format.{Format}
use Rattle.f2_model.specs.Run.{IsRun}
use Rattle.f2_model.specs.declared.requests.Request.{Request}
use Rattle.f2_model.specs.declared.rows.Row.{Row}
use Rattle.f2_laws.specs.Flights.{Flights}
use Rattle.f2_laws.proofs.Flying.{Alone, after_left}
use Rattle.f2_laws.proofs.Dirtied.{dirty_only}
use Rattle.f2_laws.proofs.Cases.{IsServed, RollsForward, Handles, step_handled}
use Rattle.f2_laws.proofs.Runs.{runs_keep}
use Rattle.f2_room_laws.specs.ProperTrees.{HasRoomForRoot}
use Rattle.f2_room_laws.specs.Running.{just_made}
use Rattle.f2_room_laws.specs.RoomForWrites.{WritesFit, IsRoomyState, InitialIsRoomy, EventsKeepStatesRoomy, WritesFitInRuns, LoggedFilesAreWritten}
use Rattle.f2_room_laws.proofs.States.{initial_proper}
use Rattle.f2_room_laws.proofs.Events.{events_keep_states_proper}
use Rattle.f2_room_laws.proofs.BareTree.{bare_proper}
use Rattle.f2_room_laws.proofs.Fsyncs.{writes_left}
use Rattle.f2_room_laws.proofs.PairCounts.{same_pairs, fewer_pairs, one_pair_less, least_there}
use Rattle.f2_room_laws.proofs.FlightSums.{nodes_by_part, nodes_owed, pages_owed, total, owed_nodes, owed_pages, total_nobody, total_le, total_more, total_split, total_put_split, total_left}
use Rattle.f2_room_laws.proofs.CalledPairs.{called_leaves}
use Rattle.f2_room_laws.proofs.TickAnswers.{is_ticked, not_ticked}

-- a test, and an option, that both ways lead on from
by_bool : {P Q G : Type 0} (b : Bool) → (b ≡ true → P → G) → (b ≡ false → Q → G) → MatchBool b P Q → G
by_bool true p q h = p refl h
by_bool false p q h = q refl h

by_option : {A G P : Type 0} {Q : A → Type 0} (o : Option A) → (P → G) → ((a : A) → Q a → G) → MatchOption o P Q → G
by_option None p q h = p h
by_option (Some a) p q h = q a h

-- what was written and what is owed, zone by zone
record IsWithin (limits : Limits) (flights : Flights) (nodes pages : Pairs) (node_writes data_writes : ℕ) : Type 0 where
  node_room : node_writes + total (nodes_owed nodes) flights ≤ limits.nodes
  data_room : data_writes + total (pages_owed pages) flights ≤ limits.data_blocks

abbrev Within : Limits → State → Type 0
Within limits s = IsWithin limits s.flights s.dirty_nodes s.dirty_pages s.node_writes s.data_writes

-- while the volume is open
abbrev Roomy : Limits → State → Type 0
Roomy limits s = is_up s.mode ≡ true → Within limits s

-- fewer dirty nodes and pages of a file owe no more
nodes_less : (one : Flight) (before after : Pairs) → ((ino : ℕ) (progress : Progress) → one ≡ InFsync ino progress → pairs_of ino after ≤ pairs_of ino before) → nodes_owed after one ≤ nodes_owed before one
nodes_less (InFsync ino progress) before after less = by_part progress.part (less ino progress refl)
  where
    by_part : (part : Part) → pairs_of ino after ≤ pairs_of ino before → nodes_by_part (pairs_of ino after) part ≤ nodes_by_part (pairs_of ino before) part
    by_part InPages le = omega arith
    by_part InNodes le = omega arith
    by_part Marked le = le
nodes_less (InCheck plan) before after less = omega arith

pages_less : (one : Flight) (before after : Pairs) → ((ino : ℕ) (progress : Progress) → one ≡ InFsync ino progress → pairs_of ino after ≤ pairs_of ino before) → pages_owed after one ≤ pages_owed before one
pages_less (InFsync ino progress) before after less = less ino progress refl
pages_less (InCheck plan) before after less = omega arith

-- a pair less, whose ever it is
nodes_gone : (flights : Flights) (pairs : Pairs) (gone : ℕ × ℕ) → total (nodes_owed (set.remove pairs gone)) flights ≤ total (nodes_owed pairs) flights
nodes_gone flights pairs gone = total_le (nodes_owed (set.remove pairs gone)) (nodes_owed pairs) flights (λ seat one there. nodes_less one pairs (set.remove pairs gone) (λ ino progress is. fewer_pairs ino pairs gone))

pages_gone : (flights : Flights) (pairs : Pairs) (gone : ℕ × ℕ) → total (pages_owed (set.remove pairs gone)) flights ≤ total (pages_owed pairs) flights
pages_gone flights pairs gone = total_le (pages_owed (set.remove pairs gone)) (pages_owed pairs) flights (λ seat one there. pages_less one pairs (set.remove pairs gone) (λ ino progress is. fewer_pairs ino pairs gone))

module _ (limits : Limits) (faults : Faults) (state : State) (alone : Alone state.flights) (h : Roomy limits state) where
  abbrev nodes : Flight → ℕ
  nodes = nodes_owed state.dirty_nodes

  abbrev pages : Flight → ℕ
  pages = pages_owed state.dirty_pages

  -- a seat leaves, or takes up a checkpoint
  left : (seat : ℕ) → is_up state.mode ≡ true → IsWithin limits (map.remove state.flights seat) state.dirty_nodes state.dirty_pages state.node_writes state.data_writes
  left seat up =
      let before = h up in
      record {
        node_room = omega (arith, before.node_room, total_left nodes state.flights seat);
        data_room = omega (arith, before.data_room, total_left pages state.flights seat);
      }

  checks : (seat : ℕ) (plan : Plan) → is_up state.mode ≡ true → IsWithin limits (map.insert state.flights seat (InCheck plan)) state.dirty_nodes state.dirty_pages state.node_writes state.data_writes
  checks seat plan up =
      let before = h up in
      record {
        node_room = omega (arith, before.node_room, total_more nodes state.flights seat (InCheck plan));
        data_room = omega (arith, before.data_room, total_more pages state.flights seat (InCheck plan));
      }

  -- a call leaves what files in fsync owe
  called : (request : Request) (ino : ℕ) → IsServed limits state request ino → Roomy limits (marked_dirty state request (effect state.live request ino))
  called request ino served up =
      let after = effect state.live request ino in
      let now = marked_dirty state request after in
      let still = dirty_only (λ (s : State). (s.flights ≡ state.flights) × (s.node_writes ≡ state.node_writes) × (s.data_writes ≡ state.data_writes)) state (λ pages nodes moved shrunk. (refl, refl, refl)) after request in
      let before = h served.up in
      record {
        node_room = omega (arith, before.node_room, still.1, ap (total (nodes_owed now.dirty_nodes)) still.0, total_le (nodes_owed now.dirty_nodes) nodes state.flights (λ seat one there. nodes_less one state.dirty_nodes now.dirty_nodes (λ file progress is. (let leaves = called_leaves state file (seat, (progress, there ∙ ap (λ (f : Flight). Some f) is)) request after served.thawed in omega (arith, same_pairs file state.dirty_nodes now.dirty_nodes leaves.nodes)))));
        data_room = omega (arith, before.data_room, still.2, ap (total (pages_owed now.dirty_pages)) still.0, total_le (pages_owed now.dirty_pages) pages state.flights (λ seat one there. pages_less one state.dirty_pages now.dirty_pages (λ file progress is. (let leaves = called_leaves state file (seat, (progress, there ∙ ap (λ (f : Flight). Some f) is)) request after served.thawed in omega (arith, same_pairs file state.dirty_pages now.dirty_pages leaves.pages)))));
      }

  -- an fsync begins with room for what it has to write
  begun : (seat : ℕ) (path : List (List ℕ)) (row : Row) → RollsForward limits state seat path row → IsWithin limits (map.insert state.flights seat (InFsync row.ino fresh_progress)) state.dirty_nodes state.dirty_pages state.node_writes state.data_writes
  begun seat path row rolls =
      let room = writes_left limits state row rolls.rolls in
      record {
        node_room = omega (arith, room.0, owed_nodes state, total_more nodes state.flights seat (InFsync row.ino fresh_progress));
        data_room = omega (arith, room.1, owed_pages state, total_more pages state.flights seat (InFsync row.ino fresh_progress));
      }

  -- an fsync goes on
  module _ (seat ino : ℕ) (progress : Progress) (there : map.get state.flights seat ≡ Some (InFsync ino progress)) (up : is_up state.mode ≡ true) where
    before : Within limits state
    before = h up

    node_split : total nodes state.flights ≡ total nodes (map.remove state.flights seat) + nodes_by_part (pairs_of ino state.dirty_nodes) progress.part
    node_split = total_split nodes state.flights seat (InFsync ino progress) there

    page_split : total pages state.flights ≡ total pages (map.remove state.flights seat) + pairs_of ino state.dirty_pages
    page_split = total_split pages state.flights seat (InFsync ino progress) there

    -- with nothing more written
    goes_on : (next : Progress) → nodes_by_part (pairs_of ino state.dirty_nodes) next.part ≤ nodes_by_part (pairs_of ino state.dirty_nodes) progress.part → IsWithin limits (map.insert state.flights seat (InFsync ino next)) state.dirty_nodes state.dirty_pages state.node_writes state.data_writes
    goes_on next less = record {
      node_room = omega (arith, before.node_room, node_split, total_put_split nodes state.flights seat (InFsync ino next), less);
      data_room = omega (arith, before.data_room, page_split, total_put_split pages state.flights seat (InFsync ino next));
    }

    -- a page is written
    page_goes : (page : ℕ) → least_of state.dirty_pages ino ≡ Some page → IsWithin limits state.flights state.dirty_nodes (set.remove state.dirty_pages (ino, page)) state.node_writes (state.data_writes + 1)
    page_goes page is =
        let left = set.remove state.dirty_pages (ino, page) in
        let less : pairs_of ino left + 1 ≤ pairs_of ino state.dirty_pages = one_pair_less ino page state.dirty_pages (least_there state.dirty_pages ino page is) in
        let now : total (pages_owed left) state.flights ≡ total (pages_owed left) (map.remove state.flights seat) + pairs_of ino left = total_split (pages_owed left) state.flights seat (InFsync ino progress) there in
        record {
          node_room = before.node_room;
          data_room = omega (arith, before.data_room, page_split, now, less, pages_gone (map.remove state.flights seat) state.dirty_pages (ino, page));
        }

    -- a node is given a position
    node_goes : (offset : ℕ) (next : Progress) → least_of state.dirty_nodes ino ≡ Some offset → progress.part ≡ InNodes → next.part ≡ InNodes → IsWithin limits (map.insert state.flights seat (InFsync ino next)) (set.remove state.dirty_nodes (ino, offset)) state.dirty_pages (state.node_writes + 1) state.data_writes
    node_goes offset next is part then =
        let left = set.remove state.dirty_nodes (ino, offset) in
        let less : pairs_of ino left + 1 ≤ pairs_of ino state.dirty_nodes = one_pair_less ino offset state.dirty_nodes (least_there state.dirty_nodes ino offset is) in
        record {
          node_room = omega (arith, before.node_room, node_split, ap (nodes_by_part (pairs_of ino state.dirty_nodes)) part, ap (nodes_by_part (pairs_of ino left)) then, total_put_split (nodes_owed left) state.flights seat (InFsync ino next), less, nodes_gone (map.remove state.flights seat) state.dirty_nodes (ino, offset));
          data_room = omega (arith, before.data_room, page_split, total_put_split pages state.flights seat (InFsync ino next));
        }

    -- its mark is given a position
    mark_goes : (next : Progress) → progress.part ≡ InNodes → next.part ≡ Marked → IsWithin limits (map.insert state.flights seat (InFsync ino next)) state.dirty_nodes state.dirty_pages (state.node_writes + 1) state.data_writes
    mark_goes next part then = record {
      node_room = omega (arith, before.node_room, node_split, ap (nodes_by_part (pairs_of ino state.dirty_nodes)) part, ap (nodes_by_part (pairs_of ino state.dirty_nodes)) then, total_put_split nodes state.flights seat (InFsync ino next));
      data_room = omega (arith, before.data_room, page_split, total_put_split pages state.flights seat (InFsync ino next));
    }

  -- a checkpoint is done, and nobody is in flight
  completed : (seat : ℕ) (plan : Plan) → map.get state.flights seat ≡ Some (InCheck plan) → IsWithin limits (map.remove state.flights seat) set.empty set.empty 0 0
  completed seat plan there = record {
    node_room = omega (arith, total_nobody (nodes_owed set.empty) (map.remove state.flights seat) nobody);
    data_room = omega (arith, total_nobody (pages_owed set.empty) (map.remove state.flights seat) nobody);
  }
    where
      nobody : (at : ℕ) (one : Flight) → map.get (map.remove state.flights seat) at ≡ Some one → ⊥
      nobody at one found = (let before = after_left state.flights seat at one found in before.0 (alone seat at plan one there before.1))

  -- what holds of each turn but the flusher's
  abbrev ButTicked : Turn → Type 0
  ButTicked turn = is_ticked turn.answer ≡ false → Roomy limits turn.after

  handles : Handles limits faults state ButTicked
  handles = record {
    still = λ answer _. h;
    told = λ seat request refused _. h;
    unread = λ seat request _. h;
    calls = λ seat request ino choices served _. called request ino served;
    checks = λ seat request plan free _. checks seat plan;
    rolls = λ seat path row rolls _ up. begun seat path row rolls;
    leaves = λ seat shut _. left seat;
    submits = λ seat ino progress slot there _ up. goes_on seat ino progress there up (record progress { slot = None }) (omega arith);
    page = λ seat ino progress page here is _ up. page_goes seat ino progress here.there up page is;
    flushed = λ seat ino progress here none _ up. goes_on seat ino progress here.there up (in_nodes None) (omega (arith, ap (nodes_by_part (pairs_of ino state.dirty_nodes)) here.part));
    node = λ seat ino progress offset here is _ up. node_goes seat ino progress here.there up offset (in_nodes (Some (next_slot state (DrawnNode offset)))) is here.part refl;
    mark = λ seat ino progress row here none there _ up. mark_goes seat ino progress here.there up (marked_at (length state.marks) state.node_writes (Some (next_slot state DrawnMark))) here.part refl;
    acks = λ seat ino progress here gap _. left seat;
    tail = λ seat plan there none _. h;
    done = λ seat plan there _ up. completed seat plan there;
    ticks_page = λ page told. absurd (true≢false told);
    ticks_node = λ node told. absurd (true≢false told);
    finds = λ meaning choice remains _ up. absurd (true≢false (sym up));
    closes = λ format free _. checks MOUNT_SEAT plan.Sync;
    crashes = λ _ up. absurd (true≢false (sym up));
    fails = λ seat call failed meant holds _ up. absurd (true≢false (sym up));
  }

  -- the flusher writes where there is room for one block more
  module _ (turn : Turn) where
    is : (so : Turn) → Roomy limits so.after → turn ≡ so → Roomy limits turn.after
    is so holds e = subst (λ (t : Turn). Roomy limits t.after) (sym e) holds

    writes : (failed : Answer) (so : Turn) → Roomy limits so.after → Writes faults NO_SEAT failed so turn → Roomy limits turn.after
    writes failed so holds (inl e) = is so holds e
    writes failed so holds (inr e) = is (Step.closed_by_fault faults NO_SEAT kind.Write failed so) (λ up. absurd (true≢false (sym up))) e.1

    ticks_page : (page : ℕ × ℕ) → Step.TicksPage limits faults state page turn → Roomy limits turn.after
    ticks_page page stepped = by_bool (Step.has_data_room limits state) (λ room. writes (Ticked tick.WriteFault) (turn_with (Ticked tick.Data) (entry.WrotePage page.0 page.1 ∷ []) [] (page_written state page.0 page.1)) (fits room)) (λ _. is _ h) stepped
      where
        fits : Step.has_data_room limits state ≡ true → is_up state.mode ≡ true → IsWithin limits state.flights state.dirty_nodes (set.remove state.dirty_pages (page.0, page.1)) state.node_writes (state.data_writes + 1)
        fits room up =
            let before = h up in
            let more = ltb-true (state.data_writes + (owed state).pages) limits.data_blocks room in
            record { node_room = before.node_room; data_room = omega (arith, more, owed_pages state, pages_gone state.flights state.dirty_pages (page.0, page.1)) }

    ticks_node : (node : ℕ × ℕ) → Step.TicksNode limits faults state node turn → Roomy limits turn.after
    ticks_node node stepped = by_bool (Step.has_node_room limits state) (λ room. writes (Ticked tick.WriteFault) (turn_with (Ticked tick.Node) (entry.WroteNode node.0 node.1 ∷ []) [] (node_logged state node.0 node.1)) (fits room)) (λ _. is _ h) stepped
      where
        fits : Step.has_node_room limits state ≡ true → is_up state.mode ≡ true → IsWithin limits state.flights (set.remove state.dirty_nodes (node.0, node.1)) state.dirty_pages (state.node_writes + 1) state.data_writes
        fits room up =
            let before = h up in
            let more = ltb-true (state.node_writes + (owed state).nodes) limits.nodes room in
            record { node_room = omega (arith, more, owed_nodes state, nodes_gone state.flights state.dirty_nodes (node.0, node.1)); data_room = before.data_room }

    ticks : Step.StepTick limits faults state turn → Roomy limits turn.after
    ticks stepped =
        by_bool (not (is_up state.mode)) (λ _. is _ h)
        (λ _. by_bool (nat_le Step.MOST_ENTRIES state.entries) (λ _. is _ h)
        (λ _. by_bool (is_some (Step.checking_seat state)) (λ _. is _ h)
        (λ _. by_bool (Step.is_clean state) (λ _. is _ h)
        (λ _. by_option (least_thawed state state.dirty_pages)
        (by_option (least_thawed state state.dirty_nodes) (is _ h) ticks_node)
        ticks_page)))) stepped

    roomy_after : (event : Event) → Step.Step limits faults state event turn → Roomy limits turn.after
    roomy_after Tick stepped = ticks stepped
    roomy_after (Begin seat request) stepped = step_handled limits faults state ButTicked handles turn (Begin seat request) stepped (not_ticked limits faults state turn (Begin seat request) refl stepped)
    roomy_after (Go seat) stepped = step_handled limits faults state ButTicked handles turn (Go seat) stepped (not_ticked limits faults state turn (Go seat) refl stepped)
    roomy_after Mount stepped = step_handled limits faults state ButTicked handles turn Mount stepped (not_ticked limits faults state turn Mount refl stepped)
    roomy_after Unmount stepped = step_handled limits faults state ButTicked handles turn Unmount stepped (not_ticked limits faults state turn Unmount refl stepped)
    roomy_after Upgrade stepped = step_handled limits faults state ButTicked handles turn Upgrade stepped (not_ticked limits faults state turn Upgrade refl stepped)
    roomy_after Crash stepped = step_handled limits faults state ButTicked handles turn Crash stepped (not_ticked limits faults state turn Crash refl stepped)

-- a file more in the log, for a block more
abbrev Logged : State → Type 0
Logged s = set.len s.logged ≤ s.node_writes

one_more : (logged : Inos) (ino writes : ℕ) → set.len logged ≤ writes → set.len (set.insert logged ino) ≤ writes + 1
one_more logged ino writes h = subst (λ n. n ≤ writes + 1) (sym (set.len-insert nat_cmp_total logged ino)) (by_there (set.contains logged ino))
  where
    by_there : (b : Bool) → cond b (set.len logged) (set.len logged + 1) ≤ writes + 1
    by_there true = omega arith
    by_there false = omega arith

none_logged : set.len {R = nat_cmp} set.empty ≤ 0
none_logged = omega (arith, set.len-empty nat_cmp)

module _ (limits : Limits) (faults : Faults) (state : State) (h : Logged state) where
  log_handles : Handles limits faults state (λ turn. Logged turn.after)
  log_handles = record {
    still = λ answer. h;
    told = λ seat request refused. h;
    unread = λ seat request. h;
    calls = λ seat request ino choices served. dirty_only Logged state (λ pages nodes moved shrunk. h) (effect state.live request ino) request;
    checks = λ seat request plan free. h;
    rolls = λ seat path row rolls. h;
    leaves = λ seat shut. h;
    submits = λ seat ino progress slot there. h;
    page = λ seat ino progress page here is. h;
    flushed = λ seat ino progress here none. h;
    node = λ seat ino progress offset here is. one_more state.logged ino state.node_writes h;
    mark = λ seat ino progress row here none there. one_more state.logged ino state.node_writes h;
    acks = λ seat ino progress here gap. h;
    tail = λ seat plan there none. h;
    done = λ seat plan there. none_logged;
    ticks_page = λ page. h;
    ticks_node = λ node. one_more state.logged node.0 state.node_writes h;
    finds = λ meaning choice remains. none_logged;
    closes = λ format free. h;
    crashes = h;
    fails = λ seat call failed meant holds. holds;
  }

-- a volume is open in one mode
open_is_up : (mode : Mode) → is_up mode ≡ true → mode ≡ Up
open_is_up Shut up = absurd (true≢false (sym up))
open_is_up Mounting up = absurd (true≢false (sym up))
open_is_up Up up = refl

within_fit : (limits : Limits) (state : State) → Within limits state → WritesFit limits state
within_fit limits state h = record { nodes = omega (arith, h.node_room, owed_nodes state); pages = omega (arith, h.data_room, owed_pages state) }

fit_within : (limits : Limits) (state : State) → WritesFit limits state → Within limits state
fit_within limits state h = record { node_room = omega (arith, h.nodes, owed_nodes state); data_room = omega (arith, h.pages, owed_pages state) }

pub events_keep_states_roomy : EventsKeepStatesRoomy
events_keep_states_roomy limits faults state event turn step h =
    let roomy : Roomy limits state = λ up. fit_within limits state (h.writes (open_is_up state.mode up)) in
    let after = roomy_after limits faults state h.proper.alone roomy turn event step in
    record {
      proper = events_keep_states_proper limits faults state event turn step h.proper;
      writes = λ up. within_fit limits turn.after (after (ap is_up up));
      logged = step_handled limits faults state (λ turn. Logged turn.after) (log_handles limits faults state h.logged) turn event step;
    }

pub initial_roomy : InitialIsRoomy
initial_roomy limits meaning proper = record { proper = initial_proper limits meaning proper; writes = λ up. absurd (true≢false (sym (ap is_up up))); logged = none_logged }

-- a run of an image that was just made
pub runs_roomy : (limits : Limits) (faults : Faults) (format : Format) (version : ℕ) (entries : List Entry) (choices : List ℕ) (state : State) → HasRoomForRoot limits → IsRun limits faults (initial (just_made format version)) entries choices state → IsRoomyState limits state
runs_roomy limits faults format version entries choices state room run =
    runs_keep limits (IsRoomyState limits) (events_keep_states_roomy limits) faults (initial (just_made format version)) entries choices state (initial_roomy limits (just_made format version) (bare_proper limits room)) run

pub writes_fit : WritesFitInRuns
writes_fit limits faults format version entries choices state room run = (runs_roomy limits faults format version entries choices state room run).writes

pub logged_written : LoggedFilesAreWritten
logged_written limits faults format version entries choices state room run = (runs_roomy limits faults format version entries choices state room run).logged
