-- Acknowledged fsyncs have their marks.
use Rattle.std.proofs.Common.{◌≡◌, ℕ, ◌+◌, ◌≤◌, max, Bool, true, false, ◌||◌, List, [], ◌∷◌, ◌++◌, length, refl, sym, subst, arith, true≢false}
use Rattle.std.specs.Prelude.{Some, None, if◌then◌else◌, ◌==◌}
use Rattle.std.proofs.lemmas.Bool.{eqb-true}
use Rattle.std.proofs.lemmas.List.{length-append}
use Rattle.std.specs.List.{list_any}
use Rattle.std.specs.FinMap as map
use Rattle.f2_model.specs.declared.bounds.Limits.{Limits}
use Rattle.f2_model.specs.State.{State, Meaning, Mark, Marked, Progress, fresh_progress, in_nodes, marked_at, Slot, DrawnMark, InFsync, InCheck, initial}
use Rattle.f2_model.specs.Call.{effect}
use Rattle.f2_model.specs.Step.{Faults, Turn, Step, MOUNT_SEAT, next_slot, gap_below, acknowledges, closed_by_fault, is_unmount}
use Rattle.f2_model.specs.declared.events.Answer.{Answer}
use Rattle.f2_model.specs.declared.events.Event.{Event}
use Rattle.f2_model.specs.declared.replies.Plan.{Plan}
use Rattle.f2_model.specs.declared.replies.Plan.TheVariants as plan
use Rattle.f2_model.specs.declared.histories.CallKind.{CallKind}
use Rattle.f2_model.specs.declared.histories.Entry.TheVariants as entry
use Rattle.f2_laws.specs.Flights.{Flights}
use Rattle.f2_laws.specs.Acknowledging.{AcknowledgedAreMarked, is_ack_of, IsAcknowledged, AcksAcknowledge}
use Rattle.f2_laws.proofs.Seats.{nobody, no_check, unbarred}
use Rattle.f2_laws.proofs.Flying.{Alone, alone_left, alone_check, alone_fsync, alone_part, nobody_yet}
use Rattle.f2_laws.proofs.EachFsync.{EachFsync, each_none, each_put, each_check, each_left, each_after_check}
use Rattle.f2_laws.proofs.Dirtied.{dirty_only}
use Rattle.f2_laws.proofs.Cases.{IsFree, IsAtPart, Handles, step_handled}
use Rattle.f2_laws.proofs.Telling.{PassesOver, Tells, telling}
use Rattle.f2_laws.proofs.Runs.{runs_keep}

-- an fsync that has drawn its mark has it among the marks
abbrev HasMark : List Mark → ℕ → Progress → Type 0
HasMark marks ino progress = progress.part ≡ Marked → progress.place + 1 ≤ length marks

-- what every event keeps
record IsOrdered (acknowledged : ℕ) (marks : List Mark) (flights : Flights) : Type 0 where
  within : acknowledged ≤ length marks
  placed : EachFsync (HasMark marks) flights
  alone : Alone flights

abbrev Ordered : State → Type 0
Ordered state = IsOrdered state.acknowledged state.marks state.flights

module _ (limits : Limits) (faults : Faults) (state : State) (h : Ordered state) where
  left : (seat : ℕ) → IsOrdered state.acknowledged state.marks (map.remove state.flights seat)
  left seat = record { within = h.within; placed = each_left (HasMark state.marks) state.flights seat h.placed; alone = alone_left state.flights seat h.alone }

  checks : (seat : ℕ) (plan : Plan) → IsFree state → IsOrdered state.acknowledged state.marks (map.insert state.flights seat (InCheck plan))
  checks seat plan free = record {
    within = h.within;
    placed = each_check (HasMark state.marks) state.flights seat plan h.placed;
    alone = alone_check state.flights seat plan (nobody state free.nobody);
  }

  goes_on : (seat ino : ℕ) (progress next : Progress) → map.get state.flights seat ≡ Some (InFsync ino progress) → HasMark state.marks ino next → IsOrdered state.acknowledged state.marks (map.insert state.flights seat (InFsync ino next))
  goes_on seat ino progress next there has = record {
    within = h.within;
    placed = each_put (HasMark state.marks) state.flights seat ino next has h.placed;
    alone = alone_part state.flights seat ino progress next there h.alone;
  }

  marks : (seat ino : ℕ) (progress : Progress) (mark : Mark) (slot : Slot) → map.get state.flights seat ≡ Some (InFsync ino progress) → IsOrdered state.acknowledged (state.marks ++ mark ∷ []) (map.insert state.flights seat (InFsync ino (marked_at (length state.marks) state.node_writes (Some slot))))
  marks seat ino progress mark slot there =
      let more : length (state.marks ++ mark ∷ []) ≡ length state.marks + 1 = length-append state.marks (mark ∷ []) in
      record {
        within = (let before = h.within in omega (arith, more));
        placed = each_put (HasMark (state.marks ++ mark ∷ [])) state.flights seat ino (marked_at (length state.marks) state.node_writes (Some slot)) (λ _. omega (arith, more)) (λ at i p found drawn. (let before = h.placed at i p found drawn in omega (arith, more)));
        alone = alone_part state.flights seat ino progress (marked_at (length state.marks) state.node_writes (Some slot)) there h.alone;
      }

  acknowledged : (seat ino : ℕ) (progress : Progress) → IsAtPart state seat ino progress Marked → IsOrdered (max state.acknowledged (progress.place + 1)) state.marks (map.remove state.flights seat)
  acknowledged seat ino progress here =
      let rest = left seat in
      let mine = h.placed seat ino progress here.there here.part in
      record { within = (let before = h.within in omega arith); placed = rest.placed; alone = rest.alone }

  handles : Handles limits faults state (λ turn. Ordered turn.after)
  handles = record {
    still = λ answer. h;
    told = λ seat request refused. h;
    unread = λ seat request. h;
    calls = λ seat request ino choices served. dirty_only Ordered state (λ pages nodes moved shrunk. h) (effect state.live request ino) request;
    checks = λ seat request plan free. checks seat plan free;
    rolls = λ seat path row rolls. record {
      within = h.within;
      placed = each_put (HasMark state.marks) state.flights seat row.ino fresh_progress (λ drawn. absurd (cc)) h.placed;
      alone = alone_fsync state.flights seat row.ino fresh_progress (no_check state (unbarred state seat rolls.unbarred));
    };
    leaves = λ seat shut. left seat;
    submits = λ seat ino progress slot there. goes_on seat ino progress (record progress { slot = None }) there (h.placed seat ino progress there);
    page = λ seat ino progress page here is. h;
    flushed = λ seat ino progress here is. goes_on seat ino progress (in_nodes None) here.there (λ drawn. absurd (cc));
    node = λ seat ino progress offset here is. goes_on seat ino progress (in_nodes (Some _)) here.there (λ drawn. absurd (cc));
    mark = λ seat ino progress row here is there. marks seat ino progress (record { ino = ino; row = row }) (next_slot state DrawnMark) here.there;
    acks = λ seat ino progress here is. acknowledged seat ino progress here;
    tail = λ seat plan there none. h;
    done = λ seat plan there. record { within = omega arith; placed = each_after_check (HasMark []) state.flights seat plan h.alone there; alone = alone_left state.flights seat h.alone };
    ticks_page = λ page. h;
    ticks_node = λ node. h;
    finds = λ meaning choice remains. record { within = omega arith; placed = each_check (HasMark meaning.marks) map.empty MOUNT_SEAT plan.Sync (each_none (HasMark meaning.marks)); alone = alone_check map.empty MOUNT_SEAT plan.Sync nobody_yet };
    closes = λ format free. checks MOUNT_SEAT plan.Sync free;
    crashes = record { within = h.within; placed = each_none (HasMark state.marks); alone = λ seat other plan flight check found. absurd (nobody_yet seat (InCheck plan) check) };
    fails = λ seat call failed meant holds. record { within = holds.within; placed = each_left (HasMark meant.after.marks) meant.after.flights seat holds.placed; alone = alone_left meant.after.flights seat holds.alone };
  }

keeps_ordered : (limits : Limits) (faults : Faults) (state : State) (event : Event) (turn : Turn) → Step limits faults state event turn → Ordered state → Ordered turn.after
keeps_ordered limits faults state event turn step h = step_handled limits faults state (λ turn. Ordered turn.after) (handles limits faults state h) turn event step

initial_ordered : (meaning : Meaning) → Ordered (initial meaning)
initial_ordered meaning = record { within = omega arith; placed = each_none (HasMark meaning.marks); alone = λ seat other plan flight check found. absurd (nobody_yet seat (InCheck plan) check) }

pub acknowledged_marked : AcknowledgedAreMarked
acknowledged_marked limits faults meaning entries choices state run =
    let holds : Ordered state = runs_keep limits Ordered (keeps_ordered limits) faults (initial meaning) entries choices state (initial_ordered meaning) run in
    holds.within

-- no entry but an acknowledgement is one of a seat
over_acks : (seat : ℕ) → PassesOver (is_ack_of seat)
over_acks seat = record {
  begin = λ by request. refl;
  did = λ by request outcome. refl;
  page = λ ino page. refl;
  node = λ ino offset. refl;
  flushed = λ by. refl;
  checkpoint = λ by plan. refl;
  fault = λ by call count. refl;
  crash = refl;
}

module _ (limits : Limits) (faults : Faults) (state : State) (seat : ℕ) where
  abbrev Acknowledges : Turn → Type 0
  Acknowledges turn = IsAcknowledged state turn.after seat

  nothing : {G : Type 0} → false ≡ true → G
  nothing h = absurd (true≢false (sym h))

  acks : (by ino : ℕ) (progress : Progress) → IsAtPart state by ino progress Marked → gap_below state progress.position ≡ None → Tells limits faults state (is_ack_of seat) (over_acks seat) Acknowledges (acknowledges state by ino progress)
  acks by ino progress here gap told =
      let same : by ≡ seat = eqb-true by seat (only (by == seat) told) in
      record {
        ino = ino;
        progress = progress;
        there = subst (λ s. map.get state.flights s ≡ Some (InFsync ino progress)) same here.there;
        marked = here.part;
        written = here.no_slot;
        gap = gap;
        place = omega arith;
      }
    where
      only : (b : Bool) → (b || false) ≡ true → b ≡ true
      only true h = refl
      only false h = absurd (true≢false (sym h))

  not_done : (by : ℕ) (b : Bool) → {G : Type 0} → list_any (is_ack_of seat) (if b then (entry.CpDone by ∷ entry.Unmounted ∷ []) else (entry.CpDone by ∷ [])) ≡ true → G
  not_done by true h = nothing h
  not_done by false h = nothing h

  fails : (by : ℕ) (call : CallKind) (failed : Answer) (meant : Turn) → Acknowledges meant → Acknowledges (closed_by_fault faults by call failed meant)
  fails by call failed meant h = record { ino = h.ino; progress = h.progress; there = h.there; marked = h.marked; written = h.written; gap = h.gap; place = h.place }

  ack_handles : Handles limits faults state (Tells limits faults state (is_ack_of seat) (over_acks seat) Acknowledges)
  ack_handles =
      telling limits faults state (is_ack_of seat) (over_acks seat) Acknowledges
      (λ by ino progress row here is there. nothing)
      acks
      (λ by none. nothing)
      (λ by plan there. not_done by (is_unmount state by))
      (λ meaning choice remains. nothing)
      fails

pub acks_acknowledge : AcksAcknowledge
acks_acknowledge limits faults state event turn seat step = step_handled limits faults state (Tells limits faults state (is_ack_of seat) (over_acks seat) (λ turn. IsAcknowledged state turn.after seat)) (ack_handles limits faults state seat) turn event step
