-- How a checkpoint's tree comes to be pending, and what its end leaves.
use Rattle.std.proofs.Common.{◌≡◌, ◌⊎◌, inl, inr, ℕ, Bool, true, false, [], ◌∷◌, refl, sym, true≢false}
use Rattle.std.specs.Prelude.{if◌then◌else◌}
use Rattle.std.specs.List.{list_any}
use Rattle.f2_model.specs.Call.{effect}
use Rattle.f2_model.specs.declared.bounds.Limits.{Limits}
use Rattle.f2_model.specs.State.{State}
use Rattle.f2_model.specs.Step.{Faults, Turn, completes, closed_by_fault, is_unmount}
use Rattle.f2_model.specs.declared.events.Answer.{Answer}
use Rattle.f2_model.specs.declared.replies.Plan.{Plan}
use Rattle.f2_model.specs.declared.histories.CallKind.{CallKind}
use Rattle.f2_model.specs.declared.histories.Entry.TheVariants as entry
use Rattle.f2_laws.specs.Survival.{is_checkpoint_done, is_mounted}
use Rattle.f2_laws.specs.Checkpointing.{is_tail, ComesPending, GoesPending, TailsAlonePend, IsWhole, CheckpointsAreWhole}
use Rattle.f2_laws.proofs.Dirtied.{dirty_only}
use Rattle.f2_laws.proofs.Cases.{Handles, step_handled}
use Rattle.f2_laws.proofs.Telling.{PassesOver, Tells, told_before, telling}

done_tells : (seat : ℕ) (b : Bool) → list_any is_checkpoint_done (if b then (entry.CpDone seat ∷ entry.Unmounted ∷ []) else (entry.CpDone seat ∷ [])) ≡ true
done_tells seat true = refl
done_tells seat false = refl

module _ (limits : Limits) (faults : Faults) (state : State) where
  -- what the law says of one turn
  abbrev Pends : Turn → Type 0
  Pends turn = (turn.after.pending ≡ state.pending) ⊎ ComesPending state turn ⊎ GoesPending turn

  fails : (seat : ℕ) (call : CallKind) (failed : Answer) (meant : Turn) → Pends meant → Pends (closed_by_fault faults seat call failed meant)
  fails seat call failed meant (inl e) = inl e
  fails seat call failed meant (inr (inl comes)) = inr (inl (record { none = comes.none; tail = told_before is_tail meant.entries _ comes.tail; tree = comes.tree }))
  fails seat call failed meant (inr (inr goes)) = inr (inr (record { ends = by_end goes.ends; none = goes.none }))
    where
      by_end : (list_any is_checkpoint_done meant.entries ≡ true) ⊎ (list_any is_mounted meant.entries ≡ true) → (list_any is_checkpoint_done (closed_by_fault faults seat call failed meant).entries ≡ true) ⊎ (list_any is_mounted (closed_by_fault faults seat call failed meant).entries ≡ true)
      by_end (inl h) = inl (told_before is_checkpoint_done meant.entries _ h)
      by_end (inr h) = inr (told_before is_mounted meant.entries _ h)

  pending_handles : Handles limits faults state Pends
  pending_handles = record {
    still = λ answer. inl refl;
    told = λ seat request refused. inl refl;
    unread = λ seat request. inl refl;
    calls = λ seat request ino choices served. inl (dirty_only (λ (s : State). s.pending ≡ state.pending) state (λ pages nodes moved shrunk. refl) (effect state.live request ino) request);
    checks = λ seat request plan free. inl refl;
    rolls = λ seat path row rolls. inl refl;
    leaves = λ seat shut. inl refl;
    submits = λ seat ino progress slot there. inl refl;
    page = λ seat ino progress page here is. inl refl;
    flushed = λ seat ino progress here is. inl refl;
    node = λ seat ino progress offset here is. inl refl;
    mark = λ seat ino progress row here is there. inl refl;
    acks = λ seat ino progress here is. inl refl;
    tail = λ seat plan there none. inr (inl (record { none = none; tail = refl; tree = refl }));
    done = λ seat plan there. inr (inr (record { ends = inl (done_tells seat (is_unmount state seat)); none = refl }));
    ticks_page = λ page. inl refl;
    ticks_node = λ node. inl refl;
    finds = λ meaning choice remains. inr (inr (record { ends = inr refl; none = refl }));
    closes = λ format free. inl refl;
    crashes = inl refl;
    fails = fails;
  }

pub tails_pend : TailsAlonePend
tails_pend limits faults state event turn step = step_handled limits faults state (λ turn. (turn.after.pending ≡ state.pending) ⊎ ComesPending state turn ⊎ GoesPending turn) (pending_handles limits faults state) turn event step

-- no entry but the end of a checkpoint is one
over_done : PassesOver is_checkpoint_done
over_done = record {
  begin = λ by request. refl;
  did = λ by request outcome. refl;
  page = λ ino page. refl;
  node = λ ino offset. refl;
  flushed = λ by. refl;
  checkpoint = λ by plan. refl;
  fault = λ by call count. refl;
  crash = refl;
}

module _ (limits : Limits) (faults : Faults) (state : State) where
  abbrev Whole : Turn → Type 0
  Whole turn = IsWhole state turn.after

  nothing : {G : Type 0} → false ≡ true → G
  nothing h = absurd (true≢false (sym h))

  done : (seat : ℕ) (plan : Plan) → Whole (completes state seat plan)
  done seat plan = record {
    base = refl;
    live = refl;
    format = refl;
    version = refl;
    marks = refl;
    acknowledged = refl;
    pending = refl;
    dirty_pages = refl;
    dirty_nodes = refl;
    moved = refl;
    shrunk = refl;
    logged = refl;
    node_writes = refl;
    data_writes = refl;
  }

  whole_fails : (seat : ℕ) (call : CallKind) (failed : Answer) (meant : Turn) → Whole meant → Whole (closed_by_fault faults seat call failed meant)
  whole_fails seat call failed meant h = record {
    base = h.base;
    live = h.live;
    format = h.format;
    version = h.version;
    marks = h.marks;
    acknowledged = h.acknowledged;
    pending = h.pending;
    dirty_pages = h.dirty_pages;
    dirty_nodes = h.dirty_nodes;
    moved = h.moved;
    shrunk = h.shrunk;
    logged = h.logged;
    node_writes = h.node_writes;
    data_writes = h.data_writes;
  }

  whole_handles : Handles limits faults state (Tells limits faults state is_checkpoint_done over_done Whole)
  whole_handles =
      telling limits faults state is_checkpoint_done over_done Whole
      (λ seat ino progress row here is there. nothing)
      (λ seat ino progress here gap. nothing)
      (λ seat none. nothing)
      (λ seat plan there told. done seat plan)
      (λ meaning choice remains. nothing)
      whole_fails

pub checkpoints_whole : CheckpointsAreWhole
checkpoints_whole limits faults state event turn step = step_handled limits faults state (Tells limits faults state is_checkpoint_done over_done (λ turn. IsWhole state turn.after)) (whole_handles limits faults state) turn event step
