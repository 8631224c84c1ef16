-- The last flush of a checkpoint.
use Rattle.std.proofs.Common.{◌≡◌, ℕ, ◌<◌, true, refl, sym, ◌∙◌, arith, true≢false}
use Rattle.std.specs.Prelude.{Some}
use Rattle.std.specs.FinMap as map
use Rattle.std.specs.FinSet as set
use Rattle.f2_disk.specs.Contents.{Contents, flushed}
use Rattle.f2_model.specs.State.{State, Flight, InFsync, pair_cmp}
use Rattle.f2_model.specs.Goes.{completes}
use Rattle.f2_model.specs.declared.replies.Plan.{Plan}
use Rattle.f2_stored.specs.Places.{Places}
use Rattle.f2_stored.specs.Trees.{Unwritten, IsLiveAt}
use Rattle.f2_stored.specs.Layout.{Reference, Nids, Owners, Layout}
use Rattle.f2_stored.specs.Kept.{IsSomeSlot, AreTied, IsKept}
use Rattle.f2_change_laws.specs.Checkpointing.{based_on, IsDone}
use Rattle.f2_change_laws.proofs.Checkpoints.{flushed_tails_count}
use Rattle.f2_place_laws.proofs.LiveReads.{live_flushed}
use Rattle.f2_live_laws.proofs.BaseTold.{checkpoints_tell_all}
use Rattle.f2_checkpoint_laws.specs.Done.{all_written, IsBeforeLastFlush, IsReadyForLog, LastFlushesKeep}
use Rattle.f2_checkpoint_laws.proofs.Nobody.{nobody}

-- nothing is dirty
pub none_dirty : (pair : ℕ × ℕ) → ¬ (set.contains {R = pair_cmp} set.empty pair ≡ true)
none_dirty pair dirty = true≢false (sym dirty ∙ set.contains-empty pair_cmp pair)

-- and no place is below none
pub none_there : (place : ℕ) → ¬ (place < 0)
none_there place small = omega (arith, small)

module _ (lists : Contents) (layout : Layout) (state : State) (places : Places) (unwritten : Unwritten) (seat : ℕ) (plan : Plan) (pending : Reference) (nids : Nids) (owners : Owners)
    (is : IsBeforeLastFlush lists layout state places unwritten seat plan pending) (ready : IsReadyForLog (based_on pending nids owners) places) where
  abbrev after : State
  after = (completes state seat plan).after

  idle : (other : ℕ) (flight : Flight) → ¬ (map.get after.flights other ≡ Some flight)
  idle = nobody state.flights seat is.alone

  done : IsDone state after state.live
  done = record { base = refl; marks = refl; acknowledged = refl; pending = refl; format = refl; version = refl }

  -- all that a checkpoint has still to write is written
  live : IsLiveAt lists pending.ckpt.geom state.live places all_written
  live = record {
    laid = is.live.laid;
    nodes = λ ino offset node there out. is.live.nodes ino offset node there (is.written.nodes ino offset node there);
    pages = λ ino page at there out. is.live.pages ino page at there (is.written.pages ino page at there);
    rows = is.live.rows;
  }

  no_slot : (place : ℕ) → ¬ (IsSomeSlot after place)
  no_slot place slot = idle slot.seat (InFsync slot.ino slot.progress) slot.in_flight

  -- the log is empty and nothing is dirty
  tied : AreTied (based_on pending nids owners) after places all_written
  tied = record {
    pages = λ ino page row there regular. refl;
    nodes = λ ino offset dirty. dirty;
    direct = λ ino offset dirty. absurd (none_dirty (ino, offset) dirty);
    covered = λ ino page offset dirty direct. absurd (none_dirty (ino, page) dirty);
    count = refl;
    fates = λ place small. absurd (none_there place small);
    one_slot = λ place a b. absurd (no_slot place a);
    one_file = λ one other ino a b found more. absurd (idle one (InFsync ino a) found);
    open_apart = λ place small is_open. absurd (none_there place small);
    next_apart = λ some. ready.apart;
  }

  kept : IsKept (flushed lists) (based_on pending nids owners) after places all_written
  kept =
      let counts =
      flushed_tails_count lists layout state after pending state.live nids owners is.stored is.there is.tree is.tail done is.early
      ready.address ready.nids ready.owners is.proper in
      record {
        packs = counts.0;
        log = counts.1;
        none_pending = refl;
        proper = is.proper;
        live = live_flushed lists pending.ckpt.geom state.live places all_written live;
        told = checkpoints_tell_all (based_on pending nids owners) after places refl is.stands;
        tied = tied;
        fsyncs = λ other ino progress found. absurd (idle other (InFsync ino progress) found);
      }

pub last_flushes_keep : LastFlushesKeep
last_flushes_keep lists layout state places unwritten seat plan pending nids owners is ready = kept lists layout state places unwritten seat plan pending nids owners is ready
