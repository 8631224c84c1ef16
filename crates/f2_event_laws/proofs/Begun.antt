-- An fsync that begins.
use Rattle.std.proofs.Common.{◌≡◌, ◌≢◌, ◌⊎◌, inl, inr, ℕ, false, refl, sym, ap, ◌∙◌, subst₂}
use Rattle.std.specs.Prelude.{Some, None}
use Rattle.std.specs.FinMap as map
use Rattle.std.specs.FinSet as set
use Rattle.f2_disk.specs.Contents.{Contents}
use Rattle.f2_model.specs.State.{State, Flight, Progress, InFsync, fresh_progress}
use Rattle.f2_model.specs.Goes.{with_progress}
use Rattle.f2_model.specs.declared.rows.Row.{Row}
use Rattle.f2_model.specs.declared.rows.Kind.TheVariants.{Regular}
use Rattle.f2_stored.specs.Places.{Places}
use Rattle.f2_stored.specs.Trees.{Unwritten}
use Rattle.f2_stored.specs.Layout.{Written, Layout}
use Rattle.f2_stored.specs.Changes.{LeaveTheSame}
use Rattle.f2_stored.specs.Kept.{IsSomeSlot, FsyncStands, AreTied, position_at, IsKept}
use Rattle.f2_event_laws.specs.Begins.{BegunFsyncsKeep}
use Rattle.f2_event_laws.proofs.Maps.{put_here, put_other, found_put}
use Rattle.f2_event_laws.proofs.InMemory.{packs_stay, log_stays}
use Rattle.f2_event_laws.proofs.Flights.{OthersStay, slot_stays, slot_was, no_slot, fsync_file, fsync_progress}
use Rattle.f2_event_laws.proofs.Rest.{stands_alike}

none_some : (flight : Flight) → ¬ (None ≡ Some flight)
none_some flight is = cc

module _ (lists : Contents) (layout : Layout) (state : State) (places : Places) (unwritten : Unwritten) (seat ino : ℕ) (row : Row) (kept : IsKept lists layout state places unwritten) (idle : map.get state.flights seat ≡ None)
    (alone : (other : ℕ) (progress : Progress) → ¬ (map.get state.flights other ≡ Some (InFsync ino progress))) (of_tree : map.get state.live ino ≡ Some row) (regular : row.kind ≡ Regular) where
  abbrev after : State
  after = with_progress state seat ino fresh_progress

  others : OthersStay state after seat
  others other apart = put_other state.flights seat (InFsync ino fresh_progress) other apart

  had_none : (place : ℕ) (one : IsSomeSlot state place) → one.seat ≢ seat
  had_none place one same = none_some (InFsync one.ino one.progress) (sym idle ∙ sym (ap (map.get state.flights) same) ∙ one.in_flight)

  has_none : (place : ℕ) (one : IsSomeSlot after place) → one.seat ≢ seat
  has_none place one = no_slot after seat ino fresh_progress (put_here state.flights seat (InFsync ino fresh_progress)) refl place one

  fates : (place : ℕ) → ((position_at layout place).fate ≡ Written) ⊎ IsSomeSlot state place → ((position_at layout place).fate ≡ Written) ⊎ IsSomeSlot after place
  fates place (inl is) = inl is
  fates place (inr one) = inr (slot_stays state after seat others place one (had_none place one))

  -- an fsync is the one that began, or was in flight
  is_one : (other file : ℕ) (progress : Progress) → map.get after.flights other ≡ Some (InFsync file progress) → ((other ≡ seat) × (InFsync file progress ≡ InFsync ino fresh_progress)) ⊎ ((other ≢ seat) × (map.get state.flights other ≡ Some (InFsync file progress)))
  is_one other file progress found = found_put state.flights seat (InFsync ino fresh_progress) other (InFsync file progress) found

  one_file : (one other file : ℕ) (a b : Progress) → ((one ≡ seat) × (InFsync file a ≡ InFsync ino fresh_progress)) ⊎ ((one ≢ seat) × (map.get state.flights one ≡ Some (InFsync file a)))
      → ((other ≡ seat) × (InFsync file b ≡ InFsync ino fresh_progress)) ⊎ ((other ≢ seat) × (map.get state.flights other ≡ Some (InFsync file b))) → one ≡ other
  one_file one other file a b (inl own) (inl also) = own.0 ∙ sym also.0
  one_file one other file a b (inl own) (inr elder) = absurd (alone other b (elder.1 ∙ ap (λ i. Some (InFsync i b)) (fsync_file file ino a fresh_progress own.1)))
  one_file one other file a b (inr elder) (inl own) = absurd (alone one a (elder.1 ∙ ap (λ i. Some (InFsync i a)) (fsync_file file ino b fresh_progress own.1)))
  one_file one other file a b (inr elder) (inr also) = kept.tied.one_file one other file a b elder.1 also.1

  tied : AreTied layout after places unwritten
  tied = record {
    pages = kept.tied.pages;
    nodes = kept.tied.nodes;
    direct = kept.tied.direct;
    covered = kept.tied.covered;
    count = kept.tied.count;
    fates = λ place small. fates place (kept.tied.fates place small);
    one_slot = λ place a b. kept.tied.one_slot place (slot_was state after seat others place a (has_none place a)) (slot_was state after seat others place b (has_none place b));
    one_file = λ one other file a b of_one of_other. one_file one other file a b (is_one one file a of_one) (is_one other file b of_other);
    open_apart = kept.tied.open_apart;
    next_apart = kept.tied.next_apart;
  }

  own_stands : FsyncStands lists layout after places ino fresh_progress
  own_stands = record { file = (row, of_tree, regular); slot = tt; part = refl }

  fsyncs : (other file : ℕ) (next : Progress) → ((other ≡ seat) × (InFsync file next ≡ InFsync ino fresh_progress)) ⊎ ((other ≢ seat) × (map.get state.flights other ≡ Some (InFsync file next))) → FsyncStands lists layout after places file next
  fsyncs other file next (inl own) = subst₂ (FsyncStands lists layout after places) (sym (fsync_file file ino next fresh_progress own.1)) (sym (fsync_progress file ino next fresh_progress own.1)) own_stands
  fsyncs other file next (inr elder) = stands_alike lists layout state after places refl refl (λ file offset clean. clean) file next (kept.fsyncs other file next elder.1)

  pub begun_kept : IsKept lists layout after places unwritten
  begun_kept = record {
    packs = packs_stay lists layout state after in_memory kept.packs;
    log = log_stays lists layout state after in_memory kept.log;
    none_pending = kept.none_pending;
    proper = kept.proper;
    live = kept.live;
    told = record { told = kept.told.told };
    tied = tied;
    fsyncs = λ other file next found. fsyncs other file next (is_one other file next found);
  }
    where
      in_memory : LeaveTheSame state after
      in_memory = record { base = refl; marks = refl; acknowledged = refl; pending = refl; format = refl; version = refl; next_format = refl }

pub begun_fsyncs : BegunFsyncsKeep
begun_fsyncs lists layout state places unwritten seat ino row whole idle alone of_tree regular kept_whole = record {
  kept = begun_kept lists layout state places unwritten seat ino row whole.kept idle alone of_tree regular;
  dirty = whole.dirty;
  nodes = whole.nodes;
  pages = whole.pages;
  nids = whole.nids;
  owners = whole.owners;
  unshrunk = λ other file next found. unshrunk other file next (found_put state.flights seat (InFsync ino fresh_progress) other (InFsync file next) found);
  logged = whole.logged;
  counts = whole.counts;
}
  where
    unshrunk : (other file : ℕ) (next : Progress) → ((other ≡ seat) × (InFsync file next ≡ InFsync ino fresh_progress)) ⊎ ((other ≢ seat) × (map.get state.flights other ≡ Some (InFsync file next))) → set.contains state.shrunk file ≡ false
    unshrunk other file next (inl own) = ap (set.contains state.shrunk) (fsync_file file ino next fresh_progress own.1) ∙ kept_whole
    unshrunk other file next (inr elder) = whole.unshrunk other file next elder.1
