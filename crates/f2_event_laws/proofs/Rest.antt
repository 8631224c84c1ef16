-- What a running volume keeps, whatever changes of the machine's state but for the tree, what is dirty, the log and the fsyncs.
use Rattle.std.proofs.Common.{◌≡◌, ◌≢◌, ◌⊎◌, inl, inr, ℕ, false, Option, refl, sym, ap, ◌∙◌, subst}
use Rattle.std.specs.Prelude.{Some, None}
use Rattle.std.specs.FinMap as map
use Rattle.std.specs.FinSet as set
use Rattle.f2_disk.specs.Contents.{Contents}
use Rattle.f2_model.specs.State.{State, Flight, Progress, InFsync, InCheck}
use Rattle.f2_model.specs.Begins.{checking}
use Rattle.f2_stored.specs.Places.{Places}
use Rattle.f2_stored.specs.Trees.{Unwritten}
use Rattle.f2_stored.specs.Layout.{Written, Reference, Layout}
use Rattle.f2_stored.specs.Bases.{HasFormat}
use Rattle.f2_stored.specs.Stored.{KeepsPacks, KeepsLog}
use Rattle.f2_stored.specs.Kept.{IsSomeSlot, FsyncStands, position_at, IsKept}
use Rattle.f2_stored.specs.Whole.{IsKeptWhole}
use Rattle.f2_event_laws.specs.Begins.{with_rest, HaveSameFsyncs, RestCountsForNothing, EntriesCountForNothing, BegunChecksCountForNothing}
use Rattle.f2_event_laws.proofs.Drawn.{drawn_stays}
use Rattle.f2_event_laws.proofs.Maps.{put_other, found_put}
use Rattle.f2_event_laws.proofs.Standing.{still_stands}

-- an fsync stands where it stood, as long as the live tree stays and nothing becomes dirty
pub stands_alike : (lists : Contents) (layout : Layout) (state after : State) (places : Places) → after.live ≡ state.live → after.dirty_pages ≡ state.dirty_pages
    → ((file offset : ℕ) → set.contains state.dirty_nodes (file, offset) ≡ false → set.contains after.dirty_nodes (file, offset) ≡ false)
    → (file : ℕ) (next : Progress) → FsyncStands lists layout state places file next → FsyncStands lists layout after places file next
stands_alike lists layout state after places live pages nodes file next stands =
    still_stands lists lists layout layout state after places places file next record {
      live = live;
      slot = λ slot is of. record { small = of.small; is_open = of.is_open; drawn = drawn_stays state after places file live (nodes file) slot.drawn (position_at layout slot.position).logged.block of.drawn };
      flushed = λ are. record { clean = λ page. ap (λ p. set.contains p (file, page)) pages ∙ are.clean page; flushed = are.flushed };
      mark = λ has. has;
    } stands

module _ (lists : Contents) (layout : Layout) (state rest : State) (places : Places) (unwritten : Unwritten) (same : HaveSameFsyncs state rest) where
  abbrev after : State
  after = with_rest state rest

  abbrev slot_there : (place : ℕ) → IsSomeSlot state place → IsSomeSlot after place
  slot_there place one = record { seat = one.seat; ino = one.ino; progress = one.progress; slot = one.slot; in_flight = same.there one.seat one.ino one.progress one.in_flight; is_open = one.is_open; at_place = one.at_place }

  abbrev slot_back : (place : ℕ) → IsSomeSlot after place → IsSomeSlot state place
  slot_back place one = record { seat = one.seat; ino = one.ino; progress = one.progress; slot = one.slot; in_flight = same.back one.seat one.ino one.progress one.in_flight; is_open = one.is_open; at_place = one.at_place }

  fates : (place : ℕ) → ((position_at layout place).fate ≡ Written) ⊎ IsSomeSlot state place → ((position_at layout place).fate ≡ Written) ⊎ IsSomeSlot after place
  fates place (inl is) = inl is
  fates place (inr one) = inr (slot_there place one)

  packs_alike : layout.pending ≡ None → KeepsPacks lists layout state → KeepsPacks lists layout after
  packs_alike alone keeps = record {
    whole = keeps.whole;
    packs = keeps.packs;
    no_later = keeps.no_later;
    pending = keeps.pending;
    format = keeps.format;
    next_format = subst (λ (pending : Option Reference). HasFormat pending rest.next_format) (sym alone) tt;
    version = keeps.version;
    early = keeps.early;
  }

  log_alike : KeepsLog lists layout state → KeepsLog lists layout after
  log_alike keeps = record {
    base = keeps.base;
    no_log = keeps.no_log;
    log = keeps.log;
    nids = keeps.nids;
    owners = keeps.owners;
    marks = keeps.marks;
    acknowledged = keeps.acknowledged;
    fitting = record { base = keeps.fitting.base; names = keeps.fitting.names; trees = keeps.fitting.trees };
  }

  pub kept_alike : IsKept lists layout state places unwritten → IsKept lists layout after places unwritten
  kept_alike kept = record {
    packs = packs_alike kept.none_pending kept.packs;
    log = log_alike kept.log;
    none_pending = kept.none_pending;
    proper = kept.proper;
    live = kept.live;
    told = record { told = kept.told.told };
    tied = record {
      pages = kept.tied.pages;
      nodes = kept.tied.nodes;
      direct = kept.tied.direct;
      covered = kept.tied.covered;
      count = kept.tied.count;
      fates = λ place small. fates place (kept.tied.fates place small);
      one_slot = λ place a b. kept.tied.one_slot place (slot_back place a) (slot_back place b);
      one_file = λ one other file a b of_one of_other. kept.tied.one_file one other file a b (same.back one file a of_one) (same.back other file b of_other);
      open_apart = kept.tied.open_apart;
      next_apart = kept.tied.next_apart;
    };
    fsyncs = λ seat file next found. stands_alike lists layout state after places refl refl (λ file offset clean. clean) file next (kept.fsyncs seat file next (same.back seat file next found));
  }

  pub whole_alike : IsKeptWhole lists layout state places unwritten → IsKeptWhole lists layout after places unwritten
  whole_alike whole = record {
    kept = kept_alike whole.kept;
    dirty = whole.dirty;
    nodes = whole.nodes;
    pages = whole.pages;
    nids = whole.nids;
    owners = whole.owners;
    unshrunk = λ seat ino progress found. whole.unshrunk seat ino progress (same.back seat ino progress found);
    logged = whole.logged;
    counts = whole.counts;
  }

pub rest_for_nothing : RestCountsForNothing
rest_for_nothing lists layout state rest places unwritten same = (kept_alike lists layout state rest places unwritten same, whole_alike lists layout state rest places unwritten same)

pub entries_for_nothing : EntriesCountForNothing
entries_for_nothing lists layout state places unwritten entries whole =
    whole_alike lists layout state (record state { entries = entries }) places unwritten (record { there = λ seat ino progress is. is; back = λ seat ino progress is. is }) whole

pub begun_checks : BegunChecksCountForNothing
begun_checks lists layout state places unwritten seat plan whole idle = whole_alike lists layout state (checking state seat plan) places unwritten (record { there = there; back = back }) whole
  where
    none_some : (flight : Flight) → ¬ (None ≡ Some flight)
    none_some flight is = cc

    no_fsync : (ino : ℕ) (progress : Progress) → ¬ (InFsync ino progress ≡ InCheck plan)
    no_fsync ino progress is = cc

    there : (other ino : ℕ) (progress : Progress) → map.get state.flights other ≡ Some (InFsync ino progress) → map.get (checking state seat plan).flights other ≡ Some (InFsync ino progress)
    there other ino progress is =
        let apart : other ≢ seat = λ same. none_some (InFsync ino progress) (sym idle ∙ sym (ap (map.get state.flights) same) ∙ is) in
        put_other state.flights seat (InCheck plan) other apart ∙ is

    back : (other ino : ℕ) (progress : Progress) → map.get (checking state seat plan).flights other ≡ Some (InFsync ino progress) → map.get state.flights other ≡ Some (InFsync ino progress)
    back other ino progress is = by_case (found_put state.flights seat (InCheck plan) other (InFsync ino progress) is)
      where
        by_case : ((other ≡ seat) × (InFsync ino progress ≡ InCheck plan)) ⊎ ((other ≢ seat) × (map.get state.flights other ≡ Some (InFsync ino progress))) → map.get state.flights other ≡ Some (InFsync ino progress)
        by_case (inl own) = absurd (no_fsync ino progress own.1)
        by_case (inr elder) = elder.1
