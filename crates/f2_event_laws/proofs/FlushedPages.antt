-- The first flush of an fsync whose file has no dirty page.
use Rattle.std.proofs.Common.{◌≡◌, ◌≢◌, ◌⊎◌, inl, inr, ℕ, false, [], ◌∷◌, refl, sym, ap, ◌∙◌, subst₂, arith}
use Rattle.std.specs.Prelude.{Some, None}
use Rattle.std.specs.FinMap as map
use Rattle.std.specs.FinSet as set
use Rattle.f2_disk.specs.Contents.{Contents, last_of, flushed}
use Rattle.f2_model.specs.State.{State, InPages, Progress, InFsync, in_nodes}
use Rattle.f2_model.specs.Goes.{with_progress}
use Rattle.f2_image_laws.specs.Chained.{contents_at}
use Rattle.f2_stored.specs.Places.{Places}
use Rattle.f2_stored.specs.Trees.{Unwritten}
use Rattle.f2_stored.specs.Layout.{Written, Layout}
use Rattle.f2_stored.specs.Changes.{LeaveTheSame}
use Rattle.f2_stored.specs.Kept.{IsSomeSlot, AreFlushed, FsyncStands, AreTied, position_at, IsKept}
use Rattle.f2_change_laws.proofs.Crashed.{flushed_at}
use Rattle.f2_change_laws.proofs.Flushes.{flushes_settle}
use Rattle.f2_place_laws.proofs.LiveReads.{live_flushed}
use Rattle.f2_event_laws.specs.Pages.{FlushedPagesKeep}
use Rattle.f2_event_laws.proofs.Maps.{put_here, put_other, found_put}
use Rattle.f2_event_laws.proofs.InMemory.{packs_stay, log_stays}
use Rattle.f2_event_laws.proofs.Flights.{OthersStay, slot_stays, slot_was, no_slot, was_in_flight, fsync_file, fsync_progress}
use Rattle.f2_event_laws.proofs.Standing.{still_stands, part_of}
use Rattle.f2_event_laws.proofs.Drawn.{drawn_stays}
use Rattle.f2_event_laws.proofs.Settled.{settled_written, written_first}

-- after a flush each block has one content
pub one_content : (lists : Contents) (at : ℕ) → contents_at (flushed lists) at ≡ last_of (contents_at (flushed lists) at) ∷ []
one_content lists at = flushed_at lists at ∙ ap (λ content. content ∷ []) (sym (ap last_of (flushed_at lists at)))

-- so pages stay flushed
pub flushed_still : (lists new : Contents) (state after : State) (places : Places) (ino : ℕ) → after.dirty_pages ≡ state.dirty_pages → ((at : ℕ) → contents_at new at ≡ last_of (contents_at new at) ∷ []) → AreFlushed lists state places ino → AreFlushed new after places ino
flushed_still lists new state after places ino same one are = record {
  clean = λ page. ap (λ pages. set.contains pages (ino, page)) same ∙ are.clean page;
  flushed = λ page at there. one at;
}

module _ (lists : Contents) (layout : Layout) (state : State) (places : Places) (unwritten : Unwritten) (seat ino : ℕ) (progress : Progress) (kept : IsKept lists layout state places unwritten)
    (there : map.get state.flights seat ≡ Some (InFsync ino progress)) (part : progress.part ≡ InPages) (clean : (page : ℕ) → set.contains state.dirty_pages (ino, page) ≡ false) where
  abbrev after : State
  after = with_progress state seat ino (in_nodes None)

  others : OthersStay state after seat
  others other apart = put_other state.flights seat (InFsync ino (in_nodes None)) other apart

  stood : FsyncStands lists layout state places ino progress
  stood = kept.fsyncs seat ino progress there

  had_none : progress.slot ≡ None
  had_none = part_of lists layout state places ino progress InPages part stood

  has_none : (place : ℕ) (one : IsSomeSlot after place) → one.seat ≢ seat
  has_none place one = no_slot after seat ino (in_nodes None) (put_here state.flights seat (InFsync ino (in_nodes None))) refl place one

  fates : (place : ℕ) → ((position_at layout place).fate ≡ Written) ⊎ IsSomeSlot state place → ((position_at layout place).fate ≡ Written) ⊎ IsSomeSlot after place
  fates place (inl written) = inl written
  fates place (inr one) = inr (slot_stays state after seat others place one (no_slot state seat ino progress there had_none place one))

  was : (other file : ℕ) (next : Progress) → map.get after.flights other ≡ Some (InFsync file next) → (before : Progress) × (map.get state.flights other ≡ Some (InFsync file before))
  was = was_in_flight state after seat ino progress (in_nodes None) there refl

  tied : AreTied layout after places unwritten
  tied = record {
    pages = kept.tied.pages;
    nodes = kept.tied.nodes;
    direct = kept.tied.direct;
    covered = kept.tied.covered;
    count = kept.tied.count;
    fates = λ place small. fates place (kept.tied.fates place small);
    one_slot = λ place a b. kept.tied.one_slot place (slot_was state after seat others place a (has_none place a)) (slot_was state after seat others place b (has_none place b));
    one_file = λ one other file a b of_one of_other. kept.tied.one_file one other file (was one file a of_one).0 (was other file b of_other).0 (was one file a of_one).1 (was other file b of_other).1;
    open_apart = kept.tied.open_apart;
    next_apart = kept.tied.next_apart;
  }

  -- the seat's own fsync has its pages flushed
  own_flushed : AreFlushed (flushed lists) after places ino
  own_flushed = record { clean = clean; flushed = λ page at there. one_content lists at }

  own_stands : FsyncStands (flushed lists) layout after places ino (in_nodes None)
  own_stands = record { file = stood.file; slot = tt; part = own_flushed }

  fsyncs : (other file : ℕ) (next : Progress) → ((other ≡ seat) × (InFsync file next ≡ InFsync ino (in_nodes None))) ⊎ ((other ≢ seat) × (map.get state.flights other ≡ Some (InFsync file next))) → FsyncStands (flushed lists) layout after places file next
  fsyncs other file next (inl own) =
      let file_is : file ≡ ino = fsync_file file ino next (in_nodes None) own.1 in
      let next_is : next ≡ in_nodes None = fsync_progress file ino next (in_nodes None) own.1 in
      subst₂ (FsyncStands (flushed lists) layout after places) (sym file_is) (sym next_is) own_stands
  fsyncs other file next (inr elder) =
      still_stands lists (flushed lists) layout layout state after places places file next record {
        live = refl;
        slot = λ slot is stands. record { small = stands.small; is_open = stands.is_open; drawn = drawn_stays state after places file refl (λ offset clean. clean) slot.drawn (position_at layout slot.position).logged.block stands.drawn };
        flushed = flushed_still lists (flushed lists) state after places file refl (one_content lists);
        mark = λ has. has;
      } (kept.fsyncs other file next elder.1)

  pub flushed_pages_stand : IsKept (flushed lists) layout after places unwritten
  flushed_pages_stand =
      let settled = flushes_settle lists layout state layout.settled kept.packs kept.log (omega arith) kept.log.log.within (written_first lists layout state places unwritten kept layout.settled kept.log.log.within (settled_written lists layout state places unwritten kept)) in
      record {
        packs = packs_stay (flushed lists) layout state after in_memory settled.0;
        log = log_stays (flushed lists) layout state after in_memory settled.1;
        none_pending = kept.none_pending;
        proper = kept.proper;
        live = live_flushed lists layout.base.ckpt.geom state.live places unwritten kept.live;
        told = record { told = kept.told.told };
        tied = tied;
        fsyncs = λ other file next found. fsyncs other file next (found_put state.flights seat (InFsync ino (in_nodes None)) other (InFsync file next) found);
      }
    where
      in_memory : LeaveTheSame state after
      in_memory = record { base = refl; marks = refl; acknowledged = refl; pending = refl; format = refl; version = refl; next_format = refl }

pub flushed_pages : FlushedPagesKeep
flushed_pages lists layout state places unwritten seat ino progress kept there part clean = flushed_pages_stand lists layout state places unwritten seat ino progress kept there part clean
