-- The last flush of an fsync, below whose mark no position is open.
use Rattle.std.proofs.Common.{◌≡◌, ◌≢◌, ◌⊎◌, inl, inr, ℕ, ◌+◌, ◌<◌, ◌≤◌, max, length, refl, sym, subst, arith}
use Rattle.std.specs.Prelude.{Some, None, MatchOption}
use Rattle.std.specs.FinMap as map
use Rattle.std.proofs.lemmas.Bool.{cases_eq, cases_lt}
use Rattle.f2_disk.specs.Contents.{Contents, flushed}
use Rattle.f2_model.specs.State.{State, Marked, Progress, InFsync}
use Rattle.f2_model.specs.Goes.{acknowledges, gap_below}
use Rattle.f2_stored.specs.Places.{Places}
use Rattle.f2_stored.specs.Trees.{Unwritten}
use Rattle.f2_stored.specs.Layout.{Written, Layout, chained}
use Rattle.f2_stored.specs.Marks.{marks_within}
use Rattle.f2_stored.specs.Changes.{LeaveTheSame}
use Rattle.f2_stored.specs.Stored.{KeepsPacks, KeepsLog}
use Rattle.f2_stored.specs.Kept.{IsSomeSlot, HasMarkAt, FsyncStands, AreTied, position_at, IsKept}
use Rattle.f2_change_laws.proofs.Counts.{more_count}
use Rattle.f2_change_laws.proofs.Flushes.{flushes_settle, settled_marks_may_be_acknowledged}
use Rattle.f2_place_laws.proofs.LiveReads.{live_flushed}
use Rattle.f2_event_laws.specs.Acks.{AcknowledgementsKeep}
use Rattle.f2_event_laws.proofs.Maps.{taken_other, found_left}
use Rattle.f2_event_laws.proofs.InMemory.{packs_stay, log_stays}
use Rattle.f2_event_laws.proofs.Flights.{OthersStay, slot_stays, slot_was, no_slot}
use Rattle.f2_event_laws.proofs.Standing.{still_stands, part_of}
use Rattle.f2_event_laws.proofs.Settled.{settled_written, written_first}
use Rattle.f2_event_laws.proofs.LogPlaces.{chain_long}
use Rattle.f2_event_laws.proofs.Drawn.{drawn_stays}
use Rattle.f2_event_laws.proofs.FlushedPages.{one_content, flushed_still}
use Rattle.f2_event_laws.proofs.Gaps.{none_below}

module _ (lists : Contents) (layout : Layout) (state : State) (places : Places) (unwritten : Unwritten) (seat ino : ℕ) (progress : Progress) (kept : IsKept lists layout state places unwritten)
    (there : map.get state.flights seat ≡ Some (InFsync ino progress)) (part : progress.part ≡ Marked) (none : progress.slot ≡ None) (gap : gap_below state progress.position ≡ None) where
  -- the flush settles every position up to the mark's
  abbrev count : ℕ
  count = max layout.settled (progress.position + 1)

  abbrev layout_now : Layout
  layout_now = record layout { settled = count }

  abbrev after : State
  after = (acknowledges state seat ino progress).after

  mark : HasMarkAt layout progress
  mark = (part_of lists layout state places ino progress Marked part (kept.fsyncs seat ino progress there)).1

  own_written : (position_at layout progress.position).fate ≡ Written
  own_written = subst (λ s. MatchOption s ((position_at layout progress.position).fate ≡ Written) (λ slot. slot.position ≡ progress.position)) none mark.own

  written : (place : ℕ) → place < count → (position_at layout place).fate ≡ Written
  written place small = by_settled (cases_lt place layout.settled)
    where
      inside : place < length layout.log
      inside = let first = mark.small in let within = kept.log.log.within in omega (arith, small, first, within)

      by_fate : place < progress.position → ((position_at layout place).fate ≡ Written) ⊎ IsSomeSlot state place → (position_at layout place).fate ≡ Written
      by_fate less (inl is) = is
      by_fate less (inr one) = absurd (none_below state progress.position place gap one less)

      by_place : layout.settled ≤ place → (place ≡ progress.position) ⊎ (place ≢ progress.position) → (position_at layout place).fate ≡ Written
      by_place more (inl same) = subst (λ k. (position_at layout k).fate ≡ Written) (sym same) own_written
      by_place more (inr other) = by_fate (omega (arith, small, more, other)) (kept.tied.fates place inside)

      by_settled : (place < layout.settled) ⊎ (layout.settled ≤ place) → (position_at layout place).fate ≡ Written
      by_settled (inl less) = settled_written lists layout state places unwritten kept place less
      by_settled (inr more) = by_place more (cases_eq place progress.position)

  within : count ≤ length layout.log
  within = let first = mark.small in let few = kept.log.log.within in omega (arith, first, few)

  settled : KeepsPacks (flushed lists) layout_now state × KeepsLog (flushed lists) layout_now state
  settled = flushes_settle lists layout state count kept.packs kept.log (omega arith) within (written_first lists layout state places unwritten kept count within written)

  few : max state.acknowledged (progress.place + 1) ≤ marks_within layout count
  few =
      let long = chain_long layout in
      let first = more_count (chained layout) layout.settled count (omega arith) (omega (arith, within, long)) in
      let second = more_count (chained layout) (progress.position + 1) count (omega arith) (omega (arith, within, long)) in
      let before = kept.log.acknowledged in
      let counted = mark.counted in
      omega (arith, first, second, before, counted)

  abbrev between : State
  between = record state { acknowledged = max state.acknowledged (progress.place + 1) }

  acknowledged : KeepsPacks (flushed lists) layout_now between × KeepsLog (flushed lists) layout_now between
  acknowledged = settled_marks_may_be_acknowledged (flushed lists) layout_now state (max state.acknowledged (progress.place + 1)) settled.0 settled.1 (omega arith) few

  others : OthersStay state after seat
  others other apart = taken_other state.flights seat other apart

  has_none : (place : ℕ) (one : IsSomeSlot after place) → one.seat ≢ seat
  has_none place one = (found_left state.flights seat one.seat (InFsync one.ino one.progress) one.in_flight).0

  fates : (place : ℕ) → ((position_at layout place).fate ≡ Written) ⊎ IsSomeSlot state place → ((position_at layout place).fate ≡ Written) ⊎ IsSomeSlot after place
  fates place (inl is) = inl is
  fates place (inr one) = inr (slot_stays state after seat others place one (no_slot state seat ino progress there none place one))

  tied : AreTied layout_now after places unwritten
  tied = record {
    pages = kept.tied.pages;
    nodes = kept.tied.nodes;
    direct = kept.tied.direct;
    covered = kept.tied.covered;
    count = kept.tied.count;
    fates = λ place small. fates place (kept.tied.fates place small);
    one_slot = λ place a b. kept.tied.one_slot place (slot_was state after seat others place a (has_none place a)) (slot_was state after seat others place b (has_none place b));
    one_file = λ one other file a b of_one of_other. kept.tied.one_file one other file a b (found_left state.flights seat one (InFsync file a) of_one).1 (found_left state.flights seat other (InFsync file b) of_other).1;
    open_apart = kept.tied.open_apart;
    next_apart = kept.tied.next_apart;
  }

  fsyncs : (other file : ℕ) (next : Progress) → map.get state.flights other ≡ Some (InFsync file next) → FsyncStands (flushed lists) layout_now after places file next
  fsyncs other file next found =
      still_stands lists (flushed lists) layout layout_now state after places places file next record {
        live = refl;
        slot = λ slot is stands. record { small = stands.small; is_open = stands.is_open; drawn = drawn_stays state after places file refl (λ offset clean. clean) slot.drawn (position_at layout slot.position).logged.block stands.drawn };
        flushed = flushed_still lists (flushed lists) state after places file refl (one_content lists);
        mark = λ has. record { small = has.small; counted = has.counted; own = has.own };
      } (kept.fsyncs other file next found)

  pub acknowledged_kept : IsKept (flushed lists) (record layout { settled = max layout.settled (progress.position + 1) }) (acknowledges state seat ino progress).after places unwritten
  acknowledged_kept = record {
    packs = packs_stay (flushed lists) layout_now between after in_memory acknowledged.0;
    log = log_stays (flushed lists) layout_now between after in_memory acknowledged.1;
    none_pending = kept.none_pending;
    proper = kept.proper;
    live = live_flushed lists layout.base.ckpt.geom state.live places unwritten kept.live;
    told = record { told = kept.told.told };
    tied = tied;
    fsyncs = λ other file next found. fsyncs other file next (found_left state.flights seat other (InFsync file next) found).1;
  }
    where
      in_memory : LeaveTheSame between after
      in_memory = record { base = refl; marks = refl; acknowledged = refl; pending = refl; format = refl; version = refl; next_format = refl }

pub acknowledgements : AcknowledgementsKeep
acknowledgements lists layout state places unwritten seat ino progress kept there part none gap = record {
  layout = record layout { settled = max layout.settled (progress.position + 1) };
  kept = acknowledged_kept lists layout state places unwritten seat ino progress kept there part none gap;
}
