-- The block of an fsync's slot that was written at the slot's position.
use Rattle.std.proofs.Common.{◌≡◌, ◌≢◌, ◌⊎◌, inl, inr, ℕ, ◌+◌, ◌<◌, false, List, [], ◌∷◌, length, refl, sym, ap, ◌∙◌, subst, subst₂, arith, true≢false}
use Rattle.std.specs.Prelude.{Option, Some, None, MatchOption}
use Rattle.std.proofs.lemmas.Bool.{cases_eq}
use Rattle.std.specs.FinMap as map
use Rattle.std.specs.FinSet as set
use Rattle.f2_format.specs.Offsets.{direct_slot}
use Rattle.f2_disk.specs.Contents.{Contents, IsWritten, last_of}
use Rattle.f2_model.specs.State.{State, Part, InPages, InNodes, Marked, Drawn, DrawnNode, DrawnMark, Slot, Progress, InFsync}
use Rattle.f2_model.specs.Goes.{with_progress}
use Rattle.f2_image.specs.Nodes.{node, word_of}
use Rattle.f2_image.specs.Chains.{Logged, last_before, or_below, base_direct}
use Rattle.f2_stored.specs.Places.{NodeAt, Places, nid_of, nid_at, IsNodeBlock}
use Rattle.f2_stored.specs.Trees.{Unwritten}
use Rattle.f2_stored.specs.Layout.{Position, Open, Written, Layout}
use Rattle.f2_stored.specs.Ties.{LogTellsLive, told_address}
use Rattle.f2_stored.specs.Changes.{LeaveTheSame, with_fate}
use Rattle.f2_stored.specs.Kept.{IsElsewhere, IsBlockFor, IsDrawnFor, IsSlotOf, IsSomeSlot, AreFlushed, HasMarkAt, PartStands, FsyncStands, AreTied, position_at, IsKept}
use Rattle.f2_change_laws.proofs.Submits.{submits_keep}
use Rattle.f2_place_laws.specs.Living.{with_node, node_written}
use Rattle.f2_place_laws.proofs.LiveNodes.{live_with_node}
use Rattle.f2_place_laws.proofs.WrittenBlocks.{written_other}
use Rattle.f2_event_laws.specs.Nodes.{offset_of, SubmittedSlotsKeep}
use Rattle.f2_event_laws.proofs.Maps as maps
use Rattle.f2_event_laws.proofs.InMemory.{packs_stay, log_stays}
use Rattle.f2_event_laws.proofs.Flights.{OthersStay, slot_stays, slot_was, no_slot, own_place, was_in_flight, fsync_file, fsync_progress}
use Rattle.f2_event_laws.proofs.Standing.{still_stands, slot_of}
use Rattle.f2_event_laws.proofs.LogPlaces.{is_address, addresses_apart, next_apart, as_long, position_here, position_other, same_chain, written_count, written_mark}
use Rattle.f2_event_laws.proofs.MovedNodes.{elsewhere, block_for}
use Rattle.f2_event_laws.proofs.Sets.{still_in_without}
use Rattle.f2_event_laws.proofs.Drawn.{block_of_drawn, drawn_is_clean}

written_not_open : ¬ (Written ≡ Open)
written_not_open is = cc

module _ (lists new : Contents) (layout : Layout) (state : State) (places : Places) (unwritten : Unwritten) (seat ino : ℕ) (progress : Progress) (slot : Slot)
    (kept : IsKept lists layout state places unwritten) (there : map.get state.flights seat ≡ Some (InFsync ino progress)) (has : progress.slot ≡ Some slot) where
  abbrev one : Logged
  one = (position_at layout slot.position).logged

  abbrev offset : ℕ
  offset = offset_of slot.drawn

  abbrev node_now : NodeAt
  node_now = record { nid = nid_at places ino (offset_of slot.drawn); at = one.at }

  abbrev layout_now : Layout
  layout_now = with_fate layout slot.position Written

  abbrev progress_now : Progress
  progress_now = record progress { slot = None }

  abbrev after : State
  after = with_progress state seat ino progress_now

  abbrev places_now : Places
  places_now = with_node places ino offset node_now

  abbrev left : Unwritten
  left = node_written unwritten ino offset

  stood : FsyncStands lists layout state places ino progress
  stood = kept.fsyncs seat ino progress there

  own_slot : IsSlotOf layout state places ino slot
  own_slot = slot_of lists layout state places ino progress slot has stood

  own_block : IsBlockFor state places ino offset one.block
  own_block = block_of_drawn state places ino slot.drawn one.block own_slot.drawn

  clean_node : set.contains state.dirty_nodes (ino, offset) ≡ false
  clean_node = drawn_is_clean layout state places unwritten kept.tied ino slot.drawn one.block own_slot.drawn

  free : IsElsewhere places one.at
  free = kept.tied.open_apart slot.position own_slot.small own_slot.is_open

  told : LogTellsLive layout_now after places_now
  told = record {
    told = λ file page low row there regular whole direct clean. same_told file low page ∙ kept.told.told file page low row there regular whole direct clean;
  }
    where
      same_told : (file low page : ℕ) → told_address layout_now file low page ≡ told_address layout file low page
      same_told file low page =
          ap (λ (chain : List Logged). word_of (or_below (last_before chain (length chain) file low) (base_direct layout.base.image layout.base.ckpt (node layout.base.image layout.base.ckpt file) page)) (direct_slot page))
          (same_chain layout slot.position Written own_slot.small)

  others : OthersStay state after seat
  others other apart = maps.put_other state.flights seat (InFsync ino progress_now) other apart

  has_none : (place : ℕ) (one : IsSomeSlot after place) → one.seat ≢ seat
  has_none place one = no_slot after seat ino progress_now (maps.put_here state.flights seat (InFsync ino progress_now)) refl place one

  fates : (place : ℕ) → (place ≡ slot.position) ⊎ (place ≢ slot.position) → ((position_at layout place).fate ≡ Written) ⊎ IsSomeSlot state place → ((position_at layout_now place).fate ≡ Written) ⊎ IsSomeSlot after place
  fates place (inl same) is = inl (ap (λ k. (position_at layout_now k).fate) same ∙ ap (λ (p : Position). p.fate) (position_here layout slot.position Written own_slot.small))
  fates place (inr other) (inl written) = inl (ap (λ (p : Position). p.fate) (position_other layout slot.position Written own_slot.small place other) ∙ written)
  fates place (inr other) (inr found) = inr (slot_stays state after seat others place found (λ same. other (sym (own_place state seat ino progress slot there has place found same))))

  was : (other file : ℕ) (next : Progress) → map.get after.flights other ≡ Some (InFsync file next) → (before : Progress) × (map.get state.flights other ≡ Some (InFsync file before))
  was = was_in_flight state after seat ino progress progress_now there refl

  -- a position that is still open is another one
  still_open : (place : ℕ) → (position_at layout_now place).fate ≡ Open → place ≢ slot.position
  still_open place is_open same =
      written_not_open (sym (ap (λ k. (position_at layout_now k).fate) same ∙ ap (λ (p : Position). p.fate) (position_here layout slot.position Written own_slot.small)) ∙ is_open)

  open_apart : (place : ℕ) → place < length layout_now.log → (position_at layout_now place).fate ≡ Open → IsElsewhere places_now (position_at layout_now place).logged.at
  open_apart place small is_open =
      let other = still_open place is_open in
      let same : position_at layout_now place ≡ position_at layout place = position_other layout slot.position Written own_slot.small place other in
      let inside : place < length layout.log = omega (arith, small, as_long layout slot.position Written own_slot.small) in
      subst (λ (p : Position). IsElsewhere places_now p.logged.at) (sym same)
      (elsewhere places ino offset one.at (position_at layout place).logged.at (addresses_apart lists layout kept.log.log slot.position place own_slot.small inside (λ e. other (sym e)))
      (kept.tied.open_apart place inside (ap (λ (p : Position). p.fate) (sym same) ∙ is_open)))

  tied : AreTied layout_now after places_now left
  tied = record {
    pages = kept.tied.pages;
    nodes = λ file low dirty. still_in_without unwritten.nodes (ino, offset) (file, low) (λ same. true≢false (sym dirty ∙ ap (set.contains state.dirty_nodes) same ∙ clean_node)) (kept.tied.nodes file low dirty);
    direct = kept.tied.direct;
    covered = kept.tied.covered;
    count = kept.tied.count ∙ sym (as_long layout slot.position Written own_slot.small);
    fates = λ place small. fates place (cases_eq place slot.position) (kept.tied.fates place (omega (arith, small, as_long layout slot.position Written own_slot.small)));
    one_slot = λ place a b. kept.tied.one_slot place (slot_was state after seat others place a (has_none place a)) (slot_was state after seat others place b (has_none place b));
    one_file = λ one other file a b of_one of_other. kept.tied.one_file one other file (was one file a of_one).0 (was other file b of_other).0 (was one file a of_one).1 (was other file b of_other).1;
    open_apart = open_apart;
    next_apart = λ some. elsewhere places ino offset one.at layout.next (next_apart lists layout kept.log.log slot.position own_slot.small) (kept.tied.next_apart some);
  }

  own_mark : HasMarkAt layout progress → HasMarkAt layout_now progress_now
  own_mark mark = record {
    small = (let small = mark.small in omega (arith, small, as_long layout slot.position Written own_slot.small));
    counted = (let counted = mark.counted in omega (arith, counted, written_count layout slot.position own_slot.small (progress.position + 1)));
    own = ap (λ k. (position_at layout_now k).fate) (sym at_mark) ∙ ap (λ (p : Position). p.fate) (position_here layout slot.position Written own_slot.small);
  }
    where
      at_mark : slot.position ≡ progress.position
      at_mark = subst (λ (s : Option Slot). MatchOption s ((position_at layout progress.position).fate ≡ Written) (λ slot. slot.position ≡ progress.position)) has mark.own

  module _ (content : List ℕ) (written : IsWritten one.at content lists new) where
    flushed_still : (file : ℕ) → AreFlushed lists state places file → AreFlushed new after places_now file
    flushed_still file flushed = record {
      clean = flushed.clean;
      flushed = λ page a found.
          let same = written_other lists new one.at content written a (free.pages file page a found) in
          same ∙ flushed.flushed page a found ∙ sym (ap (λ list. last_of list ∷ []) same);
    }

    own_part : (part : Part) → PartStands lists layout state places ino progress part → PartStands new layout_now after places_now ino progress_now part
    own_part InPages stands = refl
    own_part InNodes stands = flushed_still ino stands
    own_part Marked stands = (flushed_still ino stands.0, own_mark stands.1)

    own_stands : FsyncStands new layout_now after places_now ino progress_now
    own_stands = record { file = stood.file; slot = tt; part = own_part progress.part stood.part }

    -- a block for a node of another file is still one
    other_block : (file low : ℕ) (block : List ℕ) → file ≢ ino → IsBlockFor state places file low block → IsBlockFor after places_now file low block
    other_block file low block apart is = block_for places ino offset one.at state after refl file low block (λ same. apart (ap (λ (q : ℕ × ℕ). q.0) same)) is

    other_drawn : (file : ℕ) (drawn : Drawn) (block : List ℕ) → file ≢ ino → IsDrawnFor state places file drawn block → IsDrawnFor after places_now file drawn block
    other_drawn file (DrawnNode low) block apart is = (is.0, is.1, other_block file low block apart is.2)
    other_drawn file DrawnMark block apart is = other_block file 0 block apart is

    other_slot : (other file : ℕ) (next : Progress) (its : Slot) → other ≢ seat → map.get state.flights other ≡ Some (InFsync file next) → next.slot ≡ Some its → IsSlotOf layout state places file its → IsSlotOf layout_now after places_now file its
    other_slot other file next its apart found is stands =
        let away : its.position ≢ slot.position =
        (λ same.
        apart (kept.tied.one_slot its.position (record { seat = other; ino = file; progress = next; slot = its; in_flight = found; is_open = is; at_place = refl })
        (record { seat = seat; ino = ino; progress = progress; slot = slot; in_flight = there; is_open = has; at_place = sym same }))) in
        let same : position_at layout_now its.position ≡ position_at layout its.position = position_other layout slot.position Written own_slot.small its.position away in
        let other_file : file ≢ ino =
        (λ e. apart (kept.tied.one_file other seat ino next progress (found ∙ ap (λ i. Some (InFsync i next)) e) there)) in
        record {
          small = (let small = stands.small in omega (arith, small, as_long layout slot.position Written own_slot.small));
          is_open = ap (λ (p : Position). p.fate) same ∙ stands.is_open;
          drawn = subst (λ (p : Position). IsDrawnFor after places_now file its.drawn p.logged.block) (sym same) (other_drawn file its.drawn (position_at layout its.position).logged.block other_file stands.drawn);
        }

    fsyncs : (other file : ℕ) (next : Progress) → ((other ≡ seat) × (InFsync file next ≡ InFsync ino progress_now)) ⊎ ((other ≢ seat) × (map.get state.flights other ≡ Some (InFsync file next))) → FsyncStands new layout_now after places_now file next
    fsyncs other file next (inl own) =
        subst₂ (FsyncStands new layout_now after places_now) (sym (fsync_file file ino next progress_now own.1)) (sym (fsync_progress file ino next progress_now own.1)) own_stands
    fsyncs other file next (inr elder) =
        still_stands lists new layout layout_now state after places places_now file next record {
          live = refl;
          slot = λ its is stands. other_slot other file next its elder.0 elder.1 is stands;
          flushed = flushed_still file;
          mark = written_mark layout slot.position own_slot.small next;
        } (kept.fsyncs other file next elder.1)

pub submitted_slots : SubmittedSlotsKeep
submitted_slots lists new layout state places unwritten seat ino progress slot kept there has within block written =
    let own = own_slot lists new layout state places unwritten seat ino progress slot kept there has in
    let node_block_for = own_block lists new layout state places unwritten seat ino progress slot kept there has in
    let now : Layout = with_fate layout slot.position Written in
    let disk = (submits_keep lists new layout state slot.position kept.packs kept.log kept.none_pending own.small own.is_open within block).0 written in
    record {
      packs = packs_stay new now state (with_progress state seat ino (record progress { slot = None })) in_memory disk.0;
      log = log_stays new now state (with_progress state seat ino (record progress { slot = None })) in_memory disk.1;
      none_pending = kept.none_pending;
      proper = kept.proper;
      live = live_with_node layout.base.ckpt.geom state.live places ino (offset_of slot.drawn) node_block_for.node (record { nid = nid_at places ino (offset_of slot.drawn); at = (position_at layout slot.position).logged.at }) node_block_for.there (ap nid_of node_block_for.there)
          lists new unwritten (position_at layout slot.position).logged.block kept.live (free lists new layout state places unwritten seat ino progress slot kept there has)
          (record { in_zone = (is_address lists layout kept.log.log slot.position own.small).0; own = here node_block_for; inode = node_block_for.inode }) within written;
      told = told lists new layout state places unwritten seat ino progress slot kept there has;
      tied = tied lists new layout state places unwritten seat ino progress slot kept there has;
      fsyncs = λ other file next found.
          fsyncs lists new layout state places unwritten seat ino progress slot kept there has (position_at layout slot.position).logged.block written other file next
          (maps.found_put state.flights seat (InFsync ino (record progress { slot = None })) other (InFsync file next) found);
    }
  where
    in_memory : LeaveTheSame state (with_progress state seat ino (record progress { slot = None }))
    in_memory = record { base = refl; marks = refl; acknowledged = refl; pending = refl; format = refl; version = refl; next_format = refl }

    here : (is : IsBlockFor state places ino (offset_of slot.drawn) (position_at layout slot.position).logged.block)
        → IsNodeBlock places ino (offset_of slot.drawn) (record { nid = nid_at places ino (offset_of slot.drawn); at = (position_at layout slot.position).logged.at }) (position_at layout slot.position).logged.block
    here is = record {
      footer_nid = is.own.footer_nid ∙ sym (ap nid_of is.there);
      footer_ino = is.own.footer_ino;
      footer_offset = is.own.footer_offset;
      lower = is.own.lower;
      pages = is.own.pages;
    }
