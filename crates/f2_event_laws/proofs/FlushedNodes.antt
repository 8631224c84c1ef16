-- A dirty direct node for which the flusher drew the next position and wrote it there.
use Rattle.std.proofs.Common.{◌≡◌, ◌≢◌, ◌⊎◌, inl, inr, ℕ, ◌+◌, ◌<◌, true, false, List, [], ◌∷◌, length, refl, sym, ap, ◌∙◌, subst, arith, true≢false}
use Rattle.std.specs.Prelude.{Some}
use Rattle.std.specs.FinMap as map
use Rattle.std.specs.FinSet as set
use Rattle.std.proofs.lemmas.Bool.{cases_eq}
use Rattle.f2_disk.specs.Contents.{Contents, IsBlock, IsWritten, IsWriteFailed, last_of}
use Rattle.f2_model.specs.State.{State, Drawn, DrawnNode, DrawnMark, Slot, Progress, InFsync}
use Rattle.f2_model.specs.Goes.{node_logged}
use Rattle.f2_image.specs.Chains.{Logged, is_marked, last_before, or_below, base_direct}
use Rattle.f2_image.specs.Nodes.{node, word_of}
use Rattle.f2_image.specs.Reached.{IsDirect}
use Rattle.f2_format.specs.Footer.{footer_next}
use Rattle.f2_format.specs.Offsets.{direct_slot}
use Rattle.f2_change_laws.specs.Drawing.{MayBeDrawn}
use Rattle.f2_change_laws.proofs.Draws.{nodes_may_be_drawn}
use Rattle.f2_change_laws.proofs.Submits.{submits_keep}
use Rattle.f2_live_laws.proofs.Told.{drawn_nodes_are_told}
use Rattle.f2_place_laws.specs.Living.{node_written}
use Rattle.f2_place_laws.proofs.LiveNodes.{live_with_node}
use Rattle.f2_place_laws.proofs.Pairs.{pair, still_there}
use Rattle.f2_place_laws.proofs.WrittenBlocks.{written_other}
use Rattle.f2_stored.specs.Places.{Places, nid_of, IsNodeBlock}
use Rattle.f2_stored.specs.Trees.{Unwritten, IsLiveAt}
use Rattle.f2_stored.specs.Layout.{Fate, Open, Written, Failed, Position, Layout}
use Rattle.f2_stored.specs.Logs.{IsLogAddress}
use Rattle.f2_stored.specs.Ties.{LogTellsLive, told_address}
use Rattle.f2_stored.specs.Changes.{LeaveTheSame, with_drawn}
use Rattle.f2_stored.specs.Stored.{KeepsPacks, KeepsLog}
use Rattle.f2_stored.specs.Kept.{IsElsewhere, IsBlockFor, IsDrawnFor, IsSlotOf, IsSomeSlot, AreFlushed, FsyncStands, AreTied, position_at, IsKept}
use Rattle.f2_stored.specs.Whole.{IsKeptWhole}
use Rattle.f2_event_laws.specs.Flusher.{with_logged, FlushedNodesKeep}
use Rattle.f2_event_laws.specs.WholeNodes.{MayComeNext}
use Rattle.f2_event_laws.proofs.Drawn.{no_direct_inode}
use Rattle.f2_event_laws.proofs.DrawnSlots.{one_longer, position_before, position_last, mark_still}
use Rattle.f2_event_laws.proofs.InMemory.{packs_stay, log_stays}
use Rattle.f2_event_laws.proofs.LogPlaces.{next_apart, as_long, position_here, position_other, same_chain, written_mark}
use Rattle.f2_event_laws.proofs.MovedNodes.{moved, moved_node, block_for, elsewhere, moved_nids}
use Rattle.f2_event_laws.proofs.Reach.{node_on_disk}
use Rattle.f2_event_laws.proofs.Sets.{was_in, still_out, still_in_without, taken}
use Rattle.f2_event_laws.proofs.Standing.{still_stands}
use Rattle.f2_event_laws.proofs.WholeDrawn.{drawn_nids, drawn_logged, drawn_counts}
use Rattle.f2_event_laws.proofs.WholeNodes.{node_may_be_drawn, fated_counts, fated_logged, fated_nid}

written_not_open : ¬ (Written ≡ Open)
written_not_open is = cc

-- the packs and the log of a disk once the block was written at its position, or wasn't
pub record Submitted (lists new : Contents) (layout : Layout) (state : State) (block : List ℕ) : Type 0 where
  pub made : IsWritten layout.next block lists new → KeepsPacks new (with_logged layout block Written) state × KeepsLog new (with_logged layout block Written) state
  pub failed : IsWriteFailed layout.next block lists new → KeepsPacks new (with_logged layout block Failed) state × KeepsLog new (with_logged layout block Failed) state

module _ (lists : Contents) (layout : Layout) (state : State) (places : Places) (unwritten : Unwritten) (ino offset : ℕ) (block : List ℕ)
    (whole : IsKeptWhole lists layout state places unwritten) (dirty : set.contains state.dirty_nodes (ino, offset) ≡ true) (may : MayComeNext layout state places block) (is : IsBlockFor state places ino offset block) where
  abbrev drawn_layout : Layout
  drawn_layout = with_drawn layout block layout.owners

  abbrev place : ℕ
  place = length layout.log

  abbrev after : State
  after = node_logged state ino offset

  pub its_node_drawn : MayBeDrawn layout block
  its_node_drawn = node_may_be_drawn lists layout state places unwritten block whole may ino offset is (whole.kept.tied.direct ino offset dirty)

  pub place_there : length layout.log < length drawn_layout.log
  place_there = omega (arith, one_longer layout block layout.owners)

  pub its_position : position_at (with_drawn layout block layout.owners) (length layout.log) ≡ record { logged = record { at = layout.next; block = block }; fate = Open }
  its_position = position_last layout block layout.owners (length layout.log) refl

  pub next_zone : IsLogAddress layout layout.next
  next_zone = whole.kept.log.log.next may.there

  pub next_on_disk : layout.next < length lists
  next_on_disk = node_on_disk lists layout state whole.kept.log layout.next next_zone.0

  -- the node's new address is none of the live tree's
  free : IsElsewhere places layout.next
  free = whole.kept.tied.next_apart may.there

  -- the layout, once the write of the block ended
  module _ (fate : Fate) where
    abbrev layout_now : Layout
    layout_now = with_logged layout block fate

    now_long : length layout_now.log ≡ length layout.log + 1
    now_long = as_long drawn_layout place fate place_there ∙ one_longer layout block layout.owners

    position_now : position_at layout_now place ≡ record { logged = record { at = layout.next; block = block }; fate = fate }
    position_now = position_here drawn_layout place fate place_there ∙ ap (λ (p : Position). record p { fate = fate }) its_position

    position_elder : (k : ℕ) → k < place → position_at layout_now k ≡ position_at layout k
    position_elder k less = position_other drawn_layout place fate place_there k (λ same. omega (arith, less, same)) ∙ position_before layout block layout.owners k less

  -- the block tells the places of the direct node, and the log tells them from then on
  told : LogTellsLive (layout_now Written) after (moved places ino offset layout.next)
  told =
      let tells = drawn_nodes_are_told layout state places ino offset is.node block layout.owners whole.kept.told (whole.kept.tied.direct ino offset dirty) is.own in
      record { told = λ file page low row there regular kept direct clean. same_told file low page ∙ tells.told file page low row there regular kept direct clean }
    where
      same_told : (file low page : ℕ) → told_address (layout_now Written) file low page ≡ told_address drawn_layout file low page
      same_told file low page =
          ap (λ (chain : List Logged). word_of (or_below (last_before chain (length chain) file low) (base_direct layout.base.image layout.base.ckpt (node layout.base.image layout.base.ckpt file) page)) (direct_slot page))
          (same_chain drawn_layout place Written place_there)

  -- the slot of an fsync is of another node, and stands where it stood
  other_node : (file : ℕ) (drawn : Drawn) (its : List ℕ) → IsDrawnFor state places file drawn its → IsDrawnFor after (moved places ino offset layout.next) file drawn its
  other_node file (DrawnNode low) its stands =
      let apart : pair file low ≢ pair ino offset = λ same. true≢false (sym dirty ∙ sym (ap (set.contains state.dirty_nodes) same) ∙ stands.1) in
      (stands.0, still_out state.dirty_nodes (ino, offset) (file, low) stands.1, block_for places ino offset layout.next state after refl file low its apart stands.2)
  other_node file DrawnMark its stands =
      let apart : pair file 0 ≢ pair ino offset = λ same. no_direct_inode (subst IsDirect (sym (ap (λ (q : ℕ × ℕ). q.1) same)) (whole.kept.tied.direct ino offset dirty)) in
      block_for places ino offset layout.next state after refl file 0 its apart stands

  slot_still : (file : ℕ) (slot : Slot) → IsSlotOf layout state places file slot → IsSlotOf (layout_now Written) after (moved places ino offset layout.next) file slot
  slot_still file slot stands =
      let same = position_elder Written slot.position stands.small in
      record {
        small = (let small = stands.small in omega (arith, small, now_long Written));
        is_open = ap (λ (p : Position). p.fate) same ∙ stands.is_open;
        drawn = subst (λ (p : Position). IsDrawnFor after (moved places ino offset layout.next) file slot.drawn p.logged.block) (sym same) (other_node file slot.drawn (position_at layout slot.position).logged.block stands.drawn);
      }

  fates : (k : ℕ) → k < length (layout_now Written).log → (k ≡ place) ⊎ (k ≢ place) → ((position_at (layout_now Written) k).fate ≡ Written) ⊎ IsSomeSlot after k
  fates k small (inl same) = inl (ap (λ n. (position_at (layout_now Written) n).fate) same ∙ ap (λ (p : Position). p.fate) (position_now Written))
  fates k small (inr other) = by_fate (whole.kept.tied.fates k inside)
    where
      inside : k < length layout.log
      inside = omega (arith, small, other, now_long Written)

      by_fate : ((position_at layout k).fate ≡ Written) ⊎ IsSomeSlot state k → ((position_at (layout_now Written) k).fate ≡ Written) ⊎ IsSomeSlot after k
      by_fate (inl written) = inl (ap (λ (p : Position). p.fate) (position_elder Written k inside) ∙ written)
      by_fate (inr one) = inr (record { seat = one.seat; ino = one.ino; progress = one.progress; slot = one.slot; in_flight = one.in_flight; is_open = one.is_open; at_place = one.at_place })

  abbrev slot_was : (k : ℕ) → IsSomeSlot after k → IsSomeSlot state k
  slot_was k one = record { seat = one.seat; ino = one.ino; progress = one.progress; slot = one.slot; in_flight = one.in_flight; is_open = one.is_open; at_place = one.at_place }

  open_apart : (k : ℕ) → k < length (layout_now Written).log → (position_at (layout_now Written) k).fate ≡ Open → IsElsewhere (moved places ino offset layout.next) (position_at (layout_now Written) k).logged.at
  open_apart k small is_open = by_case (cases_eq k place)
    where
      by_case : (k ≡ place) ⊎ (k ≢ place) → IsElsewhere (moved places ino offset layout.next) (position_at (layout_now Written) k).logged.at
      by_case (inl same) = absurd (written_not_open (sym (ap (λ (p : Position). p.fate) (position_now Written)) ∙ sym (ap (λ n. (position_at (layout_now Written) n).fate) same) ∙ is_open))
      by_case (inr other) =
          let inside : k < length layout.log = omega (arith, small, other, now_long Written) in
          let same = position_elder Written k inside in
          subst (λ (p : Position). IsElsewhere (moved places ino offset layout.next) p.logged.at) (sym same)
          (elsewhere places ino offset layout.next (position_at layout k).logged.at (λ e. next_apart lists layout whole.kept.log.log k inside (sym e))
          (whole.kept.tied.open_apart k inside (ap (λ (p : Position). p.fate) (sym same) ∙ is_open)))

  -- no page of the file is dirty
  module _ (clean : (page : ℕ) → set.contains state.dirty_pages (ino, page) ≡ false) where
    tied : AreTied (layout_now Written) after (moved places ino offset layout.next) (node_written unwritten ino offset)
    tied = record {
      pages = whole.kept.tied.pages;
      nodes = λ file low there. still_in_without unwritten.nodes (ino, offset) (file, low) (other file low there) (whole.kept.tied.nodes file low (was_in state.dirty_nodes (ino, offset) (file, low) there));
      direct = λ file low there. whole.kept.tied.direct file low (was_in state.dirty_nodes (ino, offset) (file, low) there);
      covered = λ file page low there in_node. still_in_without state.dirty_nodes (ino, offset) (file, low) (not_its file page low there) (whole.kept.tied.covered file page low there in_node);
      count = ap (λ n. n + 1) whole.kept.tied.count ∙ sym (now_long Written);
      fates = λ k small. fates k small (cases_eq k place);
      one_slot = λ k a b. whole.kept.tied.one_slot k (slot_was k a) (slot_was k b);
      one_file = whole.kept.tied.one_file;
      open_apart = open_apart;
      next_apart = λ some. elsewhere places ino offset layout.next (footer_next block) (λ e. (may.ahead some).free.not_next (sym e)) (may.ahead some).elsewhere;
    }
      where
        other : (file low : ℕ) → set.contains after.dirty_nodes (file, low) ≡ true → pair file low ≢ pair ino offset
        other file low there same = true≢false (sym there ∙ ap (set.contains after.dirty_nodes) same ∙ taken state.dirty_nodes (ino, offset))

        not_its : (file page low : ℕ) → set.contains state.dirty_pages (file, page) ≡ true → pair file low ≢ pair ino offset
        not_its file page low there same = true≢false (sym there ∙ ap (λ (q : ℕ × ℕ). set.contains state.dirty_pages (q.0, page)) same ∙ clean page)

    module _ (new : Contents) (written : IsWritten layout.next block lists new) (disk : KeepsPacks new (layout_now Written) state × KeepsLog new (layout_now Written) state) where
      flushed_still : (file : ℕ) → AreFlushed lists state places file → AreFlushed new after (moved places ino offset layout.next) file
      flushed_still file flushed = record {
        clean = flushed.clean;
        flushed = λ page a found.
            let same = written_other lists new layout.next block written a (free.pages file page a found) in
            same ∙ flushed.flushed page a found ∙ sym (ap (λ list. last_of list ∷ []) same);
      }

      fsyncs : (seat file : ℕ) (next : Progress) → map.get state.flights seat ≡ Some (InFsync file next) → FsyncStands new (layout_now Written) after (moved places ino offset layout.next) file next
      fsyncs seat file next found =
          still_stands lists new layout (layout_now Written) state after places (moved places ino offset layout.next) file next record {
            live = refl;
            slot = λ slot has stands. slot_still file slot stands;
            flushed = flushed_still file;
            mark = λ has. written_mark drawn_layout place place_there next (mark_still layout block layout.owners next has);
          } (whole.kept.fsyncs seat file next found)

      here : IsNodeBlock places ino offset (moved_node places ino offset layout.next) block
      here = record {
        footer_nid = is.own.footer_nid ∙ sym (ap nid_of is.there);
        footer_ino = is.own.footer_ino;
        footer_offset = is.own.footer_offset;
        lower = is.own.lower;
        pages = is.own.pages;
      }

      live : IsLiveAt new layout.base.ckpt.geom state.live (moved places ino offset layout.next) (node_written unwritten ino offset)
      live =
          live_with_node layout.base.ckpt.geom state.live places ino offset is.node (moved_node places ino offset layout.next) is.there (ap nid_of is.there) lists new unwritten block whole.kept.live free
          (record { in_zone = next_zone.0; own = here; inode = is.inode }) next_on_disk written

      in_memory : LeaveTheSame state after
      in_memory = record { base = refl; marks = refl; acknowledged = refl; pending = refl; format = refl; version = refl; next_format = refl }

      kept_now : IsKept new (layout_now Written) after (moved places ino offset layout.next) (node_written unwritten ino offset)
      kept_now = record {
        packs = packs_stay new (layout_now Written) state after in_memory disk.0;
        log = log_stays new (layout_now Written) state after in_memory disk.1;
        none_pending = whole.kept.none_pending;
        proper = whole.kept.proper;
        live = live;
        told = told;
        tied = tied;
        fsyncs = fsyncs;
      }

      pub whole_now : IsKeptWhole new (layout_now Written) after (moved places ino offset layout.next) (node_written unwritten ino offset)
      whole_now = record {
        kept = kept_now;
        dirty = whole.dirty;
        nodes = λ file low left. still_there places.nodes (ino, offset) (moved_node places ino offset layout.next) (file, low) (whole.nodes file low (was_in unwritten.nodes (ino, offset) (file, low) left));
        pages = whole.pages;
        nids = λ file low n found.
            fated_nid drawn_layout place Written place_there file low n.nid
            (moved_nids places ino offset layout.next drawn_layout (drawn_nids lists layout state places unwritten block layout.owners whole may its_node_drawn ino offset is) is.node is.there file low n found);
        owners = whole.owners;
        unshrunk = whole.unshrunk;
        logged = fated_logged drawn_layout place Written place_there after (drawn_logged lists layout state places unwritten block layout.owners whole may its_node_drawn ino offset is);
        counts = λ file row found.
            fated_counts drawn_layout place Written place_there file (drawn_counts lists layout state places unwritten block layout.owners whole may its_node_drawn ino offset is file (whole.counts file row found));
      }

module _ (lists new : Contents) (layout : Layout) (state : State) (places : Places) (unwritten : Unwritten) (ino offset : ℕ) (block : List ℕ)
    (whole : IsKeptWhole lists layout state places unwritten) (dirty : set.contains state.dirty_nodes (ino, offset) ≡ true) (may : MayComeNext layout state places block) (is : IsBlockFor state places ino offset block)
    (unmarked : is_marked block ≡ false) (bytes : IsBlock block) where
  drawn_kept : KeepsPacks lists (with_drawn layout block layout.owners) state × KeepsLog lists (with_drawn layout block layout.owners) state
  drawn_kept = nodes_may_be_drawn lists layout state block whole.kept.packs whole.kept.log (its_node_drawn lists layout state places unwritten ino offset block whole dirty may is) unmarked

  position : position_at (with_drawn layout block layout.owners) (length layout.log) ≡ record { logged = record { at = layout.next; block = block }; fate = Open }
  position = its_position lists layout state places unwritten ino offset block whole dirty may is

  -- what the disk keeps of the packs and the log once the write was made, or failed
  pub submitted : Submitted lists new layout state block
  submitted =
      let both =
      submits_keep lists new (with_drawn layout block layout.owners) state (length layout.log) drawn_kept.0 drawn_kept.1 whole.kept.none_pending (place_there lists layout state places unwritten ino offset block whole dirty may is)
      (ap (λ (p : Position). p.fate) position) (subst (λ (p : Position). p.logged.at < length lists) (sym position) (next_on_disk lists layout state places unwritten ino offset block whole dirty may is))
      (subst (λ (p : Position). IsBlock p.logged.block) (sym position) bytes) in
      record {
        made = λ written. both.0 (subst (λ (p : Position). IsWritten p.logged.at p.logged.block lists new) (sym position) written);
        failed = λ wrote. both.1 (subst (λ (p : Position). IsWriteFailed p.logged.at p.logged.block lists new) (sym position) wrote);
      }

pub flushed_nodes : FlushedNodesKeep
flushed_nodes lists new layout state places unwritten ino offset block whole dirty clean may unmarked is bytes written =
    whole_now lists layout state places unwritten ino offset block whole dirty may is clean new written ((submitted lists new layout state places unwritten ino offset block whole dirty may is unmarked bytes).made written)
