-- A dirty page of a file that was written to a free address of the data zone.
use Rattle.std.proofs.Common.{◌≡◌, ◌≢◌, ◌⊎◌, inl, inr, ℕ, ◌<◌, true, not, ◌&&◌, List, [], ◌∷◌, length, refl, sym, ap, ◌∙◌, subst, true≢false}
use Rattle.std.specs.Prelude.{Some}
use Rattle.std.specs.Option.{unwrap_or}
use Rattle.std.specs.FinMap as map
use Rattle.std.specs.FinSet as set
use Rattle.std.specs.FinSet.{contains-remove}
use Rattle.std.specs.List.{Contains}
use Rattle.std.proofs.lemmas.List.Elements.{Contains-get_or}
use Rattle.std.specs.Ordering.{eq_by_cmp}
use Rattle.f2_disk.specs.Contents.{Contents, IsWritten, last_of}
use Rattle.f2_model.specs.State.{State, pair_cmp, Drawn, DrawnNode, DrawnMark, Progress, InFsync}
use Rattle.f2_model.specs.Goes.{page_written}
use Rattle.f2_model.specs.declared.rows.Row.{Row}
use Rattle.f2_image.specs.Chains.{Logged}
use Rattle.f2_stored.specs.Places.{Places, page_at, IsInodeOf}
use Rattle.f2_stored.specs.Trees.{Unwritten}
use Rattle.f2_stored.specs.Layout.{Position, Written, Layout, chained}
use Rattle.f2_stored.specs.Logs.{log_addresses}
use Rattle.f2_stored.specs.Ties.{LogTellsLive}
use Rattle.f2_stored.specs.Changes.{LeaveTheSame, IsFree, no_position}
use Rattle.f2_stored.specs.Kept.{IsElsewhere, IsBlockFor, IsDrawnFor, IsSomeSlot, AreFlushed, FsyncStands, AreTied, position_at, IsKept}
use Rattle.f2_change_laws.proofs.Members.{contains_map}
use Rattle.f2_place_laws.specs.Living as living
use Rattle.f2_place_laws.specs.Living.{with_page}
use Rattle.f2_place_laws.proofs.LivePages.{keyed_pages_stand}
use Rattle.f2_place_laws.proofs.PageKinds.{of_regular}
use Rattle.f2_place_laws.proofs.Pairs.{pair, pair_cmp_total, apart, same_or_other, put_here, put_other}
use Rattle.f2_place_laws.proofs.WrittenBlocks.{written_other}
use Rattle.f2_event_laws.specs.Pages.{WrittenPagesKeep}
use Rattle.f2_event_laws.proofs.InMemory.{packs_stay, log_stays}
use Rattle.f2_event_laws.proofs.Sets.{was_in, still_out, still_in}
use Rattle.f2_event_laws.proofs.Standing.{still_stands, flushed_with_slot}
use Rattle.f2_event_laws.proofs.PageDisks.{page_packs, page_log}

module _ (lists new : Contents) (layout : Layout) (state : State) (places : Places) (unwritten : Unwritten) (ino page at : ℕ) (kept : IsKept lists layout state places unwritten)
    (dirty : set.contains state.dirty_pages (ino, page) ≡ true) where
  abbrev after : State
  after = page_written state ino page

  abbrev there : Places
  there = with_page places ino page at

  abbrev left : Unwritten
  left = living.page_written unwritten ino page

  -- each other page has the address that it had
  same_address : (file p : ℕ) → pair file p ≢ pair ino page → page_at there file p ≡ page_at places file p
  same_address file p other = ap (λ o. unwrap_or o 0) (put_other places.pages (ino, page) at (file, p) other)

  -- the page's file isn't one with flushed pages
  not_flushed : (file : ℕ) → AreFlushed lists state places file → (p : ℕ) → pair file p ≢ pair ino page
  not_flushed file flushed p same = true≢false (sym dirty ∙ sym (ap (set.contains state.dirty_pages) same) ∙ flushed.clean p)

  told : LogTellsLive layout after there
  told = record {
    told = λ file p offset row has regular whole direct clean.
        kept.told.told file p offset row has regular whole direct clean
        ∙ sym (same_address file p (λ same.
        true≢false (sym (kept.tied.covered file p offset (ap (set.contains state.dirty_pages) same ∙ dirty) direct) ∙ clean)));
  }

  same_unwritten : (q : ℕ × ℕ) → set.contains unwritten.pages q ≡ set.contains state.dirty_pages q → set.contains left.pages q ≡ set.contains after.dirty_pages q
  same_unwritten q same =
      contains-remove pair_cmp_total unwritten.pages (ino, page) q ∙ ap (λ b. not (eq_by_cmp pair_cmp q (ino, page)) && b) same
      ∙ sym (contains-remove pair_cmp_total state.dirty_pages (ino, page) q)

  abbrev slot_was : (place : ℕ) → IsSomeSlot after place → IsSomeSlot state place
  slot_was place one = record { seat = one.seat; ino = one.ino; progress = one.progress; slot = one.slot; in_flight = one.in_flight; is_open = one.is_open; at_place = one.at_place }

  fates : (place : ℕ) → ((position_at layout place).fate ≡ Written) ⊎ IsSomeSlot state place → ((position_at layout place).fate ≡ Written) ⊎ IsSomeSlot after place
  fates place (inl written) = inl written
  fates place (inr one) = inr (record { seat = one.seat; ino = one.ino; progress = one.progress; slot = one.slot; in_flight = one.in_flight; is_open = one.is_open; at_place = one.at_place })

  -- what is elsewhere than the tree, and isn't the page's new address, is elsewhere still
  elsewhere : (k : ℕ) → at ≢ k → IsElsewhere places k → IsElsewhere there k
  elsewhere k apart free = record { nodes = free.nodes; pages = λ file p other found. by_case file p other found (same_or_other (file, p) (ino, page)) }
    where
      by_case : (file p other : ℕ) → map.get there.pages (file, p) ≡ Some other → (pair file p ≡ pair ino page) ⊎ (pair file p ≢ pair ino page) → other ≢ k
      by_case file p other found (inl same) =
          let is : Some other ≡ Some at = sym found ∙ ap (map.get there.pages) same ∙ put_here places.pages (ino, page) at in
          let one : other ≡ at = cc in
          λ e. apart (sym one ∙ e)
      by_case file p other found (inr elder) = free.pages file p other (sym (put_other places.pages (ino, page) at (file, p) elder) ∙ found)

  module _ (free : IsFree layout at) where
    tied : AreTied layout after there left
    tied = record {
      pages = λ file p row has regular. same_unwritten (file, p) (kept.tied.pages file p row has regular);
      nodes = λ file offset is. still_in unwritten.nodes (ino, living.teller_of page) (file, offset) (kept.tied.nodes file offset is);
      direct = kept.tied.direct;
      covered = λ file p offset is direct. kept.tied.covered file p offset (was_in state.dirty_pages (ino, page) (file, p) is) direct;
      count = kept.tied.count;
      fates = λ place small. fates place (kept.tied.fates place small);
      one_slot = λ place a b. kept.tied.one_slot place (slot_was place a) (slot_was place b);
      one_file = kept.tied.one_file;
      open_apart = λ place small is_open. elsewhere (position_at layout place).logged.at (λ same. free.no_position (subst (Contains (log_addresses layout)) (sym same) (address_there place small))) (kept.tied.open_apart place small is_open);
      next_apart = λ some. elsewhere layout.next free.not_next (kept.tied.next_apart some);
    }
      where
        address_there : (place : ℕ) → place < length layout.log → Contains (log_addresses layout) (position_at layout place).logged.at
        address_there place small = contains_map (λ (l : Logged). l.at) (chained layout) (position_at layout place).logged (contains_map (λ (p : Position). p.logged) layout.log (position_at layout place) (Contains-get_or layout.log place no_position small))

  -- a block for a node of another file is still one
  block_for : (file offset : ℕ) (block : List ℕ) → ((p : ℕ) → pair file p ≢ pair ino page) → IsBlockFor state places file offset block → IsBlockFor after there file offset block
  block_for file offset block other is = record {
    node = is.node;
    there = is.there;
    own = record {
      footer_nid = is.own.footer_nid;
      footer_ino = is.own.footer_ino;
      footer_offset = is.own.footer_offset;
      lower = is.own.lower;
      pages = λ p direct. is.own.pages p direct ∙ sym (same_address file p (other p));
    };
    inode = λ first row has. inode row has (is.inode first row has);
  }
    where
      inode : (row : Row) → map.get state.live file ≡ Some row → IsInodeOf places row block → IsInodeOf there row block
      inode row has told = record {
        kind = told.kind;
        own = told.own;
        size = told.size;
        addresses = λ p small. told.addresses p small ∙ sym (subst (λ i. page_at there i p ≡ page_at places i p) (sym (kept.proper.good.keyed file row has)) (same_address file p (other p)));
      }

  drawn_for : (file : ℕ) (drawn : Drawn) (block : List ℕ) → ((p : ℕ) → pair file p ≢ pair ino page) → IsDrawnFor state places file drawn block → IsDrawnFor after there file drawn block
  drawn_for file (DrawnNode offset) block other is = (is.0, is.1, block_for file offset block other is.2)
  drawn_for file DrawnMark block other is = block_for file 0 block other is

  module _ (content : List ℕ) (elsewhere_now : IsElsewhere places at) (written : IsWritten at content lists new) where
    flushed_still : (file : ℕ) → AreFlushed lists state places file → AreFlushed new after there file
    flushed_still file flushed = record {
      clean = λ p. still_out state.dirty_pages (ino, page) (file, p) (flushed.clean p);
      flushed = λ p a found.
          let was : map.get places.pages (file, p) ≡ Some a = sym (put_other places.pages (ino, page) at (file, p) (not_flushed file flushed p)) ∙ found in
          let same = written_other lists new at content written a (elsewhere_now.pages file p a was) in
          same ∙ flushed.flushed p a was ∙ sym (ap (λ list. last_of list ∷ []) same);
    }

    fsyncs : (seat file : ℕ) (progress : Progress) → map.get state.flights seat ≡ Some (InFsync file progress) → FsyncStands new layout after there file progress
    fsyncs seat file progress in_flight =
        let stands = kept.fsyncs seat file progress in_flight in
        still_stands lists new layout layout state after places there file progress record {
          live = refl;
          slot = λ slot is of. record {
            small = of.small;
            is_open = of.is_open;
            drawn = drawn_for file slot.drawn (position_at layout slot.position).logged.block (not_flushed file (flushed_with_slot lists layout state places file progress slot is stands)) of.drawn;
          };
          flushed = flushed_still file;
          mark = λ has. has;
        } stands

pub written_pages : WrittenPagesKeep
written_pages lists new layout state places unwritten ino page at row content kept of_tree regular dirty was has free elsewhere within zone block written = record {
  packs = packs_stay new layout state (page_written state ino page) in_memory (page_packs lists new layout state at content kept.packs kept.log free within zone block written);
  log = log_stays new layout state (page_written state ino page) in_memory (page_log lists new layout state at content kept.packs kept.log free within zone block written);
  none_pending = kept.none_pending;
  proper = kept.proper;
  live = keyed_pages_stand lists new layout.base.ckpt.geom state.live places unwritten ino page at row content kept.proper.good.keyed kept.live of_tree was elsewhere within zone (of_regular places row page content regular has) written;
  told = told lists new layout state places unwritten ino page at kept dirty;
  tied = tied lists new layout state places unwritten ino page at kept dirty free;
  fsyncs = fsyncs lists new layout state places unwritten ino page at kept dirty content elsewhere written;
}
  where
    in_memory : LeaveTheSame state (page_written state ino page)
    in_memory = record { base = refl; marks = refl; acknowledged = refl; pending = refl; format = refl; version = refl; next_format = refl }
