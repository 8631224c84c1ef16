-- The next position of the log that an fsync drew, as its slot.
use Rattle.std.proofs.Common.{◌≡◌, ◌≢◌, ◌⊎◌, inl, inr, ℕ, ◌+◌, ◌<◌, ◌≤◌, false, List, [], ◌∷◌, ◌++◌, length, take, sym, ap, ◌∙◌, subst, subst₂, arith}
use Rattle.std.specs.Prelude.{Option, Some, None, MatchOption}
use Rattle.std.specs.FinMap as map
use Rattle.std.specs.FinSet as set
use Rattle.std.proofs.lemmas.Bool.{cases_eq}
use Rattle.std.proofs.lemmas.List.{length_push, map_push, take-append-le, get_or_append_left, get_or_push}
use Rattle.f2_disk.specs.Contents.{Contents}
use Rattle.f2_model.specs.State.{State, Drawn, Slot, Progress, InFsync}
use Rattle.f2_image.specs.Chains.{Logged, marked_places}
use Rattle.f2_stored.specs.Places.{Places}
use Rattle.f2_stored.specs.Trees.{Unwritten}
use Rattle.f2_stored.specs.Layout.{Open, Written, Position, Owners, Layout, chained}
use Rattle.f2_stored.specs.Marks.{marks_within}
use Rattle.f2_stored.specs.Changes.{no_position, with_drawn}
use Rattle.f2_stored.specs.Kept.{IsElsewhere, IsDrawnFor, IsSlotOf, IsSomeSlot, AreFlushed, HasMarkAt, FsyncStands, position_at, IsKept}
use Rattle.f2_event_laws.proofs.Maps.{put_here, put_other, found_put}
use Rattle.f2_event_laws.proofs.Flights.{OthersStay, slot_stays, slot_was, no_slot, own_place, was_in_flight, fsync_file, fsync_progress}
use Rattle.f2_event_laws.proofs.Standing.{still_stands}
use Rattle.f2_event_laws.proofs.LogPlaces.{chain_long}
use Rattle.f2_event_laws.proofs.Drawn.{drawn_stays}
use Rattle.f2_event_laws.proofs.Settled.{slot_there}

module _ (layout : Layout) (block : List ℕ) (owners : Owners) where
  abbrev drawn_position : Position
  drawn_position = record { logged = record { at = layout.next; block = block }; fate = Open }

  pub one_longer : length (with_drawn layout block owners).log ≡ length layout.log + 1
  one_longer = length_push layout.log drawn_position

  pub position_before : (place : ℕ) → place < length layout.log → position_at (with_drawn layout block owners) place ≡ position_at layout place
  position_before place small = get_or_append_left layout.log (drawn_position ∷ []) no_position place small

  pub position_last : (place : ℕ) → place ≡ length layout.log → position_at (with_drawn layout block owners) place ≡ record { logged = record { at = layout.next; block = block }; fate = Open }
  position_last place is = get_or_push layout.log drawn_position no_position place (sym is)

  pub chain_more : chained (with_drawn layout block owners) ≡ chained layout ++ record { at = layout.next; block = block } ∷ []
  chain_more = map_push (λ (p : Position). p.logged) layout.log drawn_position

  -- as many marks stand in the first positions as before
  pub same_count : (count : ℕ) → count ≤ length layout.log → marks_within (with_drawn layout block owners) count ≡ marks_within layout count
  same_count count few =
      ap (λ (chain : List Logged). length (marked_places (take count chain))) chain_more
      ∙ ap (λ (chain : List Logged). length (marked_places chain)) (take-append-le count (chained layout) (record { at = layout.next; block = block } ∷ []) (omega (arith, few, chain_long layout)))

  pub mark_still : (next : Progress) → HasMarkAt layout next → HasMarkAt (with_drawn layout block owners) next
  mark_still next mark = record {
    small = (let small = mark.small in omega (arith, small, one_longer));
    counted = (let small = mark.small in let counted = mark.counted in omega (arith, counted, same_count (next.position + 1) (omega (arith, small))));
    own = by_slot next.slot mark.own;
  }
    where
      by_slot : (s : Option Slot) → MatchOption s ((position_at layout next.position).fate ≡ Written) (λ slot. slot.position ≡ next.position)
          → MatchOption s ((position_at (with_drawn layout block owners) next.position).fate ≡ Written) (λ slot. slot.position ≡ next.position)
      by_slot None is = ap (λ (p : Position). p.fate) (position_before next.position mark.small) ∙ is
      by_slot (Some one) is = is

-- an fsync that had no slot drew one
module _ (lists : Contents) (layout : Layout) (state after : State) (places : Places) (unwritten : Unwritten) (seat ino : ℕ) (progress now : Progress) (drawn : Drawn) (block : List ℕ) (owners : Owners)
    (kept : IsKept lists layout state places unwritten) (there : map.get state.flights seat ≡ Some (InFsync ino progress)) (none : progress.slot ≡ None) (room : layout.next ≢ 0)
    (flights : after.flights ≡ map.insert state.flights seat (InFsync ino now)) (slot : now.slot ≡ Some (record { position = state.node_writes; drawn = drawn })) where
  abbrev layout_now : Layout
  layout_now = with_drawn layout block owners

  abbrev its : Slot
  its = record { position = state.node_writes; drawn = drawn }

  pub others : OthersStay state after seat
  others other apart = ap (λ f. map.get f other) flights ∙ put_other state.flights seat (InFsync ino now) other apart

  there_now : map.get after.flights seat ≡ Some (InFsync ino now)
  there_now = ap (λ f. map.get f seat) flights ∙ put_here state.flights seat (InFsync ino now)

  by_place : (place : ℕ) → place < length layout.log → ((position_at layout place).fate ≡ Written) ⊎ IsSomeSlot state place → ((position_at layout_now place).fate ≡ Written) ⊎ IsSomeSlot after place
  by_place place small (inl is) = inl (ap (λ (p : Position). p.fate) (position_before layout block owners place small) ∙ is)
  by_place place small (inr one) = inr (slot_stays state after seat others place one (no_slot state seat ino progress there none place one))

  pub drawn_fates : (place : ℕ) → place < length layout_now.log → ((position_at layout_now place).fate ≡ Written) ⊎ IsSomeSlot after place
  drawn_fates place small = by_case (cases_eq place (length layout.log))
    where
      by_case : (place ≡ length layout.log) ⊎ (place ≢ length layout.log) → ((position_at layout_now place).fate ≡ Written) ⊎ IsSomeSlot after place
      by_case (inl same) = inr (record { seat = seat; ino = ino; progress = now; slot = its; in_flight = there_now; is_open = slot; at_place = kept.tied.count ∙ sym same })
      by_case (inr other) = let inside : place < length layout.log = omega (arith, small, other, one_longer layout block owners) in by_place place inside (kept.tied.fates place inside)

  -- a slot at an old place is none of the seat's
  old_place : (place : ℕ) (own other : IsSomeSlot after place) → own.seat ≡ seat → ¬ (other.seat ≢ seat)
  old_place place own other same apart =
      let last : state.node_writes ≡ place = own_place after seat ino now its there_now slot place own same in
      let inside = (slot_there lists layout state places unwritten kept place (slot_was state after seat others place other apart)).0 in
      let count = kept.tied.count in
      omega (arith, last, inside, count)

  pub drawn_one_slot : (place : ℕ) (a b : IsSomeSlot after place) → a.seat ≡ b.seat
  drawn_one_slot place a b = by_case (cases_eq a.seat seat) (cases_eq b.seat seat)
    where
      by_case : (a.seat ≡ seat) ⊎ (a.seat ≢ seat) → (b.seat ≡ seat) ⊎ (b.seat ≢ seat) → a.seat ≡ b.seat
      by_case (inl one) (inl other) = one ∙ sym other
      by_case (inl one) (inr other) = absurd (old_place place a b one other)
      by_case (inr one) (inl other) = absurd (old_place place b a other one)
      by_case (inr one) (inr other) = kept.tied.one_slot place (slot_was state after seat others place a one) (slot_was state after seat others place b other)

  pub drawn_one_file : (one other file : ℕ) (a b : Progress) → map.get after.flights one ≡ Some (InFsync file a) → map.get after.flights other ≡ Some (InFsync file b) → one ≡ other
  drawn_one_file one other file a b of_one of_other =
      let first = was_in_flight state after seat ino progress now there flights one file a of_one in
      let second = was_in_flight state after seat ino progress now there flights other file b of_other in
      kept.tied.one_file one other file first.0 second.0 first.1 second.1

  pub drawn_open_apart : (place : ℕ) → place < length layout_now.log → (position_at layout_now place).fate ≡ Open → IsElsewhere places (position_at layout_now place).logged.at
  drawn_open_apart place small is_open = by_case (cases_eq place (length layout.log))
    where
      by_case : (place ≡ length layout.log) ⊎ (place ≢ length layout.log) → IsElsewhere places (position_at layout_now place).logged.at
      by_case (inl same) = subst (λ (p : Position). IsElsewhere places p.logged.at) (sym (position_last layout block owners place same)) (kept.tied.next_apart room)
      by_case (inr other) =
          let inside : place < length layout.log = omega (arith, small, other, one_longer layout block owners) in
          let same = position_before layout block owners place inside in
          subst (λ (p : Position). IsElsewhere places p.logged.at) (sym same) (kept.tied.open_apart place inside (ap (λ (p : Position). p.fate) (sym same) ∙ is_open))

  -- the slot that was drawn
  pub drawn_slot : IsDrawnFor after places ino drawn block → IsSlotOf layout_now after places ino its
  drawn_slot is =
      let last = position_last layout block owners state.node_writes kept.tied.count in
      record {
        small = (let count = kept.tied.count in omega (arith, count, one_longer layout block owners));
        is_open = ap (λ (p : Position). p.fate) last;
        drawn = subst (λ (p : Position). IsDrawnFor after places ino drawn p.logged.block) (sym last) is;
      }

  module _ (live : after.live ≡ state.live) (pages : after.dirty_pages ≡ state.dirty_pages) (nodes : (file offset : ℕ) → set.contains state.dirty_nodes (file, offset) ≡ false → set.contains after.dirty_nodes (file, offset) ≡ false) where
    pub drawn_flushed : (file : ℕ) → AreFlushed lists state places file → AreFlushed lists after places file
    drawn_flushed file flushed = record { clean = λ page. ap (λ p. set.contains p (file, page)) pages ∙ flushed.clean page; flushed = flushed.flushed }

    slot_still : (file : ℕ) (one : Slot) → IsSlotOf layout state places file one → IsSlotOf layout_now after places file one
    slot_still file one stands =
        let same = position_before layout block owners one.position stands.small in
        record {
          small = (let small = stands.small in omega (arith, small, one_longer layout block owners));
          is_open = ap (λ (p : Position). p.fate) same ∙ stands.is_open;
          drawn = subst (λ (p : Position). IsDrawnFor after places file one.drawn p.logged.block) (sym same) (drawn_stays state after places file live (nodes file) one.drawn (position_at layout one.position).logged.block stands.drawn);
        }

    -- each other fsync stands, and so does its own
    pub drawn_fsyncs : FsyncStands lists layout_now after places ino now → (other file : ℕ) (next : Progress) → map.get after.flights other ≡ Some (InFsync file next) → FsyncStands lists layout_now after places file next
    drawn_fsyncs own other file next found = by_case (found_put state.flights seat (InFsync ino now) other (InFsync file next) (sym (ap (λ f. map.get f other) flights) ∙ found))
      where
        by_case : ((other ≡ seat) × (InFsync file next ≡ InFsync ino now)) ⊎ ((other ≢ seat) × (map.get state.flights other ≡ Some (InFsync file next))) → FsyncStands lists layout_now after places file next
        by_case (inl same) = subst₂ (FsyncStands lists layout_now after places) (sym (fsync_file file ino next now same.1)) (sym (fsync_progress file ino next now same.1)) own
        by_case (inr elder) =
            still_stands lists lists layout layout_now state after places places file next record {
              live = live;
              slot = λ one is stands. slot_still file one stands;
              flushed = drawn_flushed file;
              mark = mark_still layout block owners next;
            } (kept.fsyncs other file next elder.1)
