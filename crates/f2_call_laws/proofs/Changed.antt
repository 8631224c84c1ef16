-- A call that makes the right things dirty keeps what a running volume keeps, where the volume's knowledge of places follows.
use Rattle.std.proofs.Common.{◌≡◌, ◌≢◌, ◌⊎◌, inl, inr, ℕ, Bool, true, false, IsSome, refl, sym, ap, ◌∙◌, true≢false}
use Rattle.std.specs.Prelude.{Some, None}
use Rattle.std.specs.FinMap as map
use Rattle.std.specs.FinSet as set
use Rattle.f2_format.specs.Footer.{footer_ino}
use Rattle.f2_format.specs.Offsets.{direct_of}
use Rattle.f2_disk.specs.Contents.{Contents}
use Rattle.f2_model.specs.State.{State, IsFreeIno, Inos, InFsync}
use Rattle.f2_model.specs.declared.bounds.Limits.{Limits}
use Rattle.f2_model.specs.declared.rows.Row.{Row}
use Rattle.f2_model.specs.declared.rows.Kind.TheVariants.{Regular}
use Rattle.f2_image.specs.Chains.{block_in}
use Rattle.f2_image_laws.specs.Rolled.{image_limits}
use Rattle.f2_room_laws.specs.ProperTrees.{IsProperTree}
use Rattle.f2_live_laws.proofs.InMemory.{changes_in_memory_keep_live}
use Rattle.f2_place_laws.proofs.Options.{the_one}
use Rattle.f2_place_laws.proofs.Stood.{in_node_some}
use Rattle.f2_stored.specs.Places.{NodeAt, Places, page_at}
use Rattle.f2_stored.specs.Trees.{Unwritten, IsLiveAt}
use Rattle.f2_stored.specs.Layout.{Written, Layout, chained}
use Rattle.f2_stored.specs.Numbers.{MayCount}
use Rattle.f2_stored.specs.Ties.{LogTellsLive, told_address}
use Rattle.f2_stored.specs.Kept.{IsSomeSlot, AreTied, IsKept, position_at}
use Rattle.f2_event_laws.proofs.InMemory.{packs_stay, log_stays}
use Rattle.f2_event_laws.proofs.LogPlaces.{is_address}
use Rattle.f2_stored.specs.Whole.{IsOwnNid, IsKeptWhole}
use Rattle.f2_call_laws.specs.Calls.{IsNewNode, ArePlacesAfter}
use Rattle.f2_call_laws.proofs.Dirtied.{WasThere, DirtiesRight}
use Rattle.f2_call_laws.proofs.FreshFiles.{nothing_told}
use Rattle.f2_call_laws.proofs.Laid.{laid_after}
use Rattle.f2_call_laws.proofs.SamePages.{same_page, no_page, elsewhere_still, own_number}
use Rattle.f2_call_laws.proofs.SameFsyncs.{fsyncs_now}

module _ (limits : Limits) (lists : Contents) (layout : Layout) (state after : State) (places now : Places) (unwritten left : Unwritten) (whole : IsKeptWhole lists layout state places unwritten)
    (proper : IsProperTree (image_limits layout.base.ckpt.geom) after.live) (follows : ArePlacesAfter layout state after places now unwritten left) (right : DirtiesRight limits state after) where
  live_now : IsLiveAt lists layout.base.ckpt.geom after.live now left
  live_now = changes_in_memory_keep_live lists layout.base.ckpt.geom state.live after.live places now unwritten left whole.kept.live (laid_after layout state after places now unwritten left whole.kept.live.laid follows) follows.rows follows.others

  -- a page whose direct node isn't dirty isn't dirty
  clean_page : (ino page offset : ℕ) → direct_of page ≡ Some offset → set.contains after.dirty_nodes (ino, offset) ≡ false → set.contains after.dirty_pages (ino, page) ≡ false
  clean_page ino page offset direct clean = by_test (set.contains after.dirty_pages (ino, page)) refl
    where
      by_test : (b : Bool) → set.contains after.dirty_pages (ino, page) ≡ b → b ≡ false
      by_test true dirty = absurd (true≢false (sym (right.covered ino page offset dirty direct) ∙ clean))
      by_test false is = refl

  told_now : LogTellsLive layout after now
  told_now = record { told = λ ino page offset row there regular kept direct clean. by_case ino page offset row there regular direct clean (right.told ino page offset row there regular kept direct clean) }
    where
      by_case : (ino page offset : ℕ) (row : Row) → map.get after.live ino ≡ Some row → row.kind ≡ Regular → direct_of page ≡ Some offset → set.contains after.dirty_nodes (ino, offset) ≡ false
          → WasThere state ino page offset row ⊎ IsFreeIno limits state ino → told_address layout ino offset page ≡ page_at now ino page
      by_case ino page offset row there regular direct clean (inl was) =
          whole.kept.told.told ino page offset was.before was.there was.regular was.whole direct was.clean
          ∙ sym (same_page lists layout state after places now unwritten left whole follows ino page was.before row was.there was.regular there regular (proper.good.keyed ino row there) was.stays (clean_page ino page offset direct clean))
      by_case ino page offset row there regular direct clean (inr free) =
          nothing_told layout state.base whole.kept.log.base.means whole.kept.log.nids ino free.no_base_row (own_number lists layout state after places now unwritten left whole follows ino row free.no_row there) state whole.logged free.not_logged offset page
          ∙ sym (no_page lists layout state after places now unwritten left whole follows ino page row free.no_row there regular (clean_page ino page offset direct clean))

  slot_still : (place : ℕ) → IsSomeSlot state place → IsSomeSlot after place
  slot_still place one = record { seat = one.seat; ino = one.ino; progress = one.progress; slot = one.slot; in_flight = ap (λ f. map.get f one.seat) right.rest.flights ∙ one.in_flight; is_open = one.is_open; at_place = one.at_place }

  abbrev slot_was : (place : ℕ) → IsSomeSlot after place → IsSomeSlot state place
  slot_was place one = record { seat = one.seat; ino = one.ino; progress = one.progress; slot = one.slot; in_flight = sym (ap (λ f. map.get f one.seat) right.rest.flights) ∙ one.in_flight; is_open = one.is_open; at_place = one.at_place }

  tied_now : AreTied layout after now left
  tied_now = record {
    pages = follows.dirty;
    nodes = follows.dirty_nodes;
    direct = right.direct;
    covered = right.covered;
    count = right.rest.node_writes ∙ whole.kept.tied.count;
    fates = λ place small. fates place (whole.kept.tied.fates place small);
    one_slot = λ place a b. whole.kept.tied.one_slot place (slot_was place a) (slot_was place b);
    one_file = λ seat other ino a b p q. whole.kept.tied.one_file seat other ino a b (sym (ap (λ f. map.get f seat) right.rest.flights) ∙ p) (sym (ap (λ f. map.get f other) right.rest.flights) ∙ q);
    open_apart = λ place small is_open. elsewhere_still lists layout state after places now unwritten left whole follows (position_at layout place).logged.at
        (in_node_some layout.base.ckpt.geom (position_at layout place).logged.at (is_address lists layout whole.kept.log.log place small).0) (whole.kept.tied.open_apart place small is_open);
    next_apart = λ some. elsewhere_still lists layout state after places now unwritten left whole follows layout.next some (whole.kept.tied.next_apart some);
  }
    where
      fates : (place : ℕ) → ((position_at layout place).fate ≡ Written) ⊎ IsSomeSlot state place → ((position_at layout place).fate ≡ Written) ⊎ IsSomeSlot after place
      fates place (inl is) = inl is
      fates place (inr one) = inr (slot_still place one)

  kept_now : IsKept lists layout after now left
  kept_now = record {
    packs = packs_stay lists layout state after right.rest.same whole.kept.packs;
    log = log_stays lists layout state after right.rest.same whole.kept.log;
    none_pending = whole.kept.none_pending;
    proper = proper;
    live = live_now;
    told = told_now;
    tied = tied_now;
    fsyncs = fsyncs_now limits lists layout state after places now unwritten left whole follows right;
  }

  nids_now : (ino offset : ℕ) (node : NodeAt) → (map.get places.nodes (ino, offset) ≡ Some node) ⊎ IsNewNode layout places now ino offset node → IsOwnNid layout ino offset node.nid
  nids_now ino offset node (inl was) = whole.nids ino offset node was
  nids_now ino offset node (inr new) = new.own

  -- a new page has no address yet
  owners_now : (ino page at : ℕ) (owner : ℕ × ℕ) → at ≢ 0 → map.get layout.owners at ≡ Some owner → (map.get places.pages (ino, page) ≡ Some at) ⊎ ((map.get places.pages (ino, page) ≡ None) × (at ≡ 0)) → owner ≡ (ino, page)
  owners_now ino page at owner some owned (inl was) = whole.owners ino page at owner was some owned
  owners_now ino page at owner some owned (inr new) = absurd (some new.1)

  counts_now : (ino : ℕ) → IsSome (map.get state.live ino) ⊎ IsFreeIno limits state ino → MayCount layout ino
  counts_now ino (inl old) = let row = the_one (map.get state.live ino) old in whole.counts ino row.0 row.1
  counts_now ino (inr free) = λ place small same. absurd (true≢false (sym (whole.logged place small) ∙ ap (set.contains state.logged) same ∙ free.not_logged))

  pub changed_keeps : IsKeptWhole lists layout after now left
  changed_keeps = record {
    kept = kept_now;
    dirty = right.dirty;
    nodes = follows.left_nodes;
    pages = follows.left_pages;
    nids = λ ino offset node there. nids_now ino offset node (follows.nodes ino offset node there);
    owners = λ ino page at owner found some owned. owners_now ino page at owner some owned (follows.pages ino page at found);
    unshrunk = λ seat ino progress found.
        let was : map.get state.flights seat ≡ Some (InFsync ino progress) = sym (ap (λ f. map.get f seat) right.rest.flights) ∙ found in
        right.shrunk ino (seat, (progress, was)) ∙ whole.unshrunk seat ino progress was;
    logged = λ place small. ap (λ (inos : Inos). set.contains inos (footer_ino (block_in (chained layout) place))) right.rest.logged ∙ whole.logged place small;
    counts = λ ino row there. counts_now ino (right.rows ino row there);
  }
