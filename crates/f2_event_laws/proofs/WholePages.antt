-- All that a running volume keeps, once a page was written or flushed.
use Rattle.std.proofs.Common.{◌≡◌, ◌≢◌, ◌⊎◌, inl, inr, ℕ, true, IsSome, is_some, refl, sym, ap, ◌∙◌, subst}
use Rattle.std.specs.Prelude.{Option, Some, None}
use Rattle.std.specs.FinMap as map
use Rattle.std.specs.FinSet as set
use Rattle.f2_format.specs.Offsets.{direct_of}
use Rattle.f2_disk.specs.Contents.{Contents}
use Rattle.f2_model.specs.State.{State, in_nodes}
use Rattle.f2_model.specs.Goes.{with_progress}
use Rattle.f2_model.specs.declared.rows.Row.{Row}
use Rattle.f2_model.specs.declared.rows.Kind.TheVariants.{Regular}
use Rattle.f2_stored.specs.Places.{Places, IsPagePlaced}
use Rattle.f2_stored.specs.Trees.{Unwritten}
use Rattle.f2_stored.specs.Layout.{Layout}
use Rattle.f2_stored.specs.Whole.{IsKeptWhole}
use Rattle.f2_place_laws.specs.Living as living
use Rattle.f2_place_laws.specs.Living.{with_page}
use Rattle.f2_place_laws.proofs.Options.{the_one}
use Rattle.f2_place_laws.proofs.Pairs.{pair, same_or_other, put_here, put_other, still_there}
use Rattle.f2_event_laws.specs.WholePages.{WrittenPagesKeepWhole, FlushedPagesKeepWhole}
use Rattle.f2_event_laws.proofs.Flights.{unshrunk_still}
use Rattle.f2_event_laws.proofs.Sets.{was_in, was_put}
use Rattle.f2_event_laws.proofs.Reach.{page_on_disk}
use Rattle.f2_event_laws.proofs.FlushedPages.{flushed_pages}
use Rattle.f2_event_laws.proofs.WrittenPages.{written_pages}

in_direct : (page offset : ℕ) → direct_of page ≡ Some offset → living.teller_of page ≡ offset
in_direct page offset is = rw is

in_no_direct : (page : ℕ) → direct_of page ≡ None → living.teller_of page ≡ 0
in_no_direct page is = rw is

module _ (lists : Contents) (layout : Layout) (state : State) (places : Places) (unwritten : Unwritten) (whole : IsKeptWhole lists layout state places unwritten) (ino page : ℕ) (dirty : set.contains state.dirty_pages (ino, page) ≡ true) where
  -- the row of a dirty page is a file's
  pub dirty_regular : (row : Row) → map.get state.live ino ≡ Some row → row.kind ≡ Regular
  dirty_regular row there =
      let file = whole.dirty ino page dirty in
      ap (λ (r : Row). r.kind) (the_row row file.row (sym there ∙ file.there)) ∙ file.regular
    where
      the_row : (a b : Row) → Some a ≡ Some b → a ≡ b
      the_row a b is = cc

  -- and the page has a place
  pub dirty_place : IsSome (map.get places.pages (ino, page))
  dirty_place = let file = whole.dirty ino page dirty in whole.pages ino page (whole.kept.tied.pages ino page file.row file.there file.regular ∙ dirty)

  -- so has the node that tells its address
  pub teller_place : IsSome (map.get places.nodes (ino, living.teller_of page))
  teller_place = by_direct (direct_of page) refl
    where
      own : IsPagePlaced state.live places ino page
      own = let found = the_one (map.get places.pages (ino, page)) dirty_place in whole.kept.live.laid.pages ino page found.0 found.1

      by_direct : (found : Option ℕ) → direct_of page ≡ found → IsSome (map.get places.nodes (ino, living.teller_of page))
      by_direct None is = let file = whole.dirty ino page dirty in subst (λ low. IsSome (map.get places.nodes (ino, low))) (sym (in_no_direct page is)) (whole.kept.live.laid.inodes ino file.row file.there)
      by_direct (Some offset) is = subst (λ low. IsSome (map.get places.nodes (ino, low))) (sym (in_direct page offset is)) (own.direct offset is)

pub written_pages_whole : WrittenPagesKeepWhole
written_pages_whole lists new layout state places unwritten ino page at row content whole dirty of_tree has free elsewhere in_zone block written =
    let regular = dirty_regular lists layout state places unwritten whole ino page dirty row of_tree in
    let was = dirty_place lists layout state places unwritten whole ino page dirty in
    record {
      kept = written_pages lists new layout state places unwritten ino page at row content whole.kept of_tree regular dirty was has free elsewhere (page_on_disk lists layout state whole.kept.log at in_zone) in_zone block written;
      dirty = λ file p is. whole.dirty file p (was_in state.dirty_pages (ino, page) (file, p) is);
      nodes = λ file low is. nodes_there file low (was_put unwritten.nodes (ino, living.teller_of page) (file, low) is);
      pages = λ file p is. still_there places.pages (ino, page) at (file, p) (whole.pages file p (was_in unwritten.pages (ino, page) (file, p) is));
      nids = whole.nids;
      owners = λ file p a owner found some owned. owners_now file p a owner some owned found (same_or_other (file, p) (ino, page));
      unshrunk = whole.unshrunk;
      logged = whole.logged;
      counts = whole.counts;
    }
  where
    nodes_there : (file low : ℕ) → (pair file low ≡ pair ino (living.teller_of page)) ⊎ (set.contains unwritten.nodes (file, low) ≡ true) → IsSome (map.get places.nodes (file, low))
    nodes_there file low (inl same) = ap (λ q. is_some (map.get places.nodes q)) same ∙ teller_place lists layout state places unwritten whole ino page dirty
    nodes_there file low (inr there) = whole.nodes file low there

    same_address : (a b : ℕ) → Some a ≡ Some b → a ≡ b
    same_address a b e = cc

    no_owner : (found : Option (ℕ × ℕ)) (owner : ℕ × ℕ) → found ≡ None → ¬ (found ≡ Some owner)
    no_owner found owner none some = cc

    -- nothing of base or marks stands at the new address
    owners_now : (file p a : ℕ) (owner : ℕ × ℕ) → a ≢ 0 → map.get layout.owners a ≡ Some owner → map.get (with_page places ino page at).pages (file, p) ≡ Some a → (pair file p ≡ pair ino page) ⊎ (pair file p ≢ pair ino page) → owner ≡ (file, p)
    owners_now file p a owner some owned found (inl same) =
        let is : a ≡ at = same_address a at (sym found ∙ ap (map.get (with_page places ino page at).pages) same ∙ put_here places.pages (ino, page) at) in
        absurd (no_owner (map.get layout.owners at) owner free.no_owner (ap (map.get layout.owners) (sym is) ∙ owned))
    owners_now file p a owner some owned found (inr other) = whole.owners file p a owner (sym (put_other places.pages (ino, page) at (file, p) other) ∙ found) some owned

pub flushed_pages_whole : FlushedPagesKeepWhole
flushed_pages_whole lists layout state places unwritten seat ino progress whole there part clean = record {
  kept = flushed_pages lists layout state places unwritten seat ino progress whole.kept there part clean;
  dirty = whole.dirty;
  nodes = whole.nodes;
  pages = whole.pages;
  nids = whole.nids;
  owners = whole.owners;
  unshrunk = unshrunk_still state (with_progress state seat ino (in_nodes None)) seat ino progress (in_nodes None) there refl whole.unshrunk;
  logged = whole.logged;
  counts = whole.counts;
}
