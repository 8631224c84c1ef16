-- A call that changes the pages of a file makes the right pages and nodes dirty.
use Rattle.std.proofs.Common.{◌≡◌, ◌≢◌, ◌⊎◌, inl, inr, ℕ, Bool, true, false, not, ◌||◌, List, ◌++◌, IsSome, is_some, refl, sym, ap, ◌∙◌, subst, true≢false}
use Rattle.std.specs.Prelude.{Some, if◌then◌else◌}
use Rattle.std.specs.List.{filter, list_any}
use Rattle.std.specs.Ordering.{nat_cmp, eq_by_cmp}
use Rattle.std.specs.Cmp.{nat_cmp_total, unsigned_tied}
use Rattle.std.specs.FinMap as map
use Rattle.std.specs.FinSet as set
use Rattle.std.proofs.lemmas.Bool.{eq-eqb, ne_eqb}
use Rattle.f2_disk.specs.Contents.{Contents}
use Rattle.f2_format.specs.Offsets.{direct_of}
use Rattle.f2_image.specs.Reached.{IsDirect}
use Rattle.f2_image_laws.specs.Rolled.{image_limits}
use Rattle.f2_model.specs.State.{State, dirtied, directs_of, has_direct, without_pairs}
use Rattle.f2_model.specs.Tree.{Rows}
use Rattle.f2_model.specs.declared.bounds.Limits.{Limits}
use Rattle.f2_model.specs.declared.rows.Row.{Row}
use Rattle.f2_model.specs.declared.rows.Kind.TheVariants.{Regular}
use Rattle.f2_laws.specs.Flights.{IsFrozen}
use Rattle.f2_laws.proofs.Listed.{Has, has-left, has-right, mapped_has}
use Rattle.f2_laws.proofs.Maps.{get_put, get_put-other}
use Rattle.f2_laws.proofs.Walks.{some_same}
use Rattle.f2_stored.specs.Places.{Places}
use Rattle.f2_stored.specs.Trees.{Unwritten}
use Rattle.f2_stored.specs.Layout.{Layout}
use Rattle.f2_stored.specs.Whole.{IsFilePage, IsKeptWhole}
use Rattle.f2_call_laws.proofs.Called.{leaves_rest}
use Rattle.f2_call_laws.proofs.Dirtied.{WasThere, DirtiesRight}
use Rattle.f2_call_laws.proofs.Members.{has_any, any_has, has_filter, filtered, has_either, direct_is, page_of_direct, key_listed}
use Rattle.f2_call_laws.proofs.OneRow.{one_row_right}
use Rattle.f2_call_laws.proofs.Pairs.{in_with, in_without, with_listed, with_kept, without_kept, other_with, other_without, has_or_not}

module _ (lists : Contents) (layout : Layout) (state : State) (places : Places) (unwritten : Unwritten) (whole : IsKeptWhole lists layout state places unwritten)
    (old new : Row) (there : map.get state.live old.ino ≡ Some old) (regular : old.kind ≡ Regular) (kind : new.kind ≡ Regular) (touched removed : List ℕ)
    (stays : (page : ℕ) → IsSome (map.get old.pages page) → (Has page removed → ⊥) → IsSome (map.get new.pages page))
    (reached : (page : ℕ) → Has page touched → IsSome (map.get new.pages page)) where
  abbrev limits : Limits
  limits = image_limits layout.base.ckpt.geom

  abbrev live : Rows
  live = map.insert state.live old.ino new

  abbrev after : State
  after = record (dirtied state old new touched removed) { live = live }

  abbrev lost : List ℕ
  lost = directs_of removed

  abbrev dirty_nodes : List ℕ
  dirty_nodes = filter (has_direct new) lost ++ directs_of touched

  -- a node of a page that the file has after it is one that it has a page in
  has_node : (page offset : ℕ) → IsSome (map.get new.pages page) → direct_of page ≡ Some offset → has_direct new offset ≡ true
  has_node page offset is direct = has_any offset (directs_of (map.keys new.pages)) (mapped_has direct_of page offset (map.keys new.pages) (key_listed new.pages page is) direct)

  is_new : (row : Row) → map.get live old.ino ≡ Some row → new ≡ row
  is_new row found = some_same (sym (get_put state.live old.ino new) ∙ found)

  -- a node that is clean after it, of a file that lost none, lost no page
  none_lost : (offset : ℕ) → set.contains after.shrunk old.ino ≡ false → set.contains after.dirty_nodes (old.ino, offset) ≡ false → Has offset lost → ⊥
  none_lost offset kept clean gone = by_direct (has_direct new offset) refl
    where
      by_direct : (b : Bool) → has_direct new offset ≡ b → ⊥
      by_direct true is =
          true≢false (sym (with_listed old.ino offset dirty_nodes (without_pairs old.ino state.dirty_nodes lost) (has-left offset (filter (has_direct new) lost) (directs_of touched) (has_filter (has_direct new) offset lost gone is))) ∙ clean)
      by_direct false is =
          let shrinks : list_any (λ node. not (has_direct new node)) lost ≡ true = any_has (λ node. not (has_direct new node)) offset lost gone (ap not is) in
          true≢false (sym (ap (λ b. set.contains (if b then set.insert state.shrunk old.ino else state.shrunk) old.ino) shrinks ∙ set.contains-insert nat_cmp_total state.shrunk old.ino old.ino ∙ ap (λ b. b || set.contains state.shrunk old.ino) (unsigned_tied old.ino old.ino ∙ eq-eqb old.ino old.ino refl)) ∙ kept)

  shrunk_before : (ino : ℕ) → set.contains after.shrunk ino ≡ false → set.contains state.shrunk ino ≡ false
  shrunk_before ino = by_test (list_any (λ node. not (has_direct new node)) lost)
    where
      right : (a b : Bool) → (a || b) ≡ false → b ≡ false
      right true b e = absurd (true≢false e)
      right false b e = e

      by_test : (b : Bool) → set.contains (if b then set.insert state.shrunk old.ino else state.shrunk) ino ≡ false → set.contains state.shrunk ino ≡ false
      by_test true e = right (eq_by_cmp nat_cmp ino old.ino) (set.contains state.shrunk ino) (sym (set.contains-insert nat_cmp_total state.shrunk old.ino ino) ∙ e)
      by_test false e = e

  shrunk_other : (ino : ℕ) → ino ≢ old.ino → set.contains after.shrunk ino ≡ set.contains state.shrunk ino
  shrunk_other ino apart = by_test (list_any (λ node. not (has_direct new node)) lost)
    where
      by_test : (b : Bool) → set.contains (if b then set.insert state.shrunk old.ino else state.shrunk) ino ≡ set.contains state.shrunk ino
      by_test true = set.contains-insert nat_cmp_total state.shrunk old.ino ino ∙ ap (λ b. b || set.contains state.shrunk ino) (unsigned_tied ino old.ino ∙ ne_eqb ino old.ino apart)
      by_test false = refl

  clean_before : (offset : ℕ) → (Has offset lost → ⊥) → set.contains after.dirty_nodes (old.ino, offset) ≡ false → set.contains state.dirty_nodes (old.ino, offset) ≡ false
  clean_before offset none clean = by_test (set.contains state.dirty_nodes (old.ino, offset)) refl
    where
      by_test : (b : Bool) → set.contains state.dirty_nodes (old.ino, offset) ≡ b → b ≡ false
      by_test true is = absurd (true≢false (sym (with_kept old.ino offset dirty_nodes (without_pairs old.ino state.dirty_nodes lost) (without_kept old.ino offset lost state.dirty_nodes is none)) ∙ clean))
      by_test false is = refl

  told : (page offset : ℕ) (row : Row) → map.get live old.ino ≡ Some row → set.contains after.shrunk old.ino ≡ false → direct_of page ≡ Some offset → set.contains after.dirty_nodes (old.ino, offset) ≡ false
      → WasThere state old.ino page offset row
  told page offset row found kept direct clean =
      let none = none_lost offset kept clean in
      record {
        before = old;
        there = there;
        regular = regular;
        whole = shrunk_before old.ino kept;
        clean = clean_before offset none clean;
        stays = λ has. subst (λ (r : Row). IsSome (map.get r.pages page)) (is_new row found) (stays page has (λ gone. none (mapped_has direct_of page offset removed gone direct)));
      }

  direct : (offset : ℕ) → set.contains after.dirty_nodes (old.ino, offset) ≡ true → IsDirect offset
  direct offset is = by_kind (in_with old.ino offset dirty_nodes (without_pairs old.ino state.dirty_nodes lost) is)
    where
      of_pages : (pages : List ℕ) → Has offset (directs_of pages) → IsDirect offset
      of_pages pages h = let page = page_of_direct offset pages h in direct_is page.0 offset page.2

      by_side : Has offset (filter (has_direct new) lost) ⊎ Has offset (directs_of touched) → IsDirect offset
      by_side (inl h) = of_pages removed (filtered (has_direct new) offset lost h).0
      by_side (inr h) = of_pages touched h

      by_kind : Has offset dirty_nodes ⊎ (set.contains (without_pairs old.ino state.dirty_nodes lost) (old.ino, offset) ≡ true) → IsDirect offset
      by_kind (inl h) = by_side (has_either offset (filter (has_direct new) lost) (directs_of touched) h)
      by_kind (inr h) = whole.kept.tied.direct old.ino offset (in_without old.ino offset lost state.dirty_nodes h).0

  -- a page that is dirty after it is touched, or it was dirty and stays
  dirty_page : (page : ℕ) → set.contains after.dirty_pages (old.ino, page) ≡ true → Has page touched ⊎ ((set.contains state.dirty_pages (old.ino, page) ≡ true) × IsSome (map.get new.pages page))
  dirty_page page is = by_kind (in_with old.ino page touched (without_pairs old.ino state.dirty_pages removed) is)
    where
      by_kind : Has page touched ⊎ (set.contains (without_pairs old.ino state.dirty_pages removed) (old.ino, page) ≡ true) → Has page touched ⊎ ((set.contains state.dirty_pages (old.ino, page) ≡ true) × IsSome (map.get new.pages page))
      by_kind (inl h) = inl h
      by_kind (inr h) =
          let was = in_without old.ino page removed state.dirty_pages h in
          let own = whole.dirty old.ino page was.0 in
          let same : own.row ≡ old = some_same (sym own.there ∙ there) in
          inr (was.0, stays page (subst (λ (r : Row). IsSome (map.get r.pages page)) same own.has) was.1)

  covered : (page offset : ℕ) → set.contains after.dirty_pages (old.ino, page) ≡ true → direct_of page ≡ Some offset → set.contains after.dirty_nodes (old.ino, offset) ≡ true
  covered page offset is in_node = by_kind (dirty_page page is)
    where
      listed : Has offset dirty_nodes → set.contains after.dirty_nodes (old.ino, offset) ≡ true
      listed h = with_listed old.ino offset dirty_nodes (without_pairs old.ino state.dirty_nodes lost) h

      by_lost : (set.contains state.dirty_pages (old.ino, page) ≡ true) × IsSome (map.get new.pages page) → Has offset lost ⊎ (Has offset lost → ⊥) → set.contains after.dirty_nodes (old.ino, offset) ≡ true
      by_lost was (inl gone) = listed (has-left offset (filter (has_direct new) lost) (directs_of touched) (has_filter (has_direct new) offset lost gone (has_node page offset was.1 in_node)))
      by_lost was (inr none) =
          with_kept old.ino offset dirty_nodes (without_pairs old.ino state.dirty_nodes lost) (without_kept old.ino offset lost state.dirty_nodes (whole.kept.tied.covered old.ino page offset was.0 in_node) none)

      by_kind : Has page touched ⊎ ((set.contains state.dirty_pages (old.ino, page) ≡ true) × IsSome (map.get new.pages page)) → set.contains after.dirty_nodes (old.ino, offset) ≡ true
      by_kind (inl h) = listed (has-right offset (filter (has_direct new) lost) (directs_of touched) (mapped_has direct_of page offset touched h in_node))
      by_kind (inr was) = by_lost was (has_or_not offset lost)

  dirty : (page : ℕ) → set.contains after.dirty_pages (old.ino, page) ≡ true → IsFilePage live old.ino page
  dirty page is = record { row = new; there = get_put state.live old.ino new; regular = kind; has = by_kind (dirty_page page is) }
    where
      by_kind : Has page touched ⊎ ((set.contains state.dirty_pages (old.ino, page) ≡ true) × IsSome (map.get new.pages page)) → IsSome (map.get new.pages page)
      by_kind (inl h) = reached page h
      by_kind (inr was) = was.1

  pub touched_right : (IsFrozen state.flights old.ino → ⊥) → DirtiesRight limits state after
  touched_right thawed =
      one_row_right limits lists layout state after places unwritten whole (leaves_rest state live after.dirty_pages after.dirty_nodes state.moved after.shrunk) old.ino thawed
      (record {
        rows = λ at apart. get_put-other state.live old.ino new at apart;
        dirty = λ at apart. record {
          pages = λ number. other_with at old.ino number touched (without_pairs old.ino state.dirty_pages removed) apart ∙ other_without at old.ino number removed state.dirty_pages apart;
          nodes = λ number. other_with at old.ino number dirty_nodes (without_pairs old.ino state.dirty_nodes lost) apart ∙ other_without at old.ino number lost state.dirty_nodes apart;
        };
        shrunk = shrunk_other;
      })
      (record {
        rows = λ row found. inl (ap is_some there);
        told = λ page offset row found is kept in_node clean. inl (told page offset row found kept in_node clean);
        direct = direct;
        covered = covered;
        dirty = dirty;
      })
