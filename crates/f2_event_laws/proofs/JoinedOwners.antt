-- The owners of a file's pages, with those that were known.
use Rattle.std.proofs.Common.{◌≡◌, ◌≢◌, ◌⊎◌, inl, inr, ℕ, ◌==◌, Bool, true, false, cond, List, [], ◌∷◌, refl, sym, ap, ◌∙◌, arith}
use Rattle.std.specs.Prelude.{Option, Some, None}
use Rattle.std.specs.FinMap as map
use Rattle.std.specs.FinSet as set
use Rattle.std.proofs.lemmas.Bool.{cases_eq, eqb-true, eq-eqb}
use Rattle.f2_disk.specs.Contents.{Contents}
use Rattle.f2_model.specs.State.{State, InNodes}
use Rattle.f2_stored.specs.Places.{Places}
use Rattle.f2_stored.specs.Trees.{Unwritten}
use Rattle.f2_stored.specs.Layout.{Owners, Layout}
use Rattle.f2_stored.specs.Kept.{AreFlushed}
use Rattle.f2_stored.specs.Whole.{IsKeptWhole}
use Rattle.f2_place_laws.proofs.Keys.{key_in}
use Rattle.f2_place_laws.proofs.Lists.{IsIn}
use Rattle.f2_event_laws.specs.WholeMarks.{IsOwnPage, OwnersMayJoin}
use Rattle.f2_event_laws.proofs.Maps.{put_here, put_other, found_put}
use Rattle.f2_event_laws.proofs.Reach.{page_some}
use Rattle.f2_event_laws.proofs.Standing.{part_of}

module _ (ino : ℕ) (key : ℕ × ℕ) where
  -- a page with an address owns it, where it is the file's
  abbrev put_own : Option ℕ → Owners → Owners
  put_own None owners = owners
  put_own (Some at) owners = cond (key.0 == ino) (map.insert owners at key) owners

  put_gets : (found : Option ℕ) (owners : Owners) (at : ℕ) (owner : ℕ × ℕ) → map.get owners at ≡ Some owner → (found ≡ Some at → key.0 ≡ ino → key ≡ owner) → map.get (put_own found owners) at ≡ Some owner
  put_gets None owners at owner there same = there
  put_gets (Some a) owners at owner there same = by_file (key.0 == ino) refl
    where
      by_file : (b : Bool) → (key.0 == ino) ≡ b → map.get (cond b (map.insert owners a key) owners) at ≡ Some owner
      by_file false is = there
      by_file true is = by_place (cases_eq at a)
        where
          by_place : (at ≡ a) ⊎ (at ≢ a) → map.get (map.insert owners a key) at ≡ Some owner
          by_place (inl here) = ap (map.get (map.insert owners a key)) here ∙ put_here owners a key ∙ ap Some (same (ap Some (sym here)) (eqb-true key.0 ino is))
          by_place (inr other) = put_other owners a key at other ∙ there

  put_only : (found : Option ℕ) (owners : Owners) (at : ℕ) (owner : ℕ × ℕ) → map.get (put_own found owners) at ≡ Some owner → (map.get owners at ≡ Some owner) ⊎ ((found ≡ Some at) × (key.0 ≡ ino) × (owner ≡ key))
  put_only None owners at owner there = inl there
  put_only (Some a) owners at owner there = by_file (key.0 == ino) refl there
    where
      by_file : (b : Bool) → (key.0 == ino) ≡ b → map.get (cond b (map.insert owners a key) owners) at ≡ Some owner → (map.get owners at ≡ Some owner) ⊎ ((Some a ≡ Some at) × (key.0 ≡ ino) × (owner ≡ key))
      by_file false is found = inl found
      by_file true is found = by_case (found_put owners a key at owner found)
        where
          by_case : ((at ≡ a) × (owner ≡ key)) ⊎ ((at ≢ a) × (map.get owners at ≡ Some owner)) → (map.get owners at ≡ Some owner) ⊎ ((Some a ≡ Some at) × (key.0 ≡ ino) × (owner ≡ key))
          by_case (inl new) = inr (ap Some (sym new.0), eqb-true key.0 ino is, new.1)
          by_case (inr old) = inl old.1

module _ (lists : Contents) (layout : Layout) (state : State) (places : Places) (unwritten : Unwritten) (whole : IsKeptWhole lists layout state places unwritten) (ino : ℕ)
    (some : (page at : ℕ) → map.get places.pages (ino, page) ≡ Some at → at ≢ 0) where
  abbrev joined : List (ℕ × ℕ) → Owners
  joined [] = layout.owners
  joined (key ∷ keys) = put_own ino key (map.get places.pages key) (joined keys)

  -- a page of the file has an address
  its_some : (key : ℕ × ℕ) (at : ℕ) → map.get places.pages key ≡ Some at → key.0 ≡ ino → at ≢ 0
  its_some key at found own = some key.1 at (ap (λ i. map.get places.pages (i, key.1)) (sym own) ∙ found)

  kept : (keys : List (ℕ × ℕ)) (at : ℕ) (owner : ℕ × ℕ) → map.get layout.owners at ≡ Some owner → map.get (joined keys) at ≡ Some owner
  kept [] at owner there = there
  kept (key ∷ keys) at owner there =
      put_gets ino key (map.get places.pages key) (joined keys) at owner (kept keys at owner there)
      (λ found own. sym (whole.owners key.0 key.1 at owner found (its_some key at found own) there))

  own : (page at : ℕ) → map.get places.pages (ino, page) ≡ Some at → (keys : List (ℕ × ℕ)) → IsIn (ino, page) keys → map.get (joined keys) at ≡ Some (ino, page)
  own page at found [] there = absurd there
  own page at found (key ∷ keys) (inl same) =
      let here : map.get places.pages key ≡ Some at = ap (map.get places.pages) (sym same) ∙ found in
      let its : (key.0 == ino) ≡ true = eq-eqb key.0 ino (ap (λ (q : ℕ × ℕ). q.0) (sym same)) in
      ap (λ o. map.get (put_own ino key o (joined keys)) at) here ∙ ap (λ b. map.get (cond b (map.insert (joined keys) at key) (joined keys)) at) its ∙ put_here (joined keys) at key ∙ ap Some (sym same)
  own page at found (key ∷ keys) (inr there) =
      put_gets ino key (map.get places.pages key) (joined keys) at (ino, page) (own page at found keys there)
      (λ other its. whole.kept.live.laid.pages_apart key (ino, page) at other found (its_some key at other its))

  only : (keys : List (ℕ × ℕ)) (at : ℕ) (owner : ℕ × ℕ) → map.get (joined keys) at ≡ Some owner → (map.get layout.owners at ≡ Some owner) ⊎ IsOwnPage places ino at owner
  only [] at owner there = inl there
  only (key ∷ keys) at owner there = by_case (only keys at owner) (put_only ino key (map.get places.pages key) (joined keys) at owner there)
    where
      by_case : (map.get (joined keys) at ≡ Some owner → (map.get layout.owners at ≡ Some owner) ⊎ IsOwnPage places ino at owner)
          → (map.get (joined keys) at ≡ Some owner) ⊎ ((map.get places.pages key ≡ Some at) × (key.0 ≡ ino) × (owner ≡ key)) → (map.get layout.owners at ≡ Some owner) ⊎ IsOwnPage places ino at owner
      by_case before (inl rest) = before rest
      by_case before (inr new) = inr (record {
        page = key.1;
        there = ap (λ i. map.get places.pages (i, key.1)) (sym new.1) ∙ new.0;
        some = its_some key at new.0 new.1;
        is = new.2 ∙ ap (λ i. (i, key.1)) new.1;
      })

pub owners_join : OwnersMayJoin
owners_join lists layout state places unwritten seat ino progress whole there part = record {
  now = joined lists layout state places unwritten whole ino some (map.keys places.pages);
  join = record {
    owns = record {
      kept = kept lists layout state places unwritten whole ino some (map.keys places.pages);
      own = λ page at found. own lists layout state places unwritten whole ino some page at found (map.keys places.pages) (key_in places.pages (ino, page) at found);
    };
    only = only lists layout state places unwritten whole ino some (map.keys places.pages);
  };
}
  where
    flushed : AreFlushed lists state places ino
    flushed = part_of lists layout state places ino progress InNodes part (whole.kept.fsyncs seat ino progress there)

    some : (page at : ℕ) → map.get places.pages (ino, page) ≡ Some at → at ≢ 0
    some page at found none =
        let file = (whole.kept.fsyncs seat ino progress there).file in
        let out : set.contains unwritten.pages (ino, page) ≡ false = whole.kept.tied.pages ino page file.0 file.1 file.2 ∙ flushed.clean page in
        omega (arith, none, page_some lists layout state whole.kept.log at (whole.kept.live.pages ino page at found out).in_zone)
