-- Writes and truncates make the right things dirty.
use Rattle.std.proofs.Common.{◌≡◌, ◌≢◌, ◌⊎◌, inl, inr, ℕ, ◌*◌, ◌/◌, ◌%◌, Bool, true, false, cond, not, ◌&&◌, List, [], ◌∷◌, IsSome, is_some, refl, sym, ap, ◌∙◌, subst, arith}
use Rattle.std.specs.Prelude.{None, Result, Ok, nat_lt, if◌then◌else◌, ◌==◌}
use Rattle.std.specs.List.{flat_map, fold}
use Rattle.std.specs.FinMap as map
use Rattle.std.specs.FinMap.{nat_cmp-IsAntisymmetric}
use Rattle.std.proofs.lemmas.Bool.{lt-ltb, eqb-false}
use Rattle.f2_disk.specs.Contents.{Contents}
use Rattle.f2_image_laws.specs.Rolled.{image_limits}
use Rattle.f2_laws.specs.Flights.{IsFrozen}
use Rattle.f2_laws.proofs.Listed.{Has}
use Rattle.f2_laws.proofs.Maps.{get_put, get_put-other}
use Rattle.f2_laws.proofs.Passed.{walk_ok, regular as regular_kind}
use Rattle.f2_laws.proofs.Places.{same_or_other}
use Rattle.f2_laws.proofs.Seats.{not_frozen}
use Rattle.f2_laws.proofs.Walks.{walk_ends}
use Rattle.f2_model.specs.Call.{effect, on_row, refusal_of, row_passes}
use Rattle.f2_model.specs.Content.{PAGE, PageMap, begins_before, cut_pages, filled, page_of, pages_of_piece, put_in_page, put_piece, put_pieces, raised_size}
use Rattle.f2_model.specs.State.{State, dirtied, from_both_rows, removed, touched}
use Rattle.f2_model.specs.Step.{called, freezing_walked}
use Rattle.f2_model.specs.Tree.{Rows, IsGoodTree, is_directory, walk}
use Rattle.f2_model.specs.declared.bounds.Limits.{Limits}
use Rattle.f2_model.specs.declared.replies.Reply.{Reply}
use Rattle.f2_model.specs.declared.requests.Piece.{Piece}
use Rattle.f2_model.specs.declared.requests.Request.TheVariants.{Write, Truncate}
use Rattle.f2_model.specs.declared.rows.Row.{Row}
use Rattle.f2_model.specs.declared.rows.Kind.TheVariants.{Regular}
use Rattle.f2_stored.specs.Places.{Places}
use Rattle.f2_stored.specs.Trees.{Unwritten}
use Rattle.f2_stored.specs.Layout.{Layout}
use Rattle.f2_stored.specs.Whole.{IsKeptWhole}
use Rattle.f2_call_laws.proofs.Dirtied.{DirtiesRight}
use Rattle.f2_call_laws.proofs.Members.{has_either, has_filter, key_listed}
use Rattle.f2_call_laws.proofs.SameWalks.{leads_there}
use Rattle.f2_call_laws.proofs.Touched.{touched_right}

-- pages that were there stay when pieces are put, and those that the pieces reach are there
put_there : (pages : PageMap) (page : ℕ) (bytes : List ℕ) (q : ℕ) → IsSome (map.get pages q) ⊎ (q ≡ page) → IsSome (map.get (map.insert pages page bytes) q)
put_there pages page bytes q h = by_page (same_or_other q page) h
  where
    by_page : (q ≡ page) ⊎ (q ≢ page) → IsSome (map.get pages q) ⊎ (q ≡ page) → IsSome (map.get (map.insert pages page bytes) q)
    by_page (inl same) h = ap is_some (ap (map.get (map.insert pages page bytes)) same ∙ get_put pages page bytes)
    by_page (inr other) (inl is) = ap is_some (get_put-other pages page bytes q other) ∙ is
    by_page (inr other) (inr same) = absurd (other same)

fold_there : (piece : Piece) (numbers : List ℕ) (pages : PageMap) (q : ℕ) → IsSome (map.get pages q) ⊎ Has q numbers → IsSome (map.get (fold (put_in_page piece) pages numbers) q)
fold_there piece [] pages q (inl is) = is
fold_there piece [] pages q (inr h) = absurd h
fold_there piece (number ∷ numbers) pages q (inl is) = fold_there piece numbers (put_in_page piece pages number) q (inl (put_there pages number _ q (inl is)))
fold_there piece (number ∷ numbers) pages q (inr (inl same)) = fold_there piece numbers (put_in_page piece pages number) q (inl (put_there pages number _ q (inr same)))
fold_there piece (number ∷ numbers) pages q (inr (inr h)) = fold_there piece numbers (put_in_page piece pages number) q (inr h)

pieces_there : (pieces : List Piece) (pages : PageMap) (q : ℕ) → IsSome (map.get pages q) ⊎ Has q (flat_map pages_of_piece pieces) → IsSome (map.get (put_pieces pages pieces) q)
pieces_there [] pages q (inl is) = is
pieces_there [] pages q (inr h) = absurd h
pieces_there (piece ∷ pieces) pages q (inl is) = pieces_there pieces (put_piece pages piece) q (inl (fold_there piece (pages_of_piece piece) pages q (inl is)))
pieces_there (piece ∷ pieces) pages q (inr h) = pieces_there pieces (put_piece pages piece) q (by_side (has_either q (pages_of_piece piece) (flat_map pages_of_piece pieces) h))
  where
    by_side : Has q (pages_of_piece piece) ⊎ Has q (flat_map pages_of_piece pieces) → IsSome (map.get (put_piece pages piece) q) ⊎ Has q (flat_map pages_of_piece pieces)
    by_side (inl own) = inl (fold_there piece (pages_of_piece piece) pages q (inr own))
    by_side (inr more) = inr more

-- the pages that begin before a size
abbrev left_by : PageMap → ℕ → PageMap
left_by pages size = map.retain_keys pages (begins_before size)

-- such a page is left by a cut
cut_there : (pages : PageMap) (size q : ℕ) → begins_before size q ≡ true → IsSome (map.get pages q) → IsSome (map.get (cut_pages pages size) q)
cut_there pages size q before is = by_size (size % PAGE == 0)
  where
    in_left : IsSome (map.get (left_by pages size) q)
    in_left = ap is_some (map.get-retain_keys pages (begins_before size) q (λ x tie. ap (begins_before size) (sym (nat_cmp-IsAntisymmetric q x tie))) ∙ ap (λ b. cond b (map.get pages q) None) before) ∙ is

    by_page : (b : Bool) → IsSome (map.get (if b then map.insert (left_by pages size) (size / PAGE) (filled (page_of (left_by pages size) (size / PAGE)) (size % PAGE) PAGE 0) else (left_by pages size)) q)
    by_page true = put_there (left_by pages size) (size / PAGE) _ q (inl in_left)
    by_page false = in_left

    by_size : (b : Bool) → IsSome (map.get (if b then (left_by pages size) else (if map.contains_key (left_by pages size) (size / PAGE) then map.insert (left_by pages size) (size / PAGE) (filled (page_of (left_by pages size) (size / PAGE)) (size % PAGE) PAGE 0) else (left_by pages size))) q)
    by_size true = in_left
    by_size false = by_page (map.contains_key (left_by pages size) (size / PAGE))

-- a page that a cut doesn't remove begins before the size
not_removed : (row : Row) (path : List (List ℕ)) (size page : ℕ) → IsSome (map.get row.pages page) → (Has page (removed row (Truncate path size)) → ⊥) → begins_before size page ≡ true
not_removed row path size page is none = by_test (begins_before size page) refl
  where
    by_test : (b : Bool) → begins_before size page ≡ b → b ≡ true
    by_test true e = refl
    by_test false e = absurd (none (has_filter (λ one. not (begins_before size one)) page (map.keys row.pages) (key_listed row.pages page is) (ap not e)))

-- the page that a cut touches is there after it
touched_there : (row : Row) (path : List (List ℕ)) (size page : ℕ) → Has page (touched row (Truncate path size)) → IsSome (map.get (cut_pages row.pages size) page)
touched_there row path size page h = by_tests (nat_lt size row.size) (size % PAGE == 0) refl (map.contains_key row.pages (size / PAGE)) refl h
  where
    by_tests : (a b : Bool) → (size % PAGE == 0) ≡ b → (c : Bool) → map.contains_key row.pages (size / PAGE) ≡ c → Has page (if a && not b && c then (size / PAGE) ∷ [] else []) → IsSome (map.get (cut_pages row.pages size) page)
    by_tests false b e c is h = absurd h
    by_tests true true e c is h = absurd h
    by_tests true false e false is h = absurd h
    by_tests true false e true is (inr h) = absurd h
    by_tests true false e true is (inl same) =
        let apart : size % PAGE ≢ 0 = eqb-false (size % PAGE) 0 e in
        let before : begins_before size (size / PAGE) ≡ true = lt-ltb ((size / PAGE) * PAGE) size (omega (arith, apart)) in
        subst (λ q. IsSome (map.get (cut_pages row.pages size) q)) (sym same) (cut_there row.pages size (size / PAGE) before is)

module _ (lists : Contents) (layout : Layout) (state : State) (places : Places) (unwritten : Unwritten) (whole : IsKeptWhole lists layout state places unwritten) where
  abbrev limits : Limits
  limits = image_limits layout.base.ckpt.geom

  -- the row at the end of a walk that no seat keeps off isn't in fsync
  thawed_row : (path : List (List ℕ)) (row : Row) → walk state.live path ≡ Ok row → freezing_walked state (walk state.live path) ≡ None → IsFrozen state.flights row.ino → ⊥
  thawed_row path row e none = not_frozen state row.ino (sym (ap (freezing_walked state) e) ∙ none)

  -- the state after a change of the file at the end of a walk
  abbrev filed : (path : List (List ℕ)) (change : Row → Row) (touch remove : Row → List ℕ) → Result Row Reply → State
  filed path change touch remove end =
      let after : Rows = on_row state.live end (λ row. map.insert state.live row.ino (change row)) in
      record (from_both_rows state end (walk after path) (λ old new. dirtied state old new (touch old) (remove old))) { live = after }

  filed_right : (path : List (List ℕ)) (change : Row → Row) (touch remove : Row → List ℕ) → refusal_of (walk state.live path) ≡ None → row_passes (λ row. is_directory row.kind) (walk state.live path) ≡ false
      → freezing_walked state (walk state.live path) ≡ None → ((row : Row) → change row ≡ record row { size = (change row).size; pages = (change row).pages })
      → ((row : Row) (page : ℕ) → IsSome (map.get row.pages page) → (Has page (remove row) → ⊥) → IsSome (map.get (change row).pages page))
      → ((row : Row) (page : ℕ) → Has page (touch row) → IsSome (map.get (change row).pages page))
      → IsGoodTree limits.size (on_row state.live (walk state.live path) (λ row. map.insert state.live row.ino (change row)))
      → DirtiesRight limits state (filed path change touch remove (walk state.live path))
  filed_right path change touch remove walks file thawed as_was stays reached good_after =
      let end = walk_ok (walk state.live path) walks in
      let old : Row = end.0 in
      let new : Row = record old { size = (change old).size; pages = (change old).pages } in
      let good = whole.kept.proper.good in
      let there = (walk_ends limits.size state.live good path old end.1).there in
      let kind : old.kind ≡ Regular = regular_kind old.kind (sym (ap (row_passes (λ row. is_directory row.kind)) end.1) ∙ file) in
      let is : change old ≡ new = as_was old in
      let good_now : IsGoodTree limits.size (map.insert state.live old.ino new) =
      subst (λ (r : Row). IsGoodTree limits.size (map.insert state.live old.ino r)) is (subst (λ o. IsGoodTree limits.size (on_row state.live o (λ row. map.insert state.live row.ino (change row)))) end.1 good_after) in
      let leads = leads_there limits.size limits.size state.live good old new there refl refl (λ directory name. refl) good_now path end.1 in
      subst (λ o. DirtiesRight limits state (filed path change touch remove o)) (sym end.1)
      (subst (λ (r : Row). DirtiesRight limits state (record (from_both_rows state (Ok old) (walk (map.insert state.live old.ino r) path) (λ was now. dirtied state was now (touch was) (remove was))) { live = map.insert state.live old.ino r })) (sym is)
      (subst (λ o. DirtiesRight limits state (record (from_both_rows state (Ok old) o (λ was now. dirtied state was now (touch was) (remove was))) { live = map.insert state.live old.ino new })) (sym leads)
      (touched_right lists layout state places unwritten whole old new there kind kind (touch old) (remove old) (λ page has none. stays old page has none) (λ page h. reached old page h) (thawed_row path old end.1 thawed))))

  pub written_right : (path : List (List ℕ)) (pieces : List Piece) (ino : ℕ) → refusal_of (walk state.live path) ≡ None → row_passes (λ row. is_directory row.kind) (walk state.live path) ≡ false
      → freezing_walked state (walk state.live path) ≡ None → IsGoodTree limits.size (effect state.live (Write path pieces) ino) → DirtiesRight limits state (called state (Write path pieces) ino)
  written_right path pieces ino walks file thawed good_after =
      filed_right path (λ row. record row { size = raised_size row.size pieces; pages = put_pieces row.pages pieces }) (λ row. touched row (Write path pieces)) (λ row. removed row (Write path pieces)) walks file thawed (λ row. refl)
      (λ row page has none. pieces_there pieces row.pages page (inl has)) (λ row page h. pieces_there pieces row.pages page (inr h)) good_after

  pub truncated_right : (path : List (List ℕ)) (size ino : ℕ) → refusal_of (walk state.live path) ≡ None → row_passes (λ row. is_directory row.kind) (walk state.live path) ≡ false
      → freezing_walked state (walk state.live path) ≡ None → IsGoodTree limits.size (effect state.live (Truncate path size) ino) → DirtiesRight limits state (called state (Truncate path size) ino)
  truncated_right path size ino walks file thawed good_after =
      filed_right path (λ row. record row { size = size; pages = cut_pages row.pages size }) (λ row. touched row (Truncate path size)) (λ row. removed row (Truncate path size)) walks file thawed (λ row. refl)
      (λ row page has none. cut_there row.pages size page (not_removed row path size page has none) has) (λ row page h. touched_there row path size page h) good_after
