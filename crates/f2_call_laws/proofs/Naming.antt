-- Calls that change the names of a tree make the right things dirty: a new row, one that goes, and one that moves.
use Rattle.std.proofs.Common.{◌≡◌, inl, inr, ℕ, IsSome, is_some, List, refl, sym, ap, ◌∙◌, subst, true≢false}
use Rattle.std.specs.Prelude.{Some, None, Ok}
use Rattle.std.specs.FinMap as map
use Rattle.std.specs.FinSet as set
use Rattle.f2_disk.specs.Contents.{Contents}
use Rattle.f2_model.specs.Call.{on_row, new_row, to_directory, walk_parent, refusal_of}
use Rattle.f2_model.specs.State.{State, Pairs, Inos, IsFreeIno, without_ino, from_row}
use Rattle.f2_model.specs.Step.{called, freezing_walked}
use Rattle.f2_model.specs.Tree.{Rows, walk, last_name}
use Rattle.f2_model.specs.declared.bounds.Limits.{Limits}
use Rattle.f2_model.specs.declared.requests.Request.TheVariants.{Unlink, Rename}
use Rattle.f2_model.specs.declared.rows.Row.{Row}
use Rattle.f2_model.specs.declared.rows.Kind.{Kind}
use Rattle.f2_model.specs.declared.rows.Kind.TheVariants.{Regular, Directory}
use Rattle.f2_image_laws.specs.Rolled.{image_limits}
use Rattle.f2_laws.specs.Flights.{IsFrozen}
use Rattle.f2_laws.proofs.Maps.{get_put, get_put-other, get_taken, get_taken-other}
use Rattle.f2_laws.proofs.Passed.{walk_ok, directory_ok, kinds_differ}
use Rattle.f2_laws.proofs.Seats.{not_frozen}
use Rattle.f2_laws.proofs.Walks.{some_same, some_none, walk_ends}
use Rattle.f2_room_laws.proofs.CalledPairs.{LeavesFile}
use Rattle.f2_stored.specs.Places.{Places}
use Rattle.f2_stored.specs.Trees.{Unwritten}
use Rattle.f2_stored.specs.Layout.{Layout}
use Rattle.f2_stored.specs.Whole.{IsFilePage, IsKeptWhole}
use Rattle.f2_call_laws.proofs.Called.{leaves_rest, frozen_row}
use Rattle.f2_call_laws.proofs.Dirtied.{DirtiesRight}
use Rattle.f2_call_laws.proofs.OneRow.{one_row_right}
use Rattle.f2_call_laws.proofs.Pairs.{other_without_ino, none_of_ino}

module _ (lists : Contents) (layout : Layout) (state : State) (places : Places) (unwritten : Unwritten) (whole : IsKeptWhole lists layout state places unwritten) where
  abbrev limits : Limits
  limits = image_limits layout.base.ckpt.geom

  -- a state with another tree, in which nothing else is dirty
  abbrev with_rows : Rows → State
  with_rows live = record state { live = live }

  same_dirty : (live : Rows) (ino : ℕ) → LeavesFile state (with_rows live) ino
  same_dirty live ino = record { pages = λ number. refl; nodes = λ number. refl }

  -- a new row
  module _ (ino : ℕ) (free : IsFreeIno limits state ino) where
    fresh : IsFrozen state.flights ino → ⊥
    fresh frozen = let r = frozen_row lists layout state places unwritten whole ino frozen in some_none (sym r.1 ∙ free.no_row)

    put_right : (put : Row) → DirtiesRight limits state (with_rows (map.insert state.live ino put))
    put_right put =
        let live : Rows = map.insert state.live ino put in
        one_row_right limits lists layout state (with_rows live) places unwritten whole (leaves_rest state live state.dirty_pages state.dirty_nodes state.moved state.shrunk) ino fresh
        (record { rows = λ at apart. get_put-other state.live ino put at apart; dirty = λ at apart. same_dirty live at; shrunk = λ at apart. refl })
        (record {
          rows = λ row there. inr free;
          told = λ page offset row there regular kept direct clean. inr free;
          direct = λ offset is. whole.kept.tied.direct ino offset is;
          covered = λ page offset is direct. whole.kept.tied.covered ino page offset is direct;
          dirty = λ page is. (let own = whole.dirty ino page is in absurd (some_none (sym own.there ∙ free.no_row)));
        })

    pub added_right : (kind : Kind) (path : List (List ℕ)) → refusal_of (walk_parent state.live path) ≡ None
        → DirtiesRight limits state (with_rows (on_row state.live (walk_parent state.live path) (λ up. map.insert state.live ino (new_row kind ino up.ino (last_name path)))))
    added_right kind path walks =
        let up = walk_ok (walk_parent state.live path) walks in
        subst (λ o. DirtiesRight limits state (with_rows (on_row state.live o (λ (up : Row). map.insert state.live ino (new_row kind ino up.ino (last_name path)))))) (sym up.1)
        (put_right (new_row kind ino up.0.ino (last_name path)))

  -- a directory that goes
  removed_right : (row : Row) → map.get state.live row.ino ≡ Some row → row.kind ≡ Directory → DirtiesRight limits state (with_rows (map.remove state.live row.ino))
  removed_right row there directory =
      let live : Rows = map.remove state.live row.ino in
      let thawed : IsFrozen state.flights row.ino → ⊥ = λ frozen. (let r = frozen_row lists layout state places unwritten whole row.ino frozen in other_kind r.0 r.1 r.2) in
      one_row_right limits lists layout state (with_rows live) places unwritten whole (leaves_rest state live state.dirty_pages state.dirty_nodes state.moved state.shrunk) row.ino thawed
      (record { rows = λ at apart. get_taken-other state.live row.ino at apart; dirty = λ at apart. same_dirty live at; shrunk = λ at apart. refl })
      (record {
        rows = λ one found. absurd (gone one found);
        told = λ page offset one found regular kept direct clean. absurd (gone one found);
        direct = λ offset is. whole.kept.tied.direct row.ino offset is;
        covered = λ page offset is direct. whole.kept.tied.covered row.ino page offset is direct;
        dirty = λ page is. (let own = whole.dirty row.ino page is in absurd (other_kind own.row own.there own.regular));
      })
    where
      other_kind : (one : Row) → map.get state.live row.ino ≡ Some one → one.kind ≡ Regular → ⊥
      other_kind one found regular = kinds_differ (sym regular ∙ ap (λ (r : Row). r.kind) (some_same (sym found ∙ there)) ∙ directory)

      gone : (one : Row) → map.get (map.remove state.live row.ino) row.ino ≡ Some one → ⊥
      gone one found = some_none (sym found ∙ get_taken state.live row.ino)

  pub emptied_right : (path : List (List ℕ)) → refusal_of (to_directory (walk state.live path)) ≡ None → DirtiesRight limits state (with_rows (on_row state.live (walk state.live path) (λ row. map.remove state.live row.ino)))
  emptied_right path walks =
      let end = directory_ok (walk state.live path) walks in
      let there = (walk_ends limits.size state.live whole.kept.proper.good path end.0 end.1).there in
      subst (λ o. DirtiesRight limits state (with_rows (on_row state.live o (λ (row : Row). map.remove state.live row.ino)))) (sym end.1) (removed_right end.0 there end.2)

  -- the row at the end of a walk that no seat keeps off isn't in fsync
  thawed_row : (path : List (List ℕ)) (row : Row) → walk state.live path ≡ Ok row → freezing_walked state (walk state.live path) ≡ None → IsFrozen state.flights row.ino → ⊥
  thawed_row path row e none = not_frozen state row.ino (sym (ap (freezing_walked state) e) ∙ none)

  -- a file that goes
  taken_right : (row : Row) → (IsFrozen state.flights row.ino → ⊥)
      → DirtiesRight limits state (record state { live = map.remove state.live row.ino; dirty_pages = without_ino row.ino state.dirty_pages; dirty_nodes = without_ino row.ino state.dirty_nodes })
  taken_right row thawed =
      let live : Rows = map.remove state.live row.ino in
      let pages : Pairs = without_ino row.ino state.dirty_pages in
      let nodes : Pairs = without_ino row.ino state.dirty_nodes in
      one_row_right limits lists layout state (record state { live = live; dirty_pages = pages; dirty_nodes = nodes }) places unwritten whole (leaves_rest state live pages nodes state.moved state.shrunk) row.ino thawed
      (record {
        rows = λ at apart. get_taken-other state.live row.ino at apart;
        dirty = λ at apart. record { pages = λ number. other_without_ino at row.ino number state.dirty_pages apart; nodes = λ number. other_without_ino at row.ino number state.dirty_nodes apart };
        shrunk = λ at apart. refl;
      })
      (record {
        rows = λ one found. absurd (gone one found);
        told = λ page offset one found regular kept direct clean. absurd (gone one found);
        direct = λ offset is. absurd (true≢false (sym is ∙ none_of_ino row.ino offset state.dirty_nodes));
        covered = λ page offset is direct. absurd (true≢false (sym is ∙ none_of_ino row.ino page state.dirty_pages));
        dirty = λ page is. absurd (true≢false (sym is ∙ none_of_ino row.ino page state.dirty_pages));
      })
    where
      gone : (one : Row) → map.get (map.remove state.live row.ino) row.ino ≡ Some one → ⊥
      gone one found = some_none (sym found ∙ get_taken state.live row.ino)

  pub unlinked_right : (path : List (List ℕ)) (ino : ℕ) → refusal_of (walk state.live path) ≡ None → freezing_walked state (walk state.live path) ≡ None → DirtiesRight limits state (called state (Unlink path) ino)
  unlinked_right path ino walks thawed =
      let end = walk_ok (walk state.live path) walks in
      subst (λ o. DirtiesRight limits state (record (from_row state o (λ (row : Row). record state { dirty_pages = without_ino row.ino state.dirty_pages; dirty_nodes = without_ino row.ino state.dirty_nodes })) { live = on_row state.live o (λ (row : Row). map.remove state.live row.ino) })) (sym end.1)
      (taken_right end.0 (thawed_row path end.0 end.1 thawed))

  -- a row that moves
  put_there_right : (row put : Row) (moved : Inos) → map.get state.live row.ino ≡ Some row → put.kind ≡ row.kind → put.pages ≡ row.pages → (IsFrozen state.flights row.ino → ⊥)
      → DirtiesRight limits state (record state { live = map.insert state.live row.ino put; moved = moved })
  put_there_right row put moved there kind pages thawed =
      let live : Rows = map.insert state.live row.ino put in
      one_row_right limits lists layout state (record state { live = live; moved = moved }) places unwritten whole (leaves_rest state live state.dirty_pages state.dirty_nodes moved state.shrunk) row.ino thawed
      (record { rows = λ at apart. get_put-other state.live row.ino put at apart; dirty = λ at apart. record { pages = λ number. refl; nodes = λ number. refl }; shrunk = λ at apart. refl })
      (record {
        rows = λ one found. inl (ap is_some there);
        told = λ page offset one found regular kept direct clean. inl (record {
          before = row;
          there = there;
          regular = sym kind ∙ ap (λ (r : Row). r.kind) (is one found) ∙ regular;
          whole = kept;
          clean = clean;
          stays = λ has. subst (λ (r : Row). IsSome (map.get r.pages page)) (is one found) (subst (λ m. IsSome (map.get m page)) (sym pages) has);
        });
        direct = λ offset dirty. whole.kept.tied.direct row.ino offset dirty;
        covered = λ page offset dirty direct. whole.kept.tied.covered row.ino page offset dirty direct;
        dirty = λ page dirty. file_page page (whole.dirty row.ino page dirty);
      })
    where
      is : (one : Row) → map.get (map.insert state.live row.ino put) row.ino ≡ Some one → put ≡ one
      is one found = some_same (sym (get_put state.live row.ino put) ∙ found)

      file_page : (page : ℕ) → IsFilePage state.live row.ino page → IsFilePage (map.insert state.live row.ino put) row.ino page
      file_page page own =
          let same : own.row ≡ row = some_same (sym own.there ∙ there) in
          record {
            row = put;
            there = get_put state.live row.ino put;
            regular = kind ∙ ap (λ (r : Row). r.kind) (sym same) ∙ own.regular;
            has = subst (λ m. IsSome (map.get m page)) (sym pages) (subst (λ (r : Row). IsSome (map.get r.pages page)) same own.has);
          }

  pub moved_right : (from to : List (List ℕ)) (ino : ℕ) → refusal_of (walk state.live from) ≡ None → refusal_of (walk_parent state.live to) ≡ None → freezing_walked state (walk state.live from) ≡ None → DirtiesRight limits state (called state (Rename from to) ino)
  moved_right from to ino walks parent thawed =
      let end = walk_ok (walk state.live from) walks in
      let up = walk_ok (walk_parent state.live to) parent in
      let there = (walk_ends limits.size state.live whole.kept.proper.good from end.0 end.1).there in
      subst (λ o. DirtiesRight limits state (record (from_row state o (λ (row : Row). record state { moved = set.insert state.moved row.ino }))
      { live = on_row state.live o (λ (row : Row). on_row state.live (walk_parent state.live to) (λ (one : Row). map.insert state.live row.ino (record row { parent = one.ino; name = last_name to }))) })) (sym end.1)
      (subst (λ o. DirtiesRight limits state (record state { moved = set.insert state.moved end.0.ino; live = on_row state.live o (λ (one : Row). map.insert state.live end.0.ino (record end.0 { parent = one.ino; name = last_name to })) })) (sym up.1)
      (put_there_right end.0 (record end.0 { parent = up.0.ino; name = last_name to }) (set.insert state.moved end.0.ino) there refl refl (thawed_row from end.0 end.1 thawed)))
