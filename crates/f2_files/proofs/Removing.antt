-- What a call that removes a row leaves.
use Rattle.std.proofs.Common.{◌≡◌, ◌≢◌, ◌⊎◌, inl, inr, ℕ, ◌≤◌, Bool, true, false, not, List, [], ◌∷◌, length, refl, sym, ap, subst, ◌∙◌, true≢false, arith}
use Rattle.std.specs.Prelude.{Option, Some, None, Result, Ok, Err, is_some, ◌==◌}
use Rattle.std.specs.List.{list_any}
use Rattle.std.specs.FinMap as map
use Rattle.std.proofs.lemmas.Bool.{eqb-false, eqb-true}
use Rattle.f2_dir.specs.Entries.{Entries}
use Rattle.f2_model.specs.Tree.{Rows, ROOT, IsGoodTree, is_directory, is_in, walk}
use Rattle.f2_model.specs.Call.{is_root_path, on_row, refusal, refusal_of, row_passes, to_directory}
use Rattle.f2_model.specs.State.{from_row, without_ino}
use Rattle.f2_model.specs.declared.bounds.Limits.{Limits}
use Rattle.f2_model.specs.declared.rows.Row.{Row}
use Rattle.f2_model.specs.declared.rows.Kind.TheVariants.{Regular}
use Rattle.f2_model.specs.declared.requests.Request.TheVariants.{Unlink, Rmdir}
use Rattle.f2_model.specs.declared.replies.Reply.{Reply}
use Rattle.f2_laws.proofs.Maps.{get_taken, get_taken-other}
use Rattle.f2_laws.proofs.Passed.{passed, regular, kinds_differ, either_false}
use Rattle.f2_laws.proofs.Places.{same_or_other}
use Rattle.f2_laws.proofs.Walks.{some_same, Leads, length-turned_onto, turned_onto, walk_ends}
use Rattle.f2_files.specs.Known.{Known, IsKnownOf, Follows}
use Rattle.f2_files.specs.Led.{Dirs, Place, among, bound_in, led, has_names, is_occupied, is_directory_there, without_name, BindsNames}
use Rattle.f2_files.specs.Shape.{Shapes, IsShapeOf}
use Rattle.f2_files.specs.declared.shapes.Shape.{Shape}
use Rattle.f2_files.proofs.Alike.{shape_there, taken_alike}
use Rattle.f2_files.proofs.Binding.{binds_removed}
use Rattle.f2_files.proofs.Creating.{at_place, stops_not}
use Rattle.f2_files.proofs.Leads.{leads}
use Rattle.f2_files.proofs.Refusing.{occupied_same}

not_root_at : (tree : Rows) (names : List (List ℕ)) (ino : ℕ) → Leads tree names ino → 1 ≤ length names → ino ≢ ROOT
not_root_at tree [] ino h some = absurd (omega arith)
not_root_at tree (name ∷ names) ino h some = h.0

-- a walk that isn't refused a directory isn't refused
pub refusal_of_directory : (end : Result Row Reply) → refusal_of (to_directory end) ≡ None → refusal_of end ≡ None
refusal_of_directory (Ok row) h = refl
refusal_of_directory (Err refused) h = h

-- a path that isn't the root's doesn't lead to it
pub path_off_root : (most : ℕ) (tree : Rows) → IsGoodTree most tree → (path : List (List ℕ)) (row : Row) → walk tree path ≡ Ok row → is_root_path path ≡ false → row.ino ≢ ROOT
path_off_root most tree good path row h some =
    let ends = walk_ends most tree good path row h in
    let long : length (turned_onto [] path) ≡ length path = omega (arith, length-turned_onto [] path) in
    let few : length path ≢ 0 = eqb-false (length path) 0 some in
    not_root_at tree (turned_onto [] path) row.ino ends.leads (omega (arith, long, few))

none_bound : (o : Option Entries) (name : List ℕ) → has_names o ≡ false → among name o ≡ None
none_bound None name h = refl
none_bound (Some names) name h = by_len (map.len names == 0) refl h
  where
    by_len : (b : Bool) → (map.len names == 0) ≡ b → not b ≡ false → map.get names name ≡ None
    by_len false e h = absurd (true≢false h)
    by_len true e h = ap (λ (m : Entries). map.get m name) (map.empty_of_len names (eqb-true (map.len names) 0 e)) ∙ map.get-empty _ name

module _ (shapes : Shapes) (dirs : Dirs) (binds : BindsNames shapes dirs) where
  module _ (most : ℕ) (tree : Rows) (good : IsGoodTree most tree) (are : IsShapeOf shapes tree) (path : List (List ℕ)) where
    pub names_lead : refusal_of (walk tree path) ≡ None → (refused : Reply) → led dirs path ≡ Err refused → ⊥
    names_lead unrefused refused h = stops_not (walk tree path) unrefused refused (sym (leads most tree good shapes are dirs binds path) ∙ h)

    -- the row to which names lead
    pub row_led : (place : Place) → led dirs path ≡ Ok place → (row : Row) × (walk tree path ≡ Ok row) × (row.ino ≡ place.0) × (row.kind ≡ place.1)
    row_led place h = at_place (walk tree path) place (sym (leads most tree good shapes are dirs binds path) ∙ h)

    pub shape_led : (place : Place) → led dirs path ≡ Ok place → (shape : Shape) × (map.get shapes place.0 ≡ Some shape) × (shape.kind ≡ place.1)
    shape_led place h =
        let row = row_led place h in
        let ends = walk_ends most tree good path row.0 row.1 in
        let at = shape_there shapes tree are row.0.ino row.0 ends.there in
        (at.0, ap (λ i. map.get shapes i) (sym row.2) ∙ at.1, at.2.kind ∙ row.3)

  keys_without_file : (ino : ℕ) (row : Shape) → map.get shapes ino ≡ Some row → row.kind ≡ Regular → (q : ℕ) → map.contains_key dirs q ≡ is_directory_there (map.get (map.remove shapes ino) q)
  keys_without_file ino row there kind q = by_key (same_or_other q ino)
    where
      by_key : (q ≡ ino) ⊎ (q ≢ ino) → map.contains_key dirs q ≡ is_directory_there (map.get (map.remove shapes ino) q)
      by_key (inl same) =
          binds.directories q ∙ ap (λ i. is_directory_there (map.get shapes i)) same ∙ ap is_directory_there there ∙ ap is_directory kind
          ∙ ap is_directory_there (sym (get_taken shapes ino)) ∙ ap (λ i. is_directory_there (map.get (map.remove shapes ino) i)) (sym same)
      by_key (inr apart) = binds.directories q ∙ ap is_directory_there (sym (get_taken-other shapes ino q apart))

  keys_without_directory : (ino : ℕ) (q : ℕ) → map.contains_key (map.remove dirs ino) q ≡ is_directory_there (map.get (map.remove shapes ino) q)
  keys_without_directory ino q = by_key (same_or_other q ino)
    where
      by_key : (q ≡ ino) ⊎ (q ≢ ino) → map.contains_key (map.remove dirs ino) q ≡ is_directory_there (map.get (map.remove shapes ino) q)
      by_key (inl same) =
          ap (λ i. map.contains_key (map.remove dirs ino) i) same ∙ ap (λ o. is_some o) (get_taken dirs ino)
          ∙ ap is_directory_there (sym (get_taken shapes ino)) ∙ ap (λ i. is_directory_there (map.get (map.remove shapes ino) i)) (sym same)
      by_key (inr apart) = ap (λ o. is_some o) (get_taken-other dirs ino q apart) ∙ binds.directories q ∙ ap is_directory_there (sym (get_taken-other shapes ino q apart))

  bound_without : (ino : ℕ) → is_occupied dirs ino ≡ false → (at : ℕ) (name : List ℕ) → bound_in (map.remove dirs ino) at name ≡ bound_in dirs at name
  bound_without ino none at name = by_key (same_or_other at ino)
    where
      by_key : (at ≡ ino) ⊎ (at ≢ ino) → bound_in (map.remove dirs ino) at name ≡ bound_in dirs at name
      by_key (inl same) =
          ap (λ i. bound_in (map.remove dirs ino) i name) same ∙ ap (among name) (get_taken dirs ino)
          ∙ sym (none_bound (map.get dirs ino) name none) ∙ ap (λ i. bound_in dirs i name) (sym same)
      by_key (inr apart) = ap (among name) (get_taken-other dirs ino at apart)

  module _ (limits : Limits) (most : ℕ) (tree : Rows) (good : IsGoodTree most tree) (are : IsShapeOf shapes tree) (path : List (List ℕ)) (place : Place) (led_to : led dirs path ≡ Ok place) (row : Shape) (there : map.get shapes place.0 ≡ Some row) where
    pub unlink_binds : refusal limits tree (Unlink path) ≡ None → BindsNames (map.remove shapes place.0) (without_name dirs row.parent row.name)
    unlink_binds unrefused =
        let pass = passed limits tree (Unlink path) unrefused in
        let end = row_led most tree good are path place led_to in
        let kind : end.0.kind ≡ Regular = regular end.0.kind (sym (ap (λ o. row_passes (λ one. is_directory one.kind) o) end.1) ∙ pass.file) in
        let shape = shape_led most tree good are path place led_to in
        let row_kind : row.kind ≡ Regular = ap (λ (s : Shape). s.kind) (some_same (sym there ∙ shape.1)) ∙ shape.2 ∙ sym end.3 ∙ kind in
        let ends = walk_ends most tree good path end.0 end.1 in
        let root : Row = good.root.0 in
        let off_root : place.0 ≢ ROOT = λ same.
        (let is : end.0 ≡ root = some_same (sym ends.there ∙ ap (λ i. map.get tree i) (end.2 ∙ same) ∙ good.root.1) in
        kinds_differ (sym kind ∙ ap (λ (r : Row). r.kind) is ∙ good.root.2.kind)) in
        binds_removed shapes dirs binds dirs (λ at name. refl) place.0 row there (keys_without_file place.0 row there row_kind) off_root

    pub rmdir_binds : refusal limits tree (Rmdir path) ≡ None → BindsNames (map.remove shapes place.0) (without_name (map.remove dirs place.0) row.parent row.name)
    rmdir_binds unrefused =
        let pass = passed limits tree (Rmdir path) unrefused in
        let end = row_led most tree good are path place led_to in
        let some = (either_false _ (is_root_path path) pass.good_name).1 in
        let off_root : place.0 ≢ ROOT = λ same. path_off_root most tree good path end.0 end.1 some (end.2 ∙ same) in
        let empty : is_occupied dirs place.0 ≡ false =
        ap (is_occupied dirs) (sym end.2) ∙ occupied_same most tree good shapes are dirs binds end.0.ino
        ∙ sym (ap (λ o. row_passes (λ one. list_any (is_in one.ino) (map.values tree)) o) end.1) ∙ pass.empty in
        binds_removed shapes dirs binds (map.remove dirs place.0) (bound_without place.0 empty) place.0 row there (keys_without_directory place.0) off_root

module _ (k : Known) (dirs : Dirs) (binds : BindsNames k.shapes dirs) (path : List (List ℕ)) (place : Place) (led_to : led dirs path ≡ Ok place) where
  pub unlink_follows : Follows k (record k { shapes = map.remove k.shapes place.0; dirty_pages = without_ino place.0 k.dirty_pages; dirty_nodes = without_ino place.0 k.dirty_nodes }) (Unlink path) 0
  unlink_follows most state good known =
      let end = row_led k.shapes dirs binds most state.live good known.shapes path place led_to in
      let row : Row = end.0 in
      let new : Known = record k { shapes = map.remove k.shapes place.0; dirty_pages = without_ino place.0 k.dirty_pages; dirty_nodes = without_ino place.0 k.dirty_nodes } in
      subst (λ o. IsKnownOf new (record (from_row state o (λ row. record state { dirty_pages = without_ino row.ino state.dirty_pages; dirty_nodes = without_ino row.ino state.dirty_nodes })) { live = on_row state.live o (λ row. map.remove state.live row.ino) })) (sym end.1)
      (subst (λ ino. IsKnownOf new (record state { live = map.remove state.live ino; dirty_pages = without_ino ino state.dirty_pages; dirty_nodes = without_ino ino state.dirty_nodes })) (sym end.2)
      (record {
        shapes = taken_alike k.shapes state.live known.shapes place.0;
        dirty_pages = ap (without_ino place.0) known.dirty_pages;
        dirty_nodes = ap (without_ino place.0) known.dirty_nodes;
        moved = known.moved;
        shrunk = known.shrunk;
        flights = known.flights;
      }))

  pub rmdir_follows : Follows k (record k { shapes = map.remove k.shapes place.0 }) (Rmdir path) 0
  rmdir_follows most state good known =
      let end = row_led k.shapes dirs binds most state.live good known.shapes path place led_to in
      let new : Known = record k { shapes = map.remove k.shapes place.0 } in
      subst (λ o. IsKnownOf new (record state { live = on_row state.live o (λ row. map.remove state.live row.ino) })) (sym end.1)
      (subst (λ ino. IsKnownOf new (record state { live = map.remove state.live ino })) (sym end.2)
      (record {
        shapes = taken_alike k.shapes state.live known.shapes place.0;
        dirty_pages = known.dirty_pages;
        dirty_nodes = known.dirty_nodes;
        moved = known.moved;
        shrunk = known.shrunk;
        flights = known.flights;
      }))
