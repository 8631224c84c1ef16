-- What a call that moves a row leaves.
use Rattle.std.proofs.Common.{◌≡◌, ◌≢◌, ◌⊎◌, inl, inr, ℕ, Bool, true, false, cond, List, [], refl, sym, ap, subst, ◌∙◌}
use Rattle.std.specs.Prelude.{Option, Some, None, Ok}
use Rattle.std.specs.Ordering.{nat_cmp, eq_by_cmp}
use Rattle.std.specs.Cmp.{Equal-is}
use Rattle.std.specs.Cmp.Lexicographic.{slice_cmp, nat_list_cmp_total}
use Rattle.std.specs.FinMap as map
use Rattle.std.specs.FinMap.{nat_cmp-IsAntisymmetric, slice_cmp-IsAntisymmetric}
use Rattle.std.specs.FinSet as set
use Rattle.f2_dir.specs.Entries.{Entries}
use Rattle.f2_model.specs.Tree.{Rows, ROOT, IsGoodTree, walk, last_name}
use Rattle.f2_model.specs.Call.{goes_below, is_root_path, on_row, refusal, refusal_of, walk_parent}
use Rattle.f2_model.specs.State.{Inos, from_row}
use Rattle.f2_model.specs.declared.bounds.Limits.{Limits}
use Rattle.f2_model.specs.declared.rows.Row.{Row}
use Rattle.f2_model.specs.declared.rows.Kind.{Kind}
use Rattle.f2_model.specs.declared.requests.Request.TheVariants.{Rename}
use Rattle.f2_laws.proofs.Maps.{get_put, get_put-other}
use Rattle.f2_laws.proofs.Passed.{passed, none_first, either_false}
use Rattle.f2_laws.proofs.Places.{same_or_other}
use Rattle.f2_laws.proofs.Walks.{some_same, some_none, walk_ends}
use Rattle.f2_files.specs.Known.{Known, IsKnownOf, Follows}
use Rattle.f2_files.specs.Led.{Dirs, Place, among, bound_in, binding_in, led, is_directory_there, taking_out, with_name, without_name, BindsNames}
use Rattle.f2_files.specs.Refused.{led_parent}
use Rattle.f2_files.specs.Shape.{Shapes, IsShape, IsShapeOf}
use Rattle.f2_files.specs.declared.shapes.Shape.{Shape}
use Rattle.f2_files.proofs.Alike.{shape_there, put_alike}
use Rattle.f2_files.proofs.Binding.{bound_new, bound_was, bound_kept, bound_left, bound_stays, with_keys, without_keys}
use Rattle.f2_files.proofs.Changes.{put_same, put_twice}
use Rattle.f2_files.proofs.Creating.{at_place, place_names, place_free}
use Rattle.f2_files.proofs.Refusing.{parent_same}
use Rattle.f2_files.proofs.Removing.{path_off_root, row_led, shape_led}

-- a name that was free, bound and taken out again
name_taken : (names : Entries) (name : List ℕ) (place : Place) → map.get names name ≡ None → map.remove (map.insert names name place) name ≡ names
name_taken names name place free = map.same_map nat_list_cmp_total (slice_cmp-IsAntisymmetric nat_cmp-IsAntisymmetric) _ _ (λ q.
    map.get-remove nat_list_cmp_total (map.insert names name place) name q
    ∙ ap (λ o. cond (eq_by_cmp (slice_cmp nat_cmp) q name) None o) (map.get-insert nat_list_cmp_total names name place q)
    ∙ by_name q (eq_by_cmp (slice_cmp nat_cmp) q name) refl)
  where
    by_name : (q : List ℕ) (b : Bool) → eq_by_cmp (slice_cmp nat_cmp) q name ≡ b → cond b None (cond b (Some place) (map.get names q)) ≡ map.get names q
    by_name q false is = refl
    by_name q true is = sym free ∙ ap (λ n. map.get names n) (sym (slice_cmp-IsAntisymmetric nat_cmp-IsAntisymmetric q name ((Equal-is (slice_cmp nat_cmp q name)).0 is)))

pub bound_back : (dirs : Dirs) (directory : ℕ) (name : List ℕ) (place : Place) → bound_in dirs directory name ≡ None → without_name (with_name dirs directory name place) directory name ≡ dirs
bound_back dirs directory name place free = by_names (map.get dirs directory) refl
  where
    by_names : (o : Option Entries) → map.get dirs directory ≡ o → without_name (binding_in dirs directory name place o) directory name ≡ dirs
    by_names None there = ap (taking_out dirs directory name) there
    by_names (Some names) there =
        let more = map.insert names name place in
        let none : map.get names name ≡ None = ap (among name) (sym there) ∙ free in
        ap (taking_out (map.insert dirs directory more) directory name) (get_put dirs directory more)
        ∙ ap (map.insert (map.insert dirs directory more) directory) (name_taken names name place none)
        ∙ put_twice dirs directory more names ∙ put_same dirs directory names there

module _ (shapes : Shapes) (dirs : Dirs) (binds : BindsNames shapes dirs) where
  -- a row comes under another name, which is free
  binds_moved : (ino : ℕ) (row : Shape) → map.get shapes ino ≡ Some row → ino ≢ ROOT → (directory : ℕ) (name : List ℕ) (names : Entries) → map.get dirs directory ≡ Some names → bound_in dirs directory name ≡ None
      → BindsNames (map.insert shapes ino (record row { parent = directory; name = name })) (without_name (with_name dirs directory name (ino, row.kind)) row.parent row.name)
  binds_moved ino row there not_root directory name names names_there free = record {
    bound = λ q shape h other. bound q shape h other (same_or_other q ino);
    only = λ at other q kind h. only at other q kind (bound_left (with_name dirs directory name (ino, row.kind)) row.parent row.name at other (q, kind) h);
    directories = λ q. without_keys (with_name dirs directory name (ino, row.kind)) row.parent row.name q ∙ with_keys dirs directory name (ino, row.kind) q ∙ binds.directories q ∙ kinds q (same_or_other q ino);
  }
    where
      kinds : (q : ℕ) → (q ≡ ino) ⊎ (q ≢ ino) → is_directory_there (map.get shapes q) ≡ is_directory_there (map.get (map.insert shapes ino (record row { parent = directory; name = name })) q)
      kinds q (inl same) =
          ap (λ i. is_directory_there (map.get shapes i)) same ∙ ap is_directory_there there
          ∙ ap is_directory_there (sym (get_put shapes ino (record row { parent = directory; name = name }))) ∙ ap (λ i. is_directory_there (map.get (map.insert shapes ino (record row { parent = directory; name = name })) i)) (sym same)
      kinds q (inr apart) = ap is_directory_there (sym (get_put-other shapes ino (record row { parent = directory; name = name }) q apart))

      mine : bound_in dirs row.parent row.name ≡ Some (ino, row.kind)
      mine = binds.bound ino row there not_root

      bound : (q : ℕ) (shape : Shape) → map.get (map.insert shapes ino (record row { parent = directory; name = name })) q ≡ Some shape → q ≢ ROOT → (q ≡ ino) ⊎ (q ≢ ino)
          → bound_in (without_name (with_name dirs directory name (ino, row.kind)) row.parent row.name) shape.parent shape.name ≡ Some (q, shape.kind)
      bound q shape h other (inl same) =
          let is : (record row { parent = directory; name = name }) ≡ shape = some_same (sym (get_put shapes ino (record row { parent = directory; name = name })) ∙ ap (λ i. map.get (map.insert shapes ino (record row { parent = directory; name = name })) i) (sym same) ∙ h) in
          let new = bound_new dirs directory name (ino, row.kind) names names_there in
          let stays = bound_stays (with_name dirs directory name (ino, row.kind)) row.parent row.name directory name (ino, row.kind) new (λ parent named.
          some_none (sym mine ∙ ap (λ d. bound_in dirs d row.name) (sym parent) ∙ ap (bound_in dirs directory) (sym named) ∙ free)) in
          ap (λ (s : Shape). bound_in (without_name (with_name dirs directory name (ino, row.kind)) row.parent row.name) s.parent s.name) (sym is)
          ∙ stays ∙ ap (λ (s : Shape). Some (ino, s.kind)) is ∙ ap (λ i. Some (i, shape.kind)) (sym same)
      bound q shape h other (inr apart) =
          let was = sym (get_put-other shapes ino (record row { parent = directory; name = name }) q apart) ∙ h in
          let is = binds.bound q shape was other in
          bound_stays (with_name dirs directory name (ino, row.kind)) row.parent row.name shape.parent shape.name (q, shape.kind)
          (bound_kept dirs directory name (ino, row.kind) names names_there free shape.parent shape.name (q, shape.kind) is) (λ parent named.
          (let both : Some (ino, row.kind) ≡ Some (q, shape.kind) = sym mine ∙ ap (λ d. bound_in dirs d row.name) (sym parent) ∙ ap (bound_in dirs shape.parent) (sym named) ∙ is in
          apart (sym (ap (λ (p : Place). p.0) (some_same both)))))

      place : (at : ℕ) (other : List ℕ) (q : ℕ) (kind : Kind) → (at ≡ row.parent → other ≡ row.name → ⊥) → ((at ≡ directory) × (other ≡ name) × (◌≡◌ {A = Place} (ino, row.kind) (q, kind))) ⊎ (bound_in dirs at other ≡ Some (q, kind))
          → (shape : Shape) × (map.get (map.insert shapes ino (record row { parent = directory; name = name })) q ≡ Some shape) × (q ≢ ROOT) × (shape.parent ≡ at) × (shape.name ≡ other) × (shape.kind ≡ kind)
      place at other q kind differ (inl new) =
          let same : ino ≡ q = ap (λ (p : Place). p.0) new.2 in
          (record row { parent = directory; name = name }, ap (λ i. map.get (map.insert shapes ino (record row { parent = directory; name = name })) i) (sym same) ∙ get_put shapes ino (record row { parent = directory; name = name }), (λ root. not_root (same ∙ root)), sym new.0, sym new.1, ap (λ (p : Place). p.1) new.2)
      place at other q kind differ (inr old) =
          let was = binds.only at other q kind old in
          let apart : q ≢ ino = λ same.
          (let is : was.0 ≡ row = some_same (sym was.1 ∙ ap (λ i. map.get shapes i) same ∙ there) in
          differ (sym was.3 ∙ ap (λ (s : Shape). s.parent) is) (sym was.4 ∙ ap (λ (s : Shape). s.name) is)) in
          (was.0, get_put-other shapes ino (record row { parent = directory; name = name }) q apart ∙ was.1, was.2, was.3, was.4, was.5)

      only : (at : ℕ) (other : List ℕ) (q : ℕ) (kind : Kind) → (bound_in (with_name dirs directory name (ino, row.kind)) at other ≡ Some (q, kind)) × (at ≡ row.parent → other ≡ row.name → ⊥)
          → (shape : Shape) × (map.get (map.insert shapes ino (record row { parent = directory; name = name })) q ≡ Some shape) × (q ≢ ROOT) × (shape.parent ≡ at) × (shape.name ≡ other) × (shape.kind ≡ kind)
      only at other q kind left = place at other q kind left.1 (bound_was dirs directory name (ino, row.kind) names names_there at other (q, kind) left.0)

  -- of a rename that isn't refused
  module _ (limits : Limits) (most : ℕ) (tree : Rows) (good : IsGoodTree most tree) (are : IsShapeOf shapes tree) (from to : List (List ℕ)) (unrefused : refusal limits tree (Rename from to) ≡ None) where
    from_walks : refusal_of (walk tree from) ≡ None
    from_walks = (none_first (refusal_of (walk tree from)) _ (passed limits tree (Rename from to) unrefused).walks).0

    pub from_leads : refusal_of (walk tree from) ≡ None
    from_leads = from_walks

    pub to_leads : refusal_of (walk_parent tree to) ≡ None
    to_leads = (none_first (refusal_of (walk_parent tree to)) [] (none_first (refusal_of (walk tree from)) _ (passed limits tree (Rename from to) unrefused).walks).1).0

    pub to_free : (place : Place) → led_parent dirs to ≡ Ok place → bound_in dirs place.0 (last_name to) ≡ None
    to_free place led_to = place_free shapes dirs binds most tree good are to (passed limits tree (Rename from to) unrefused).free_name place led_to

    pub rename_binds : (place up : Place) → led dirs from ≡ Ok place → led_parent dirs to ≡ Ok up → (row : Shape) → map.get shapes place.0 ≡ Some row
        → BindsNames (map.insert shapes place.0 (record row { parent = up.0; name = last_name to })) (without_name (with_name dirs up.0 (last_name to) place) row.parent row.name)
    rename_binds place up led_from led_to row there =
        let pass = passed limits tree (Rename from to) unrefused in
        let bad = either_false _ (goes_below to from) pass.good_name in
        let some = (either_false _ (is_root_path from) bad.0).1 in
        let end = row_led shapes dirs binds most tree good are from place led_from in
        let off_root : place.0 ≢ ROOT = λ same. path_off_root most tree good from end.0 end.1 some (end.2 ∙ same) in
        let shape = shape_led shapes dirs binds most tree good are from place led_from in
        let kind : row.kind ≡ place.1 = ap (λ (s : Shape). s.kind) (some_same (sym there ∙ shape.1)) ∙ shape.2 in
        let names = place_names shapes dirs binds most tree good are to pass.free_name up led_to in
        subst (λ (k : Kind). BindsNames (map.insert shapes place.0 (record row { parent = up.0; name = last_name to })) (without_name (with_name dirs up.0 (last_name to) (place.0, k)) row.parent row.name)) kind
        (binds_moved place.0 row there off_root up.0 (last_name to) names.0 names.1 (to_free up led_to))

moved_alike : (shape : Shape) (row : Row) → IsShape shape row → (parent up : ℕ) (name : List ℕ) → up ≡ parent → IsShape (record shape { parent = parent; name = name }) (record row { parent = up; name = name })
moved_alike shape row is parent up name same = record { ino = is.ino; kind = is.kind; parent = sym same; name = refl; size = is.size; pages = is.pages }

module _ (k : Known) (dirs : Dirs) (binds : BindsNames k.shapes dirs) (from to : List (List ℕ)) (place up : Place) (led_from : led dirs from ≡ Ok place) (led_to : led_parent dirs to ≡ Ok up) (row : Shape) (there : map.get k.shapes place.0 ≡ Some row) where
  pub rename_follows : Follows k (record k { shapes = map.insert k.shapes place.0 (record row { parent = up.0; name = last_name to }); moved = set.insert k.moved place.0 }) (Rename from to) 0
  rename_follows most state good known =
      let end = row_led k.shapes dirs binds most state.live good known.shapes from place led_from in
      let one : Row = end.0 in
      let onto = at_place (walk_parent state.live to) up (sym (parent_same most state.live good k.shapes known.shapes dirs binds to) ∙ led_to) in
      let ends = walk_ends most state.live good from one end.1 in
      let at = shape_there k.shapes state.live known.shapes one.ino one ends.there in
      let is : at.0 ≡ row = some_same (sym at.1 ∙ ap (λ i. map.get k.shapes i) end.2 ∙ there) in
      let alike : IsShape row one = subst (λ (s : Shape). IsShape s one) is at.2 in
      let new : Known = record k { shapes = map.insert k.shapes place.0 (record row { parent = up.0; name = last_name to }); moved = set.insert k.moved place.0 } in
      subst (λ o. IsKnownOf new (record (from_row state o (λ r. record state { moved = set.insert state.moved r.ino })) { live = on_row state.live o (λ r. on_row state.live (walk_parent state.live to) (λ d. map.insert state.live r.ino (record r { parent = d.ino; name = last_name to }))) })) (sym end.1)
      (subst (λ o. IsKnownOf new (record state { moved = set.insert state.moved one.ino; live = on_row state.live o (λ d. map.insert state.live one.ino (record one { parent = d.ino; name = last_name to })) })) (sym onto.1)
      (subst (λ i. IsKnownOf new (record state { moved = set.insert state.moved i; live = map.insert state.live i (record one { parent = onto.0.ino; name = last_name to }) })) (sym end.2)
      (record {
        shapes = put_alike k.shapes state.live known.shapes place.0 (record row { parent = up.0; name = last_name to }) (record one { parent = onto.0.ino; name = last_name to }) (moved_alike row one alike up.0 onto.0.ino (last_name to) onto.2);
        dirty_pages = known.dirty_pages;
        dirty_nodes = known.dirty_nodes;
        moved = ap (λ (m : Inos). set.insert m place.0) known.moved;
        shrunk = known.shrunk;
        flights = known.flights;
      })))
