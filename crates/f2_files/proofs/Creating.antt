-- What a call that adds a row leaves.
use Rattle.std.proofs.Common.{◌≡◌, ◌≢◌, ◌⊎◌, inl, inr, ℕ, ◌<◌, true, false, List, refl, sym, ap, subst, ◌∙◌, true≢false, arith}
use Rattle.std.specs.Prelude.{Option, Some, None, Result, Ok, Err, is_some, is_ok, if◌then◌else◌, OnOk, OnErr}
use Rattle.std.specs.Ordering.{nat_cmp}
use Rattle.std.specs.FinMap as map
use Rattle.f2_dir.specs.Entries.{Entries}
use Rattle.f2_model.specs.Tree.{Rows, ROOT, IsGoodTree, is_directory, walk, parent_path, last_name}
use Rattle.f2_model.specs.Call.{new_row, on_row, refusal_of, to_directory, walk_parent}
use Rattle.f2_model.specs.declared.rows.Row.{Row}
use Rattle.f2_model.specs.declared.rows.Kind.{Kind}
use Rattle.f2_model.specs.declared.rows.Kind.TheVariants.{Regular, Directory}
use Rattle.f2_model.specs.declared.requests.Request.TheVariants.{Create, Mkdir}
use Rattle.f2_model.specs.declared.replies.Reply.{Reply}
use Rattle.f2_model.specs.declared.replies.Reply.TheVariants.{NotDir}
use Rattle.f2_laws.proofs.Maps.{get_put, get_put-other}
use Rattle.f2_laws.proofs.Names.{name_free}
use Rattle.f2_laws.proofs.Passed.{directory_ok}
use Rattle.f2_laws.proofs.Places.{same_or_other}
use Rattle.f2_laws.proofs.Walks.{some_none, walk_ends}
use Rattle.f2_files.specs.Known.{Known, Follows}
use Rattle.f2_files.specs.Led.{Dirs, Place, among, bound_in, place_at, is_directory_there, with_name, BindsNames}
use Rattle.f2_files.specs.Refused.{led_parent}
use Rattle.f2_files.specs.Shape.{Shapes, IsShape, IsShapeOf, new_shape}
use Rattle.f2_files.specs.declared.shapes.Shape.{Shape}
use Rattle.f2_files.proofs.Alike.{shape_there, row_there, put_alike}
use Rattle.f2_files.proofs.Binding.{binds_added}
use Rattle.f2_files.proofs.Refusing.{parent_same}

-- a walk that leads to a place ends at a row there
pub at_place : (end : Result Row Reply) (place : Place) → place_at end ≡ Ok place → (row : Row) × (end ≡ Ok row) × (row.ino ≡ place.0) × (row.kind ≡ place.1)
at_place (Ok row) place h = let same : (row.ino, row.kind) ≡ place = cc in (row, refl, ap (λ (p : Place). p.0) same, ap (λ (p : Place). p.1) same)
at_place (Err refused) place h = absurd (cc)

-- where a directory leads on, its row is one
pub onto_row : (end : Result Row Reply) (row : Row) → to_directory end ≡ Ok row → (end ≡ Ok row) × (row.kind ≡ Directory)
onto_row end row h =
    let passes = directory_ok end (ap refusal_of h) in
    by_end end passes.0 passes.1 passes.2 h
  where
    by_end : (end : Result Row Reply) (one : Row) → end ≡ Ok one → one.kind ≡ Directory → to_directory end ≡ Ok row → (end ≡ Ok row) × (row.kind ≡ Directory)
    by_end end one is kind h =
        let led : to_directory (Ok one) ≡ Ok row = ap to_directory (sym is) ∙ h in
        let same : one ≡ row = by_kind one.kind kind led in
        (is ∙ ap (λ r. Ok r) same, ap (λ (r : Row). r.kind) (sym same) ∙ kind)
      where
        by_kind : (kind : Kind) → kind ≡ Directory → (if is_directory kind then Ok one else Err NotDir) ≡ Ok row → one ≡ row
        by_kind Directory kind led = cc
        by_kind Regular kind led = absurd (cc)

pub some_names : (o : Option Entries) → is_some o ≡ true → (names : Entries) × (o ≡ Some names)
some_names None h = absurd (true≢false (sym h))
some_names (Some names) h = (names, refl)

module _ (shapes : Shapes) (dirs : Dirs) (binds : BindsNames shapes dirs) where
  -- a directory of the tree has names, though there may be none
  pub has_names_map : (most : ℕ) (tree : Rows) → IsGoodTree most tree → IsShapeOf shapes tree → (row : Row) → map.get tree row.ino ≡ Some row → row.kind ≡ Directory → (names : Entries) × (map.get dirs row.ino ≡ Some names)
  has_names_map most tree good are row there kind =
      let at = shape_there shapes tree are row.ino row there in
      some_names (map.get dirs row.ino) (binds.directories row.ino ∙ ap is_directory_there at.1 ∙ ap is_directory (at.2.kind ∙ kind))

  module _ (most : ℕ) (tree : Rows) (good : IsGoodTree most tree) (are : IsShapeOf shapes tree) (path : List (List ℕ)) (free : is_ok (walk tree path) ≡ false) (place : Place) (led : led_parent dirs path ≡ Ok place) where
    up_at : (up : Row) × (walk_parent tree path ≡ Ok up) × (up.ino ≡ place.0) × (up.kind ≡ place.1)
    up_at = at_place (walk_parent tree path) place (sym (parent_same most tree good shapes are dirs binds path) ∙ led)

    -- where a name is free in its directory, that has names, and it isn't among them
    pub place_names : (names : Entries) × (map.get dirs place.0 ≡ Some names)
    place_names =
        let up = up_at in
        let leads = onto_row (walk tree (parent_path path)) up.0 up.1 in
        let ends = walk_ends most tree good (parent_path path) up.0 leads.0 in
        let names = has_names_map most tree good are up.0 ends.there leads.1 in
        (names.0, ap (λ i. map.get dirs i) (sym up.2) ∙ names.1)

    pub place_free : bound_in dirs place.0 (last_name path) ≡ None
    place_free = by_bound (bound_in dirs place.0 (last_name path)) refl
      where
        by_bound : (o : Option Place) → bound_in dirs place.0 (last_name path) ≡ o → o ≡ None
        by_bound None is = refl
        by_bound (Some one) is =
            let up = up_at in
            let leads = onto_row (walk tree (parent_path path)) up.0 up.1 in
            let at = binds.only place.0 (last_name path) one.0 one.1 is in
            let row = row_there shapes tree are one.0 at.0 at.1 in
            absurd (name_free most tree good path up.0 leads.0 leads.1 free one.0 row.0 row.1 at.2 (sym row.2.parent ∙ at.3 ∙ sym up.2) (sym row.2.name ∙ at.4))

  -- the directories of a tree with a file more, and with a directory more
  pub keys_with_file : (row : Shape) → map.get shapes row.ino ≡ None → row.kind ≡ Regular → (q : ℕ) → map.contains_key dirs q ≡ is_directory_there (map.get (map.insert shapes row.ino row) q)
  keys_with_file row free kind q = by_key (same_or_other q row.ino)
    where
      by_key : (q ≡ row.ino) ⊎ (q ≢ row.ino) → map.contains_key dirs q ≡ is_directory_there (map.get (map.insert shapes row.ino row) q)
      by_key (inl same) =
          binds.directories q ∙ ap (λ i. is_directory_there (map.get shapes i)) same ∙ ap is_directory_there free ∙ ap is_directory (sym kind)
          ∙ ap is_directory_there (sym (get_put shapes row.ino row)) ∙ ap (λ i. is_directory_there (map.get (map.insert shapes row.ino row) i)) (sym same)
      by_key (inr apart) = binds.directories q ∙ ap is_directory_there (sym (get_put-other shapes row.ino row q apart))

  none_there : (o : Option Entries) → is_some o ≡ false → o ≡ None
  none_there None h = refl
  none_there (Some names) h = absurd (true≢false h)

  pub no_directory : (ino : ℕ) → map.get shapes ino ≡ None → map.get dirs ino ≡ None
  no_directory ino free = none_there (map.get dirs ino) (binds.directories ino ∙ ap is_directory_there free)

  pub keys_with_directory : (row : Shape) → map.get shapes row.ino ≡ None → row.kind ≡ Directory → (q : ℕ) → map.contains_key (map.insert dirs row.ino map.empty) q ≡ is_directory_there (map.get (map.insert shapes row.ino row) q)
  keys_with_directory row free kind q = by_key (same_or_other q row.ino)
    where
      by_key : (q ≡ row.ino) ⊎ (q ≢ row.ino) → map.contains_key (map.insert dirs row.ino map.empty) q ≡ is_directory_there (map.get (map.insert shapes row.ino row) q)
      by_key (inl same) =
          ap (λ i. map.contains_key (map.insert dirs row.ino map.empty) i) same ∙ ap (λ o. is_some o) (get_put dirs row.ino map.empty) ∙ ap is_directory (sym kind)
          ∙ ap is_directory_there (sym (get_put shapes row.ino row)) ∙ ap (λ i. is_directory_there (map.get (map.insert shapes row.ino row) i)) (sym same)
      by_key (inr apart) =
          ap (λ o. is_some o) (get_put-other dirs row.ino map.empty q apart) ∙ binds.directories q ∙ ap is_directory_there (sym (get_put-other shapes row.ino row q apart))

  -- a directory without names changes nothing of what names are bound to
  pub bound_beside : (ino : ℕ) → map.get dirs ino ≡ None → (at : ℕ) (name : List ℕ) → bound_in (map.insert dirs ino map.empty) at name ≡ bound_in dirs at name
  bound_beside ino none at name = by_key (same_or_other at ino)
    where
      by_key : (at ≡ ino) ⊎ (at ≢ ino) → bound_in (map.insert dirs ino map.empty) at name ≡ bound_in dirs at name
      by_key (inl same) =
          ap (λ i. bound_in (map.insert dirs ino map.empty) i name) same
          ∙ ap (among name) (get_put dirs ino map.empty) ∙ map.get-empty _ name
          ∙ ap (among name) (sym none) ∙ ap (λ i. bound_in dirs i name) (sym same)
      by_key (inr apart) = ap (among name) (get_put-other dirs ino map.empty at apart)

no_pages : (page : ℕ) → map.contains_key (map.empty {X = ℕ} {R = nat_cmp}) page ≡ map.contains_key (map.empty {X = List ℕ} {R = nat_cmp}) page
no_pages page = ap (λ o. is_some o) (map.get-empty nat_cmp page) ∙ ap (λ o. is_some o) (sym (map.get-empty nat_cmp page))

new_alike : (kind : Kind) (ino parent : ℕ) (name : List ℕ) (up : ℕ) → up ≡ parent → IsShape (new_shape kind ino parent name) (new_row kind ino up name)
new_alike kind ino parent name up same = record { ino = refl; kind = refl; parent = sym same; name = refl; size = refl; pages = λ _ page. no_pages page }

module _ (k : Known) (dirs : Dirs) (binds : BindsNames k.shapes dirs) (path : List (List ℕ)) (place : Place) (led : led_parent dirs path ≡ Ok place) (ino : ℕ) (after : Shapes) where
  put_row : (kind : Kind) → after ≡ map.insert k.shapes ino (new_shape kind ino place.0 (last_name path)) → (most : ℕ) (tree : Rows) → IsGoodTree most tree → IsShapeOf k.shapes tree
      → IsShapeOf after (on_row tree (walk_parent tree path) (λ up. map.insert tree ino (new_row kind ino up.ino (last_name path))))
  put_row kind is most tree good are =
      let up = at_place (walk_parent tree path) place (sym (parent_same most tree good k.shapes are dirs binds path) ∙ led) in
      let row : Row = up.0 in
      subst (λ o. IsShapeOf after (on_row tree o (λ up. map.insert tree ino (new_row kind ino up.ino (last_name path))))) (sym up.1)
      (subst (λ s. IsShapeOf s (map.insert tree ino (new_row kind ino row.ino (last_name path)))) (sym is)
      (put_alike k.shapes tree are ino (new_shape kind ino place.0 (last_name path)) (new_row kind ino row.ino (last_name path)) (new_alike kind ino place.0 (last_name path) row.ino up.2)))

  pub create_follows : after ≡ map.insert k.shapes ino (new_shape Regular ino place.0 (last_name path)) → Follows k (record k { shapes = after }) (Create path) ino
  create_follows is most state good known = record {
    shapes = put_row Regular is most state.live good known.shapes;
    dirty_pages = known.dirty_pages;
    dirty_nodes = known.dirty_nodes;
    moved = known.moved;
    shrunk = known.shrunk;
    flights = known.flights;
  }

  pub mkdir_follows : after ≡ map.insert k.shapes ino (new_shape Directory ino place.0 (last_name path)) → Follows k (record k { shapes = after }) (Mkdir path) ino
  mkdir_follows is most state good known = record {
    shapes = put_row Directory is most state.live good known.shapes;
    dirty_pages = known.dirty_pages;
    dirty_nodes = known.dirty_nodes;
    moved = known.moved;
    shrunk = known.shrunk;
    flights = known.flights;
  }

-- names bind rows after a change that was made, or wasn't
pub binds_either : {A E : Type 0} (r : Result A E) (s after changed : Shapes) (d left bound : Dirs) → OnOk r (after ≡ changed) → OnOk r (left ≡ bound) → OnErr r (after ≡ s) → OnErr r (left ≡ d) → BindsNames changed bound → BindsNames s d → BindsNames after left
binds_either (Ok a) s after changed d left bound p q u v new old = subst (λ t. BindsNames t left) (sym p) (subst (BindsNames changed) (sym q) new)
binds_either (Err e) s after changed d left bound p q u v new old = subst (λ t. BindsNames t left) (sym u) (subst (BindsNames s) (sym v) old)

-- a walk that isn't refused leads to a place
pub stops_not : (end : Result Row Reply) → refusal_of end ≡ None → (refused : Reply) → place_at end ≡ Err refused → ⊥
stops_not (Ok row) unrefused refused h = cc
stops_not (Err other) unrefused refused h = some_none unrefused

-- a place that is above the root's isn't the root's
pub above_root : (ino : ℕ) → ROOT < ino → ino ≢ ROOT
above_root ino above same = omega (arith, above, same)

module _ (shapes : Shapes) (dirs : Dirs) (binds : BindsNames shapes dirs) (most : ℕ) (tree : Rows) (good : IsGoodTree most tree) (are : IsShapeOf shapes tree) (path : List (List ℕ)) where
  pub parent_leads : refusal_of (walk_parent tree path) ≡ None → (refused : Reply) → led_parent dirs path ≡ Err refused → ⊥
  parent_leads unrefused refused led = stops_not (walk_parent tree path) unrefused refused (sym (parent_same most tree good shapes are dirs binds path) ∙ led)

  module _ (free : is_ok (walk tree path) ≡ false) (place : Place) (led : led_parent dirs path ≡ Ok place) (ino : ℕ) (new : map.get shapes ino ≡ None) (above : ROOT < ino) where
    pub file_binds : (row : Shape) → row ≡ new_shape Regular ino place.0 (last_name path) → BindsNames (map.insert shapes row.ino row) (with_name dirs row.parent row.name (row.ino, row.kind))
    file_binds row is =
        let names = place_names shapes dirs binds most tree good are path free place led in
        let unbound = place_free shapes dirs binds most tree good are path free place led in
        subst (λ (r : Shape). BindsNames (map.insert shapes r.ino r) (with_name dirs r.parent r.name (r.ino, r.kind))) (sym is)
        (binds_added shapes dirs binds dirs (λ at name. refl) (new_shape Regular ino place.0 (last_name path)) (keys_with_file shapes dirs binds (new_shape Regular ino place.0 (last_name path)) new refl) new (above_root ino above) names.0 names.1 unbound)

    pub directory_binds : (row : Shape) → row ≡ new_shape Directory ino place.0 (last_name path) → BindsNames (map.insert shapes row.ino row) (with_name (map.insert dirs ino map.empty) row.parent row.name (row.ino, row.kind))
    directory_binds row is =
        let names = place_names shapes dirs binds most tree good are path free place led in
        let unbound = place_free shapes dirs binds most tree good are path free place led in
        let none = no_directory shapes dirs binds ino new in
        let apart : place.0 ≢ ino = λ same. some_none (sym names.1 ∙ ap (λ i. map.get dirs i) same ∙ none) in
        subst (λ (r : Shape). BindsNames (map.insert shapes r.ino r) (with_name (map.insert dirs ino map.empty) r.parent r.name (r.ino, r.kind))) (sym is)
        (binds_added shapes dirs binds (map.insert dirs ino map.empty) (bound_beside shapes dirs binds ino none) (new_shape Directory ino place.0 (last_name path)) (keys_with_directory shapes dirs binds (new_shape Directory ino place.0 (last_name path)) new refl) new (above_root ino above) names.0
        (get_put-other dirs ino map.empty place.0 apart ∙ names.1) unbound)
