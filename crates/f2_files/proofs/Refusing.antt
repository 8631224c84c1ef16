-- Directories refuse a request exactly as each good tree of that shape does.
use Rattle.std.proofs.Common.{◌≡◌, ◌≢◌, ℕ, Bool, true, false, not, ◌||◌, List, [], ◌∷◌, refl, sym, ap, ◌∙◌, true≢false}
use Rattle.std.specs.Prelude.{length, map as map_list, Option, Some, None, Result, Ok, Err, is_ok, if◌then◌else◌, ◌==◌}
use Rattle.std.specs.Bool.{then_some}
use Rattle.std.specs.List.{list_any}
use Rattle.std.specs.Ordering.{nat_cmp}
use Rattle.std.specs.Cmp.{nat_cmp_total, both_ways}
use Rattle.std.specs.Cmp.Lexicographic.{slice_cmp, nat_list_cmp_total}
use Rattle.std.specs.FinMap as map
use Rattle.std.specs.FinMap.{nat_cmp-IsAntisymmetric, slice_cmp-IsAntisymmetric}
use Rattle.std.proofs.lemmas.Bool.{eq-eqb, ne_eqb, eqb-true, eqb-false}
use Rattle.f2_dir.specs.Entries.{Entries}
use Rattle.f2_model.specs.Lists.{first_some}
use Rattle.f2_model.specs.Tree.{Rows, ROOT, IsGoodTree, is_directory, is_in, walk, parent_path}
use Rattle.f2_model.specs.Call.{refusal, refusal_of, to_directory, walk_parent, row_passes, has_bad_name, walk_refusal, names_directory, name_is_there, has_entries, is_too_big, puts_too_deep}
use Rattle.f2_model.specs.declared.bounds.Limits.{Limits}
use Rattle.f2_model.specs.declared.rows.Row.{Row}
use Rattle.f2_model.specs.declared.requests.Request.{Request}
use Rattle.f2_model.specs.declared.requests.Request.TheVariants.{Create, Mkdir, Write, Truncate, Unlink, Rmdir, Rename, Read, List as ListNames, Fsync, Sync}
use Rattle.f2_model.specs.declared.replies.Reply.{Reply}
use Rattle.f2_model.specs.declared.replies.Reply.TheVariants.{BadName, NotDir, IsDir, Exists, NotEmpty, TooBig}
use Rattle.f2_laws.proofs.Walks.{some_none, walk_ends}
use Rattle.f2_files.specs.Led.{Dirs, Place, among, bound_in, led, place_at, has_names, is_occupied, BindsNames}
use Rattle.f2_files.specs.Refused.{stopped, onto_directory, led_parent, place_passes, stops, leads_to_directory, is_bound, has_more, goes_deep, exceeds, refused_by}
use Rattle.f2_files.specs.Shape.{Shapes, IsShapeOf}
use Rattle.f2_files.proofs.Alike.{shape_there, row_there}
use Rattle.f2_files.proofs.Deep.{deep_same}
use Rattle.f2_files.proofs.Finding.{value_passes, passes_value}
use Rattle.f2_files.proofs.Leads.{leads}

stopped_same : (end : Result Row Reply) → stopped (place_at end) ≡ refusal_of end
stopped_same (Ok row) = refl
stopped_same (Err refused) = refl

pub onto_same : (end : Result Row Reply) → onto_directory (place_at end) ≡ place_at (to_directory end)
onto_same (Ok row) = by_test (is_directory row.kind)
  where
    by_test : (b : Bool) → (if b then Ok (row.ino, row.kind) else Err NotDir) ≡ place_at (if b then Ok row else Err NotDir)
    by_test true = refl
    by_test false = refl
onto_same (Err refused) = refl

ok_same : (end : Result Row Reply) → is_ok (place_at end) ≡ is_ok end
ok_same (Ok row) = refl
ok_same (Err refused) = refl

kind_same : (end : Result Row Reply) → place_passes (λ place. is_directory place.1) (place_at end) ≡ row_passes (λ row. is_directory row.kind) end
kind_same (Ok row) = refl
kind_same (Err refused) = refl

-- a row in a directory is found there, and only such a one is
in_true : (directory : ℕ) (row : Row) → row.ino ≢ ROOT → row.parent ≡ directory → is_in directory row ≡ true
in_true directory row not_root parent =
    ap (λ b. list_any (λ (at : ℕ × List ℕ). at.0 == directory) (if b then [] else ((row.parent, row.name) ∷ []))) (ne_eqb row.ino ROOT not_root)
    ∙ ap (λ b. b || false) (eq-eqb row.parent directory parent)

true_in : (directory : ℕ) (row : Row) → is_in directory row ≡ true → (row.ino ≢ ROOT) × (row.parent ≡ directory)
true_in directory row h = by_root (row.ino == ROOT) refl h
  where
    alone : (b : Bool) → (b || false) ≡ true → b ≡ true
    alone true e = refl
    alone false e = absurd (true≢false (sym e))

    by_root : (b : Bool) → (row.ino == ROOT) ≡ b → list_any (λ (at : ℕ × List ℕ). at.0 == directory) (if b then [] else ((row.parent, row.name) ∷ [])) ≡ true → (row.ino ≢ ROOT) × (row.parent ≡ directory)
    by_root true e h = absurd (true≢false (sym h))
    by_root false e h = (eqb-false row.ino ROOT e, eqb-true row.parent directory (alone (row.parent == directory) h))

names_of : (o : Option Entries) → has_names o ≡ true → (names : Entries) × (o ≡ Some names) × (map.len names ≢ 0)
names_of None h = absurd (true≢false (sym h))
names_of (Some names) h = (names, refl, λ none. true≢false (sym (ap (λ n. not (n == 0)) (sym none) ∙ h)))

-- names of which there are some have one
one_name : (names : Entries) → map.len names ≢ 0 → (name : List ℕ) × (place : Place) × (map.get names name ≡ Some place)
one_name names some = by_any (list_any (λ (place : Place). true) (map.values names)) refl
  where
    empty_of : (es : List (List ℕ × Place)) → list_any (λ (place : Place). true) (map_list (λ (e : List ℕ × Place). e.1) es) ≡ false → length es ≡ 0
    empty_of [] h = refl
    empty_of (e ∷ es) h = absurd (true≢false h)

    by_any : (b : Bool) → list_any (λ (place : Place). true) (map.values names) ≡ b → (name : List ℕ) × (place : Place) × (map.get names name ≡ Some place)
    by_any true h = let found = value_passes (slice_cmp nat_cmp) nat_list_cmp_total (slice_cmp-IsAntisymmetric nat_cmp-IsAntisymmetric) names (λ (place : Place). true) h in (found.0, found.1, found.3)
    by_any false h = absurd (some (map.len-entries names ∙ empty_of (map.entries names) h))

module _ (most : ℕ) (tree : Rows) (good : IsGoodTree most tree) (shapes : Shapes) (are : IsShapeOf shapes tree) (dirs : Dirs) (binds : BindsNames shapes dirs) where
  L : (path : List (List ℕ)) → led dirs path ≡ place_at (walk tree path)
  L path = leads most tree good shapes are dirs binds path

  pub parent_same : (path : List (List ℕ)) → led_parent dirs path ≡ place_at (walk_parent tree path)
  parent_same path = ap onto_directory (L (parent_path path)) ∙ onto_same (walk tree (parent_path path))

  name_stops : (path : List (List ℕ)) → stopped (led dirs path) ≡ refusal_of (walk tree path)
  name_stops path = ap stopped (L path) ∙ stopped_same (walk tree path)

  parent_stops : (path : List (List ℕ)) → stopped (led_parent dirs path) ≡ refusal_of (walk_parent tree path)
  parent_stops path = ap stopped (parent_same path) ∙ stopped_same (walk_parent tree path)

  directory_stops : (path : List (List ℕ)) → stopped (onto_directory (led dirs path)) ≡ refusal_of (to_directory (walk tree path))
  directory_stops path = ap (λ o. stopped (onto_directory o)) (L path) ∙ ap stopped (onto_same (walk tree path)) ∙ stopped_same (to_directory (walk tree path))

  stops_same : (request : Request) → stops dirs request ≡ walk_refusal tree request
  stops_same (Create path) = parent_stops path
  stops_same (Mkdir path) = parent_stops path
  stops_same (Write path pieces) = name_stops path
  stops_same (Truncate path size) = name_stops path
  stops_same (Unlink path) = name_stops path
  stops_same (Rmdir path) = directory_stops path
  stops_same (Rename from to) = ap (λ o. first_some (o ∷ stopped (led_parent dirs to) ∷ [])) (name_stops from) ∙ ap (λ o. first_some (refusal_of (walk tree from) ∷ o ∷ [])) (parent_stops to)
  stops_same (Read path off len) = name_stops path
  stops_same (ListNames path) = directory_stops path
  stops_same (Fsync path) = name_stops path
  stops_same Sync = refl

  end_is_directory : (path : List (List ℕ)) → place_passes (λ place. is_directory place.1) (led dirs path) ≡ row_passes (λ row. is_directory row.kind) (walk tree path)
  end_is_directory path = ap (place_passes (λ place. is_directory place.1)) (L path) ∙ kind_same (walk tree path)

  directory_same : (request : Request) → leads_to_directory dirs request ≡ names_directory tree request
  directory_same (Create path) = refl
  directory_same (Mkdir path) = refl
  directory_same (Write path pieces) = end_is_directory path
  directory_same (Truncate path size) = end_is_directory path
  directory_same (Unlink path) = end_is_directory path
  directory_same (Rmdir path) = refl
  directory_same (Rename from to) = refl
  directory_same (Read path off len) = end_is_directory path
  directory_same (ListNames path) = refl
  directory_same (Fsync path) = refl
  directory_same Sync = refl

  there_same : (path : List (List ℕ)) → is_ok (led dirs path) ≡ is_ok (walk tree path)
  there_same path = ap (λ o. is_ok o) (L path) ∙ ok_same (walk tree path)

  bound_same : (request : Request) → is_bound dirs request ≡ name_is_there tree request
  bound_same (Create path) = there_same path
  bound_same (Mkdir path) = there_same path
  bound_same (Write path pieces) = refl
  bound_same (Truncate path size) = refl
  bound_same (Unlink path) = refl
  bound_same (Rmdir path) = refl
  bound_same (Rename from to) = there_same to
  bound_same (Read path off len) = refl
  bound_same (ListNames path) = refl
  bound_same (Fsync path) = refl
  bound_same Sync = refl

  -- a directory has a name exactly where a row stands in it
  pub occupied_same : (directory : ℕ) → is_occupied dirs directory ≡ list_any (is_in directory) (map.values tree)
  occupied_same directory = both_ways (is_occupied dirs directory) (list_any (is_in directory) (map.values tree)) to_rows to_names
    where
      to_rows : is_occupied dirs directory ≡ true → list_any (is_in directory) (map.values tree) ≡ true
      to_rows h =
          let names = names_of (map.get dirs directory) h in
          let one = one_name names.0 names.2 in
          let name : List ℕ = one.0 in
          let place : Place = one.1 in
          let at = binds.only directory name place.0 place.1 (ap (among name) names.1 ∙ one.2) in
          let row = row_there shapes tree are place.0 at.0 at.1 in
          let keyed : row.0.ino ≡ place.0 = good.keyed place.0 row.0 row.1 in
          passes_value nat_cmp nat_cmp_total nat_cmp-IsAntisymmetric tree (is_in directory) place.0 row.0 row.1 (in_true directory row.0 (λ root. at.2 (sym keyed ∙ root)) (sym row.2.parent ∙ at.3))

      has : (name : List ℕ) (place : Place) (o : Option Entries) → among name o ≡ Some place → has_names o ≡ true
      has name place None h = absurd (some_none (sym h))
      has name place (Some names) h = by_len (map.len names == 0) refl
        where
          by_len : (b : Bool) → (map.len names == 0) ≡ b → not b ≡ true
          by_len false e = refl
          by_len true e = absurd (some_none (sym h ∙ ap (λ (m : Entries). map.get m name) (map.empty_of_len names (eqb-true (map.len names) 0 e)) ∙ map.get-empty _ name))

      to_names : list_any (is_in directory) (map.values tree) ≡ true → is_occupied dirs directory ≡ true
      to_names h =
          let found = value_passes nat_cmp nat_cmp_total nat_cmp-IsAntisymmetric tree (is_in directory) h in
          let row : Row = found.1 in
          let is = true_in directory row found.2 in
          let keyed : row.ino ≡ found.0 = good.keyed found.0 row found.3 in
          let at = shape_there shapes tree are found.0 row found.3 in
          let bound = binds.bound found.0 at.0 at.1 (λ root. is.0 (keyed ∙ root)) in
          has at.0.name (found.0, at.0.kind) (map.get dirs directory) (ap (λ d. bound_in dirs d at.0.name) (sym is.1 ∙ sym at.2.parent) ∙ bound)

  row_at : (path : List (List ℕ)) (P : Result Row Reply → Type 0) → ((refused : Reply) → P (Err refused)) → ((row : Row) → map.get tree row.ino ≡ Some row → P (Ok row)) → P (walk tree path)
  row_at path P stop end = by_end (walk tree path) refl
    where
      by_end : (o : Result Row Reply) → walk tree path ≡ o → P o
      by_end (Err refused) is = stop refused
      by_end (Ok row) is = end row (walk_ends most tree good path row is).there

  more_same : (request : Request) → has_more dirs request ≡ has_entries tree request
  more_same (Create path) = refl
  more_same (Mkdir path) = refl
  more_same (Write path pieces) = refl
  more_same (Truncate path size) = refl
  more_same (Unlink path) = refl
  more_same (Rmdir path) =
      ap (place_passes (λ place. is_occupied dirs place.0)) (L path)
      ∙ row_at path (λ o. place_passes (λ place. is_occupied dirs place.0) (place_at o) ≡ row_passes (λ row. list_any (is_in row.ino) (map.values tree)) o) (λ refused. refl) (λ row there. occupied_same row.ino)
  more_same (Rename from to) = refl
  more_same (Read path off len) = refl
  more_same (ListNames path) = refl
  more_same (Fsync path) = refl
  more_same Sync = refl

  exceeds_same : (limits : Limits) (request : Request) → exceeds limits dirs request ≡ is_too_big limits tree request
  exceeds_same limits (Create path) = refl
  exceeds_same limits (Mkdir path) = refl
  exceeds_same limits (Write path pieces) = refl
  exceeds_same limits (Truncate path size) = refl
  exceeds_same limits (Unlink path) = refl
  exceeds_same limits (Rmdir path) = refl
  exceeds_same limits (Rename from to) =
      let depth : ℕ = length to in
      ap (place_passes (goes_deep dirs depth)) (L from)
      ∙ row_at from (λ o. place_passes (goes_deep dirs depth) (place_at o) ≡ row_passes (puts_too_deep tree depth) o) (λ refused. refl) (λ row there. deep_same most tree good shapes are dirs binds depth row there)
  exceeds_same limits (Read path off len) = refl
  exceeds_same limits (ListNames path) = refl
  exceeds_same limits (Fsync path) = refl
  exceeds_same limits Sync = refl

  pub refused_same : (limits : Limits) (request : Request) → refused_by limits dirs request ≡ refusal limits tree request
  refused_same limits request =
      ap (λ o. first_some (then_some (has_bad_name request) BadName ∷ o ∷ then_some (leads_to_directory dirs request) IsDir ∷ then_some (is_bound dirs request) Exists ∷ then_some (has_more dirs request) NotEmpty ∷ then_some (exceeds limits dirs request) TooBig ∷ [])) (stops_same request)
      ∙ ap (λ b. first_some (then_some (has_bad_name request) BadName ∷ walk_refusal tree request ∷ then_some b IsDir ∷ then_some (is_bound dirs request) Exists ∷ then_some (has_more dirs request) NotEmpty ∷ then_some (exceeds limits dirs request) TooBig ∷ [])) (directory_same request)
      ∙ ap (λ b. first_some (then_some (has_bad_name request) BadName ∷ walk_refusal tree request ∷ then_some (names_directory tree request) IsDir ∷ then_some b Exists ∷ then_some (has_more dirs request) NotEmpty ∷ then_some (exceeds limits dirs request) TooBig ∷ [])) (bound_same request)
      ∙ ap (λ b. first_some (then_some (has_bad_name request) BadName ∷ walk_refusal tree request ∷ then_some (names_directory tree request) IsDir ∷ then_some (name_is_there tree request) Exists ∷ then_some b NotEmpty ∷ then_some (exceeds limits dirs request) TooBig ∷ [])) (more_same request)
      ∙ ap (λ b. first_some (then_some (has_bad_name request) BadName ∷ walk_refusal tree request ∷ then_some (names_directory tree request) IsDir ∷ then_some (name_is_there tree request) Exists ∷ then_some (has_entries tree request) NotEmpty ∷ then_some b TooBig ∷ [])) (exceeds_same limits request)
