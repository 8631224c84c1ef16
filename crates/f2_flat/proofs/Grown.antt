-- A tree of files in the root to which one more is added.
use Rattle.std.proofs.Common.{◌≡◌, ◌≢◌, ◌⊎◌, inl, inr, ℕ, ◌+◌, ◌*◌, ◌<◌, ◌≤◌, Bool, true, false, cond, List, [], ◌∷◌, refl, sym, ap, ◌∙◌, subst, arith}
use Rattle.std.specs.Prelude.{Option, Some, None, Ok, Err, is_some, nat_lt, if◌then◌else◌}
use Rattle.std.specs.Bool.{then_some}
use Rattle.std.specs.Cmp.{nat_cmp_total}
use Rattle.std.specs.FinMap as map
use Rattle.f2_format.specs.Geometry.{ImageGeometry, IsGeometry, node_third, data_third, nid_limit}
use Rattle.f2_format.specs.Packing.{slots_of_name}
use Rattle.f2_model.specs.Tree.{Rows, ROOT, IsGoodTree, is_directory, walk, parent_path, last_name}
use Rattle.f2_model.specs.Call.{walk_parent, to_directory, refusal, space_refusal, new_row, effect}
use Rattle.f2_model.specs.Lists.{first_some}
use Rattle.f2_model.specs.Count.{nodes_of_tree, data_of_tree}
use Rattle.f2_model.specs.declared.rows.Row.{Row}
use Rattle.f2_model.specs.declared.rows.Kind.{Kind}
use Rattle.f2_model.specs.declared.rows.Kind.TheVariants.{Regular, Directory}
use Rattle.f2_model.specs.declared.requests.Request.TheVariants.{Create}
use Rattle.f2_model.specs.declared.replies.Reply.{Reply}
use Rattle.f2_model.specs.declared.replies.Reply.TheVariants.{NotDir, NoSpace}
use Rattle.f2_model.specs.declared.replies.Space.TheVariants.{Node, Data}
use Rattle.f2_laws.proofs.Calls.{effect_good}
use Rattle.f2_laws.proofs.NewRows.{inserted_sum, same_space}
use Rattle.f2_laws.proofs.Maps.{get_put, get_put-other}
use Rattle.f2_laws.proofs.Passed.{passed, directory_ok}
use Rattle.f2_laws.proofs.Places.{put_or_other}
use Rattle.f2_laws.proofs.Walks.{some_none, walk_ends}
use Rattle.f2_dir.specs.Entries.{Entries}
use Rattle.f2_flat.specs.Flat.{IsFlat, IsRootFile, FILE_SIZE, limits_of}
use Rattle.f2_flat.specs.Calls.{grown, IsAdded}
use Rattle.f2_flat.specs.Kept.{HasRootFiles, BindsNames, AreCounts, IsKept, slots_of_row, pages_of_row}
use Rattle.f2_flat.specs.Steps.{told_beyond, with_file}
use Rattle.f2_flat.specs.declared.counts.Counts.{Counts}
use Rattle.f2_flat.proofs.Binds.{get_bound, get_bound-other, bound_or_other, bound_to}
use Rattle.f2_flat.proofs.FlatTrees.{node_third_small, files_of}
use Rattle.f2_flat.proofs.Leading.{only_root}
use Rattle.f2_flat.proofs.Told.{not_lt, is_lt, none_within}
use Rattle.f2_flat.proofs.Trees.{nodes_of}

-- Names and counts with a file more.

module _ (tree : Rows) (ino : ℕ) (name : List ℕ) (free : map.get tree ino ≡ None) (files : HasRootFiles (with_file tree ino name)) where
  new_there : map.get (with_file tree ino name) ino ≡ Some (new_row Regular ino ROOT name)
  new_there = get_put tree ino (new_row Regular ino ROOT name)

  other_there : (other : ℕ) (row : Row) → map.get tree other ≡ Some row → (other ≢ ino) × (map.get (with_file tree ino name) other ≡ Some row)
  other_there other row there =
      let apart : other ≢ ino = λ same. some_none (sym there ∙ ap (λ i. map.get tree i) same ∙ free) in
      (apart, get_put-other tree ino (new_row Regular ino ROOT name) other apart ∙ there)

  -- the new row isn't the root
  not_root : ino ≢ ROOT
  not_root same =
      let is : files.good.root.0 ≡ new_row Regular ino ROOT name = some_same (sym files.good.root.1 ∙ ap (λ i. map.get (with_file tree ino name) i) (sym same) ∙ new_there) in
      let bad : Directory ≡ Regular = sym files.good.root.2.kind ∙ ap (λ (r : Row). r.kind) is in
      cc
    where
      some_same : {x y : Row} → Some x ≡ Some y → x ≡ y
      some_same e = cc

  pub names_with_file : (names : Entries) → BindsNames tree names → BindsNames (with_file tree ino name) (map.insert names name (ino, Regular))
  names_with_file names binds = record {
    bound = λ other row there apart. bound other row apart (put_or_other tree (new_row Regular ino ROOT name) other row there);
    only = λ one at kind there. only one at kind (bound_or_other names name (ino, Regular) one (at, kind) there);
  }
    where
      bound : (other : ℕ) (row : Row) → other ≢ ROOT → ((other ≡ ino) × (row ≡ new_row Regular ino ROOT name)) ⊎ ((other ≢ ino) × (map.get tree other ≡ Some row)) → map.get (map.insert names name (ino, Regular)) row.name ≡ Some (other, Regular)
      bound other row apart (inl same) =
          ap (λ (r : Row). map.get (map.insert names name (ino, Regular)) r.name) same.1 ∙ get_bound names name (ino, Regular) ∙ ap (λ (i : ℕ). bound_to i) (sym same.0)
      bound other row apart (inr was) =
          let now = other_there other row was.1 in
          let differ : row.name ≢ name = λ same.
          was.0 (files.good.apart other ino row (new_row Regular ino ROOT name) now.1 new_there apart not_root ((files.files other row now.1 apart).1) same) in
          get_bound-other names name (ino, Regular) row.name differ ∙ binds.bound other row was.1 apart

      only : (one : List ℕ) (at : ℕ) (kind : Kind) → ((one ≡ name) × (◌≡◌ {A = ℕ × Kind} (ino, Regular) (at, kind))) ⊎ (map.get {X = ℕ × Kind} names one ≡ Some (at, kind)) → (row : Row) × (map.get (with_file tree ino name) at ≡ Some row) × (at ≢ ROOT) × (row.name ≡ one)
      only one at kind (inl same) =
          let is : ino ≡ at = ap (λ (place : ℕ × Kind). place.0) same.1 in
          (new_row Regular ino ROOT name, ap (λ i. map.get (with_file tree ino name) i) (sym is) ∙ new_there, (λ root. not_root (is ∙ root)), sym same.0)
      only one at kind (inr was) =
          let found = binds.only one at kind was in
          (found.0, (other_there at found.0 found.1).1, found.2, found.3)

pub counts_with_file : (tree : Rows) (ino : ℕ) (name : List ℕ) (counts : Counts) → map.get tree ino ≡ None → AreCounts tree counts → AreCounts (with_file tree ino name) (record { slots = counts.slots + slots_of_name name; pages = counts.pages })
counts_with_file tree ino name counts free are =
    let row = new_row Regular ino ROOT name in
    let slots = inserted_sum tree ino row free slots_of_row in
    let pages = inserted_sum tree ino row free pages_of_row in
    let none : pages_of_row row ≡ 0 = map.len-empty _ (List ℕ) in
    let was_slots = are.slots in
    let was_pages = are.pages in
    record { slots = omega (arith, slots, was_slots); pages = omega (arith, pages, none, was_pages) }

-- Refusals.

-- want of space, from the two counts
pub space_by_data : (geom : ImageGeometry) (tree : Rows) → nodes_of_tree tree ≤ node_third geom → space_refusal (limits_of geom) tree ≡ told_beyond Data (data_of_tree tree) (data_third geom)
space_by_data geom tree nodes =
    let first : nat_lt (node_third geom) (nodes_of_tree tree) ≡ false = not_lt (node_third geom) (nodes_of_tree tree) nodes in
    rw first (by_test (nat_lt (data_third geom) (data_of_tree tree)) (NoSpace Data (data_of_tree tree) (data_third geom)))
  where
    by_test : (b : Bool) (reply : Reply) → first_some (then_some b reply ∷ []) ≡ then_some b reply
    by_test true reply = refl
    by_test false reply = refl

pub space_by_nodes : (geom : ImageGeometry) (tree : Rows) → node_third geom < nodes_of_tree tree → space_refusal (limits_of geom) tree ≡ Some (NoSpace Node (nodes_of_tree tree) (node_third geom))
space_by_nodes geom tree nodes =
    let first : nat_lt (node_third geom) (nodes_of_tree tree) ≡ true = is_lt (node_third geom) (nodes_of_tree tree) nodes in
    rw first refl

module _ (geom : ImageGeometry) (geometry : IsGeometry geom) (tree : Rows) (flat : IsFlat geom tree) where
  absent : (ino : ℕ) → map.len tree + ROOT ≤ ino → map.get tree ino ≡ None
  absent ino past = by_row (map.get tree ino) refl
    where
      by_row : (o : Option Row) → map.get tree ino ≡ o → o ≡ None
      by_row None is = refl
      by_row (Some row) is = let dense = (flat.dense ino row is).1 in absurd (omega (arith, dense, past))

  -- the number after the last one is free, and so is the first that no node can have
  pub next_free : map.get tree (map.len tree + ROOT) ≡ None
  next_free = absent (map.len tree + ROOT) (omega arith)

  past_all : (len third nids : ℕ) → len ≤ third → 3 * third + 4 ≤ nids → len + ROOT ≤ nids
  past_all len third nids fits large = omega (arith, fits, large)

  limit_free : map.get tree (nid_limit geom) ≡ None
  limit_free = absent (nid_limit geom) (past_all (map.len tree) (node_third geom) (nid_limit geom) flat.fits geometry.nids)

  module _ (path : List (List ℕ)) (none : refusal (limits_of geom) tree (Create path) ≡ None) where
    in_root : (up : Row) × (walk_parent tree path ≡ Ok up) × (up.ino ≡ ROOT)
    in_root =
        let walks = (passed (limits_of geom) tree (Create path) none).walks in
        let end = directory_ok (walk tree (parent_path path)) walks in
        let up : Row = end.0 in
        let led : walk_parent tree path ≡ Ok up = ap to_directory end.1 ∙ ap (λ (kind : Kind). if is_directory kind then Ok up else Err NotDir) end.2 in
        (up, led, only_root tree (files_of geom geometry tree flat) up (walk_ends FILE_SIZE tree flat.good (parent_path path) up end.1).there end.2)

    created : (up : Row) (ino directory : ℕ) → walk_parent tree path ≡ Ok up → up.ino ≡ directory → effect tree (Create path) ino ≡ map.insert tree ino (new_row Regular ino directory (last_name path))
    created up ino directory led is = rw (led, is) refl

    pub grown_is : (ino : ℕ) → grown tree path ino ≡ with_file tree ino (last_name path)
    grown_is ino = created in_root.0 ino ROOT in_root.1 in_root.2

    module _ (ino : ℕ) (free : map.get tree ino ≡ None) where
      length-grown : map.len (with_file tree ino (last_name path)) ≡ map.len tree + 1
      length-grown = map.len-insert nat_cmp_total tree ino (new_row Regular ino ROOT (last_name path)) ∙ ap (λ (o : Option Row). cond (is_some o) (map.len tree) (map.len tree + 1)) free

      files_now : (other : ℕ) (row : Row) → ((other ≡ ino) × (row ≡ new_row Regular ino ROOT (last_name path))) ⊎ ((other ≢ ino) × (map.get tree other ≡ Some row)) → other ≢ ROOT → IsRootFile row
      files_now other row (inl same) apart = subst IsRootFile (sym same.1) (refl, refl)
      files_now other row (inr was) apart = flat.files other row was.1 apart

      pub files_grown : HasRootFiles (with_file tree ino (last_name path))
      files_grown = record {
        good = subst (IsGoodTree FILE_SIZE) (grown_is ino) (effect_good (limits_of geom) tree flat.good (Create path) ino (λ _. free) (passed (limits_of geom) tree (Create path) none));
        few = (let small = node_third_small geom geometry in let fits = flat.fits in let len = length-grown in omega (arith, small, fits, len));
        files = λ other row there apart. files_now other row (put_or_other tree (new_row Regular ino ROOT (last_name path)) other row there) apart;
      }

      nodes_grown : nodes_of_tree (with_file tree ino (last_name path)) ≡ map.len tree + 1
      nodes_grown = nodes_of (with_file tree ino (last_name path)) files_grown ∙ length-grown

    abbrev next : ℕ
    next = map.len tree + ROOT

    -- the refusal of a file more for want of space is that of the tree with the next number
    space_next : space_refusal (limits_of geom) (grown tree path (nid_limit geom)) ≡ space_refusal (limits_of geom) (with_file tree next (last_name path))
    space_next = same_space (limits_of geom) tree (Create path) (nid_limit geom) next flat.good limit_free next_free ∙ ap (space_refusal (limits_of geom)) (grown_is next)

    pub nodes_spent : node_third geom < map.len tree + 1 → space_refusal (limits_of geom) (grown tree path (nid_limit geom)) ≡ Some (NoSpace Node (map.len tree + 1) (node_third geom))
    nodes_spent full =
        let nodes = nodes_grown next next_free in
        space_next ∙ space_by_nodes geom (with_file tree next (last_name path)) (omega (arith, nodes, full)) ∙ ap (λ n. Some (NoSpace Node n (node_third geom))) nodes

    pub space_told : map.len tree + 1 ≤ node_third geom → space_refusal (limits_of geom) (grown tree path (nid_limit geom)) ≡ told_beyond Data (data_of_tree (with_file tree next (last_name path))) (data_third geom)
    space_told fits =
        let nodes = nodes_grown next next_free in
        space_next ∙ space_by_data geom (with_file tree next (last_name path)) (omega (arith, nodes, fits))

    -- a file more, where each zone has room
    module _ (fits : map.len tree + 1 ≤ node_third geom) (room : told_beyond Data (data_of_tree (with_file tree next (last_name path))) (data_third geom) ≡ None) where
      dense_grown : (ino : ℕ) (row : Row) → ((ino ≡ next) × (row ≡ new_row Regular next ROOT (last_name path))) ⊎ ((ino ≢ next) × (map.get tree ino ≡ Some row))
          → (ROOT ≤ ino) × (ino < map.len (with_file tree next (last_name path)) + ROOT)
      dense_grown ino row (inl same) = let at : ino ≡ map.len tree + 3 = same.0 in let len = length-grown next next_free in (omega (arith, at), omega (arith, at, len))
      dense_grown ino row (inr was) =
          let dense = flat.dense ino row was.1 in
          let low = dense.0 in
          let high = dense.1 in
          let len = length-grown next next_free in
          (omega (arith, low), omega (arith, high, len))

      pub flat_grown : IsFlat geom (with_file tree next (last_name path))
      flat_grown = record {
        good = (files_grown next next_free).good;
        fits = (let len = length-grown next next_free in omega (arith, len, fits));
        room = none_within Data (data_of_tree (with_file tree next (last_name path))) (data_third geom) room;
        dense = λ ino row there. dense_grown ino row (put_or_other tree (new_row Regular next ROOT (last_name path)) ino row there);
        files = (files_grown next next_free).files;
      }

      pub added : (new : Rows) (ino : ℕ) → ino ≡ next → new ≡ with_file tree next (last_name path) → IsAdded geom tree new path ino
      added new ino is now = record {
        none = none;
        space = space_told fits ∙ room;
        next = is;
        fits = fits;
        tree = now ∙ sym (grown_is next) ∙ ap (grown tree path) (sym is);
      }

-- What is kept, after a file was added and where it wasn't.

pub kept_same : (tree new : Rows) (names now : Entries) (counts : Counts) → IsKept tree names counts → new ≡ tree → now ≡ names → IsKept new now counts
kept_same tree new names now counts kept tree_is names_is =
    subst (λ t. IsKept t now counts) (sym tree_is) (subst (λ n. IsKept tree n counts) (sym names_is) kept)

pub kept_with_file : (tree new : Rows) (names now : Entries) (counts : Counts) (ino : ℕ) (name row_name dir_name : List ℕ) (slots : ℕ) → map.get tree ino ≡ None → HasRootFiles (with_file tree ino name) → IsKept tree names counts
    → row_name ≡ name → dir_name ≡ name → slots ≡ slots_of_name name → new ≡ with_file tree ino row_name → now ≡ map.insert names dir_name (ino, Regular)
    → IsKept new now (record { slots = counts.slots + slots; pages = counts.pages })
kept_with_file tree new names now counts ino name row_name dir_name slots free files kept row_is dir_is slots_is tree_is names_is =
    let whole : new ≡ with_file tree ino name = tree_is ∙ ap (with_file tree ino) row_is in
    let bound : now ≡ map.insert names name (ino, Regular) = names_is ∙ ap (λ (n : List ℕ). map.insert names n (ino, Regular)) dir_is in
    let counted = counts_with_file tree ino name counts free kept.counted in
    let all : IsKept (with_file tree ino name) (map.insert names name (ino, Regular)) (record { slots = counts.slots + slots_of_name name; pages = counts.pages }) = record { bound = names_with_file tree ino name free files names kept.bound; counted = counted } in
    subst (λ n. IsKept new now (record { slots = counts.slots + n; pages = counts.pages })) (sym slots_is) (kept_same (with_file tree ino name) new (map.insert names name (ino, Regular)) now _ all whole bound)
