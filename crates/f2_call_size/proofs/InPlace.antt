-- The names that rows have in a directory, and a row of a good tree taken out of it or changed in its place.
use Rattle.std.proofs.Common.{◌≡◌, ◌≢◌, ℕ, zero, suc, Bool, true, false, cond, not, ◌&&◌, ◌||◌, ◌==◌, List, [], ◌∷◌, map as map_list, refl, sym, ap, subst, ◌∙◌, true≢false}
use Rattle.std.specs.Prelude.{Option, Some, None, is_some, if◌then◌else◌}
use Rattle.std.specs.List.{list_any, find, filter, flat_map}
use Rattle.std.specs.List.Sorted.{IsStrictlySortedBy}
use Rattle.std.specs.Ordering.{nat_cmp, eq_by_cmp}
use Rattle.std.specs.Cmp.{Equal-is}
use Rattle.std.specs.Cmp.Lexicographic.{slice_cmp, nat_list_cmp_total}
use Rattle.std.specs.FinMap as map
use Rattle.std.specs.FinSet as set
use Rattle.std.proofs.lemmas.Bool.{eqb-true, eqb-false}
use Rattle.std.proofs.lemmas.List.{map-append}
use Rattle.std.proofs.lemmas.List.Elements.{filter-append}
use Rattle.std.proofs.lemmas.List.Folds.{list_any-append}
use Rattle.f2_format.specs.Offsets.{node_count}
use Rattle.f2_format.specs.Packing.{blocks_of_names}
use Rattle.f2_held.specs.Sums.{of_blocks}
use Rattle.f2_laws.proofs.Maps.{get_taken, get_taken-other}
use Rattle.f2_laws.proofs.Values.{find_none, value_found}
use Rattle.f2_laws.proofs.Walks.{some_none, some_same}
use Rattle.f2_model.proofs.RisingLemmas.{rising-is}
use Rattle.f2_model.specs.Count.{page_numbers, data_of_kind}
use Rattle.f2_model.specs.Fallback.{Both}
use Rattle.f2_model.specs.Rising.{rising}
use Rattle.f2_model.specs.Tree.{Rows, ROOT, IsGoodTree, IsAtDepth, names_of, names_under}
use Rattle.f2_model.specs.declared.rows.Row.{Row}
use Rattle.f2_model.specs.declared.rows.Kind.{Kind}
use Rattle.f2_model.specs.declared.rows.Kind.TheVariants.{Regular, Directory}
use Rattle.f2_call_size.specs.Calls.{size_alone, size_of_kind}
use Rattle.f2_call_size.specs.Sizes.{takes}
use Rattle.f2_call_size.proofs.FilePages.{alone}
use Rattle.f2_call_size.proofs.Listed.{same_nodes}
use Rattle.f2_call_size.proofs.Joined.{Names, names_at, blocks_at, packed, own, same_names, put_again, put_over, names_here, names_elsewhere, IsJoin, joined}

abbrev is_name : List ℕ → List ℕ → Bool
is_name = eq_by_cmp (slice_cmp nat_cmp)

name_is : (q name : List ℕ) → is_name q name ≡ true → q ≡ name
name_is q name h = set.slice_cmp-IsAntisymmetric set.nat_cmp-IsAntisymmetric q name ((Equal-is (slice_cmp nat_cmp q name)).0 h)

-- the names of one row in a directory
abbrev own_names : ℕ → Row → List (List ℕ)
own_names d row = map_list (λ (at : ℕ × List ℕ). at.1) (filter (λ (at : ℕ × List ℕ). at.0 == d) (names_of row))

any_under : (p : List ℕ → Bool) (d : ℕ) (rows : List Row) → list_any p (names_under rows d) ≡ list_any (λ row. list_any p (own_names d row)) rows
any_under p d [] = refl
any_under p d (row ∷ rows) =
    ap (list_any p) (ap (map_list (λ (at : ℕ × List ℕ). at.1)) (filter-append (λ (at : ℕ × List ℕ). at.0 == d) (names_of row) (flat_map names_of rows))
    ∙ map-append (λ (at : ℕ × List ℕ). at.1) (filter (λ (at : ℕ × List ℕ). at.0 == d) (names_of row)) _)
    ∙ list_any-append p (own_names d row) (names_under rows d) ∙ ap (λ b. list_any p (own_names d row) || b) (any_under p d rows)

-- a row that has a name in a directory
pub record HasName (d : ℕ) (q : List ℕ) (row : Row) : Type 0 where
  pub not_root : row.ino ≢ ROOT
  pub parent : row.parent ≡ d
  pub name : row.name ≡ q

has_name : (d : ℕ) (q : List ℕ) (row : Row) → list_any (is_name q) (own_names d row) ≡ true → HasName d q row
has_name d q row h = by_root (row.ino == ROOT) refl h
  where
    or_no : (b : Bool) → (b || false) ≡ true → b ≡ true
    or_no true h = refl
    or_no false h = h

    by_parent : row.ino ≢ ROOT → (b : Bool) → (row.parent == d) ≡ b → list_any (is_name q) (map_list (λ (at : ℕ × List ℕ). at.1) (cond b ((row.parent, row.name) ∷ []) [])) ≡ true → HasName d q row
    by_parent other true e h = record { not_root = other; parent = eqb-true row.parent d e; name = sym (name_is q row.name (or_no (is_name q row.name) h)) }
    by_parent other false e h = absurd (true≢false (sym h))

    by_root : (b : Bool) → (row.ino == ROOT) ≡ b → list_any (is_name q) (map_list (λ (at : ℕ × List ℕ). at.1) (filter (λ (at : ℕ × List ℕ). at.0 == d) (if b then [] else ((row.parent, row.name) ∷ [])))) ≡ true → HasName d q row
    by_root true e h = absurd (true≢false (sym h))
    by_root false e h = by_parent (eqb-false row.ino ROOT e) (row.parent == d) refl h

-- where no row has a name in a directory it isn't one of the directory's
pub unnamed : (tree : Rows) (d : ℕ) (q : List ℕ) → ((k : ℕ) (row : Row) → map.get tree k ≡ Some row → HasName d q row → ⊥) → set.contains (names_at tree d) q ≡ false
unnamed tree d q none =
    let test : Row → Bool = λ row. list_any (is_name q) (own_names d row) in
    set.contains-from_list nat_list_cmp_total (names_under (map.values tree) d) q ∙ any_under (is_name q) d (map.values tree)
    ∙ find_none test (map.values tree) (by (find test (map.values tree)) refl)
  where
    by : (o : Option Row) → find (λ row. list_any (is_name q) (own_names d row)) (map.values tree) ≡ o → o ≡ None
    by None e = refl
    by (Some row) e =
        let found = value_found tree (λ row. list_any (is_name q) (own_names d row)) row e in
        absurd (none found.1.0 row found.1.1 (has_name d q row found.0))

pub nobody : (tree : Rows) (d : ℕ) → ((k : ℕ) (row : Row) → map.get tree k ≡ Some row → row.ino ≢ ROOT → row.parent ≡ d → ⊥) → names_at tree d ≡ set.empty
nobody tree d none = same_names _ _ (λ q. unnamed tree d q (λ k row there has. none k row there has.not_root has.parent) ∙ sym (set.contains-empty (slice_cmp nat_cmp) q))

no_names : rising (set.empty {R = slice_cmp nat_cmp}) ≡ []
unfolding IsStrictlySortedBy
no_names = rising-is nat_list_cmp_total (set.slice_cmp-IsAntisymmetric set.nat_cmp-IsAntisymmetric) set.empty [] tt (set.contains-empty (slice_cmp nat_cmp))

-- a row takes what it takes alone, where no row stands in it
pub own_alone : (tree : Rows) (row : Row) → (row.kind ≡ Directory → names_at tree row.ino ≡ set.empty) → own tree row ≡ size_alone row
own_alone tree row empty = by row.kind refl
  where
    by : (kind : Kind) → row.kind ≡ kind → ◌≡◌ {A = Both} (record { nodes = node_count (page_numbers kind (map.values tree) row); pages = data_of_kind kind (map.values tree) row }) (size_of_kind kind row)
    by Regular e = refl
    by Directory e = ap of_blocks (ap packed (empty e) ∙ ap blocks_of_names no_names)

pub empty_directory : of_blocks 0 ≡ record { nodes = 1; pages = 0 }
empty_directory = λ i. record { nodes = alone i; pages = 0 }

-- a row without a page takes its inode
pub own_new : (kind : Kind) (row : Row) → row.pages ≡ map.empty → size_of_kind kind row ≡ record { nodes = 1; pages = 0 }
own_new Directory row none = empty_directory
own_new Regular row none = λ i. record { nodes = nodes i; pages = pages i }
  where
    no_key : (q : ℕ) → list_any (eq_by_cmp nat_cmp q) (map.keys row.pages) ≡ false
    no_key q = sym (map.contains_key-keys row.pages q) ∙ ap (λ (m : map.FinMap nat_cmp (List ℕ)). is_some (map.get m q)) none ∙ ap (λ o. is_some o) (map.get-empty nat_cmp q)

    nodes : node_count (map.keys row.pages) ≡ 1
    nodes = ap (λ s. set.len s) (same_nodes (map.keys row.pages) [] no_key) ∙ alone

    pages : map.len row.pages ≡ 0
    pages = ap (λ (m : map.FinMap nat_cmp (List ℕ)). map.len m) none ∙ map.len-empty nat_cmp (List ℕ)

module _ (most : ℕ) (tree : Rows) (good : IsGoodTree most tree) (row : Row) (there : map.get tree row.ino ≡ Some row) (not_root : row.ino ≢ ROOT) where
  abbrev rest : Rows
  rest = map.remove tree row.ino

  -- no row but the root stands in itself
  pub not_inside : row.parent ≢ row.ino
  not_inside inside = let at = good.reached row.ino row there in climb at.0 at.2
    where
      climb : (depth : ℕ) → IsAtDepth tree depth row.ino → ⊥
      climb zero h = not_root h
      climb (suc depth) h = climb depth (subst (IsAtDepth tree depth) (ap (λ (r : Row). r.parent) (some_same (sym h.1.1 ∙ there)) ∙ inside) h.1.2)

  free : map.get rest row.ino ≡ None
  free = get_taken tree row.ino

  rest_there : (q : ℕ) (other : Row) → map.get rest q ≡ Some other → (q ≢ row.ino) × (map.get tree q ≡ Some other)
  rest_there q other h =
      let apart : q ≢ row.ino = λ e. some_none (sym h ∙ ap (map.get rest) e ∙ free) in
      (apart, sym (get_taken-other tree row.ino q apart) ∙ h)

  keyed : (q : ℕ) (other : Row) → map.get rest q ≡ Some other → other.ino ≡ q
  keyed q other h = good.keyed q other (rest_there q other h).1

  -- what the tree takes with the row
  pub join_before : IsJoin (takes rest) (takes tree) (own tree row) (of_blocks (blocks_at rest row.parent)) (of_blocks (blocks_at tree row.parent))
  join_before =
      let up = good.parents row.ino row there in
      let above : map.get rest row.parent ≡ Some up.0 = get_taken-other tree row.ino row.parent not_inside ∙ up.1 in
      subst (λ (t : Rows). IsJoin (takes rest) (takes t) (own t row) (of_blocks (blocks_at rest row.parent)) (of_blocks (blocks_at t row.parent))) (put_again tree row.ino row there)
      (joined rest row.ino row free not_root keyed up.0 above up.2)

  had : names_at tree row.parent ≡ set.insert (names_at rest row.parent) row.name
  had = ap (λ (t : Rows). names_at t row.parent) (sym (put_again tree row.ino row there)) ∙ names_here rest row.ino row free not_root

  -- without the row its directory has the names that it had but one
  pub names_left : set.remove (names_at tree row.parent) row.name ≡ names_at rest row.parent
  names_left = same_names _ _ (λ q.
      set.contains-remove nat_list_cmp_total (names_at tree row.parent) row.name q
      ∙ ap (λ (s : Names). not (is_name q row.name) && set.contains s q) had
      ∙ ap (λ b. not (is_name q row.name) && b) (set.contains-insert nat_list_cmp_total (names_at rest row.parent) row.name q)
      ∙ by q (is_name q row.name) refl)
    where
      missing : set.contains (names_at rest row.parent) row.name ≡ false
      missing = unnamed rest row.parent row.name (λ k other h has. (
          let at = rest_there k other h in
          let outside : k ≢ ROOT = λ e. has.not_root (keyed k other h ∙ e) in
          at.0 (good.apart k row.ino other row at.1 there outside not_root has.parent has.name)))

      by : (q : List ℕ) (b : Bool) → is_name q row.name ≡ b → (not b && (b || set.contains (names_at rest row.parent) q)) ≡ set.contains (names_at rest row.parent) q
      by q true e = sym (ap (set.contains (names_at rest row.parent)) (name_is q row.name e) ∙ missing)
      by q false e = refl

  pub others_before : (d : ℕ) → d ≢ row.parent → names_at tree d ≡ names_at rest d
  others_before d other = ap (λ (t : Rows). names_at t d) (sym (put_again tree row.ino row there)) ∙ names_elsewhere rest row.ino row free not_root d other

  -- the row changed in its place
  module _ (now : Row) (same : now.ino ≡ row.ino) (outside : now.parent ≢ row.ino) (up : Row) (above : map.get tree now.parent ≡ Some up) (kind : up.kind ≡ Directory) where
    abbrev after : Rows
    after = map.insert tree row.ino now

    still : now.ino ≢ ROOT
    still e = not_root (sym same ∙ e)

    pub join_after : IsJoin (takes rest) (takes after) (own after now) (of_blocks (blocks_at rest now.parent)) (of_blocks (blocks_at after now.parent))
    join_after =
        subst (λ (t : Rows). IsJoin (takes rest) (takes t) (own t now) (of_blocks (blocks_at rest now.parent)) (of_blocks (blocks_at t now.parent))) (put_over tree row.ino now)
        (joined rest row.ino now free still keyed up (get_taken-other tree row.ino now.parent outside ∙ above) kind)

    pub names_after_is : names_at after now.parent ≡ set.insert (names_at rest now.parent) now.name
    names_after_is = ap (λ (t : Rows). names_at t now.parent) (sym (put_over tree row.ino now)) ∙ names_here rest row.ino now free still

    pub others_after : (d : ℕ) → d ≢ now.parent → names_at after d ≡ names_at rest d
    others_after d other = ap (λ (t : Rows). names_at t d) (sym (put_over tree row.ino now)) ∙ names_elsewhere rest row.ino now free still d other

    -- with the same name in the same directory that has the names that it had
    pub names_same : now.parent ≡ row.parent → now.name ≡ row.name → blocks_at tree row.parent ≡ blocks_at after now.parent
    names_same parent name = ap packed (had ∙ sym (λ i. set.insert (names_at rest (parent i)) (name i)) ∙ sym names_after_is)

    -- and the row has the names that it had in it
    pub inside_same : names_at tree row.ino ≡ names_at after row.ino
    inside_same = others_before row.ino (λ e. not_inside (sym e)) ∙ sym (others_after row.ino (λ e. outside (sym e)))
