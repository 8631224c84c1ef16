-- The tree of the root alone is good, and takes one node and no data block.
use Rattle.std.proofs.Common.{◌≡◌, ◌≢◌, ◌⊎◌, inl, inr, ℕ, ◌+◌, List, [], ◌∷◌, map as map_list, length, true, false, ◌||◌, true≢false, refl, sym, ap, subst, ◌∙◌, arith}
use Rattle.std.specs.Prelude.{Some}
use Rattle.std.specs.List.{sum_by, range_with_len, list_any}
use Rattle.std.specs.Ordering.{nat_cmp, eq_by_cmp, is_eq, ordering_reverse}
use Rattle.std.specs.declared.cmp.Ordering.{Ordering}
use Rattle.std.specs.declared.cmp.Ordering.TheVariants.{Less, Equal, Greater}
use Rattle.std.specs.Cmp.{nat_cmp_total}
use Rattle.std.specs.Cmp.Lexicographic.{slice_cmp, nat_list_cmp_total}
use Rattle.std.specs.FinMap as map
use Rattle.std.specs.FinSet as set
use Rattle.std.proofs.lemmas.List.Sums.{sum_by-cons}
use Rattle.f2_format.specs.Offsets.{node_count}
use Rattle.f2_format.specs.Packing.{blocks_of_names}
use Rattle.f2_model.specs.Tree.{Rows, ROOT, root_row, root_alone, IsGoodTree, HasGoodPages, names_in}
use Rattle.f2_model.specs.Count.{dentry_blocks, nodes_of_row, data_of_row, nodes_of_tree, data_of_tree}
use Rattle.f2_model.specs.Rising.{rising}
use Rattle.f2_model.proofs.RisingLemmas.{contains-rising}
use Rattle.f2_model.specs.declared.rows.Row.{Row}
use Rattle.f2_laws.proofs.Maps.{get_put, get_put-other}
use Rattle.f2_laws.proofs.Walks.{some_same, some_none}
use Rattle.f2_laws.proofs.Places.{same_or_other}
use Rattle.f2_held.proofs.FirstPages.{used-is}
use Rattle.f2_room_laws.specs.ProperTrees.{IsNumber, BareTreeIsProper}

abbrev no_rows : Rows
no_rows = map.empty

-- the root's row is there, and no other
only_root : (ino : ℕ) (row : Row) → map.get root_alone ino ≡ Some row → (ino ≡ ROOT) × (row ≡ root_row)
only_root ino row there = by_ino (same_or_other ino ROOT)
  where
    by_ino : (ino ≡ ROOT) ⊎ (ino ≢ ROOT) → (ino ≡ ROOT) × (row ≡ root_row)
    by_ino (inl same) = (same, some_same (sym there ∙ ap (λ i. map.get root_alone i) same ∙ get_put no_rows ROOT root_row))
    by_ino (inr other) = absurd (some_none (sym there ∙ get_put-other no_rows ROOT root_row ino other ∙ map.get-empty nat_cmp ino))

root_there : map.get root_alone ROOT ≡ Some root_row
root_there = get_put no_rows ROOT root_row

root_pages : (most : ℕ) → HasGoodPages most root_row
root_pages most =
    let none : (page : ℕ) (bytes : List ℕ) → map.get root_row.pages page ≡ Some bytes → ⊥ = λ page bytes h. some_none (sym h ∙ map.get-empty nat_cmp page) in
    record {
      directory = λ _. (refl, refl);
      size = omega arith;
      whole = λ page bytes h. absurd (none page bytes h);
      before = λ page bytes h. absurd (none page bytes h);
      zeros = λ page at bytes h past. absurd (none page bytes h);
    }

bare_good : (most : ℕ) → IsGoodTree most root_alone
bare_good most = record {
  root = (root_row, root_there, record { ino = refl; kind = refl; parent = refl; name = refl });
  keyed = λ ino row there. (let only = only_root ino row there in ap (λ (r : Row). r.ino) only.1 ∙ sym only.0);
  parents = λ ino row there. (root_row, ap (λ (r : Row). map.get root_alone r.parent) (only_root ino row there).1 ∙ root_there, refl);
  names = λ ino row there not_root. absurd (not_root (only_root ino row there).0);
  apart = λ i j a b p q not_root root_not parent name. absurd (not_root (only_root i a p).0);
  reached = λ ino row there. (0, omega arith, (only_root ino row there).0);
  pages = λ ino row there. subst (HasGoodPages most) (sym (only_root ino row there).1) (root_pages most);
}

no_entries : {A : Type 0} (es : List A) → length es ≡ 0 → es ≡ []
no_entries [] e = refl
no_entries (x ∷ es) e = absurd (omega arith)

-- its values are the root's row alone
bare_values : map.values root_alone ≡ root_row ∷ []
bare_values =
    let none : map.entries no_rows ≡ [] = no_entries (map.entries no_rows) (sym (map.len-entries no_rows) ∙ map.len-empty nat_cmp Row) in
    ap (map_list (λ (e : ℕ × Row). e.1)) (map.entries-insert nat_cmp_total no_rows ROOT root_row ∙ ap (map.put nat_cmp ROOT root_row) none)

-- a name ties with itself
tied_name : (name : List ℕ) → eq_by_cmp (slice_cmp nat_cmp) name name ≡ true
tied_name name = by_order (slice_cmp nat_cmp name name) (nat_list_cmp_total.antisymm name name)
  where
    by_order : (o : Ordering) → o ≡ ordering_reverse o → is_eq o ≡ true
    by_order Less e = absurd (cc)
    by_order Equal e = refl
    by_order Greater e = absurd (cc)

-- a list that has no name is empty, and the root has no name in it
no_name : (names : List (List ℕ)) → ((q : List ℕ) → list_any (eq_by_cmp (slice_cmp nat_cmp) q) names ≡ false) → names ≡ []
no_name [] none = refl
no_name (name ∷ names) none = absurd (true≢false (sym (ap (λ b. b || list_any (eq_by_cmp (slice_cmp nat_cmp) name) names) (tied_name name)) ∙ none name))

root_blocks : dentry_blocks (root_row ∷ []) ROOT ≡ 0
root_blocks =
    ap blocks_of_names (no_name (rising (names_in (root_row ∷ []) ROOT)) (λ q. sym (contains-rising nat_list_cmp_total (names_in (root_row ∷ []) ROOT) q) ∙ set.contains-from_list nat_list_cmp_total [] q))

bare_nodes : nodes_of_tree root_alone ≡ 1
bare_nodes =
    ap (λ rows. sum_by (nodes_of_row rows) rows) bare_values
    ∙ sum_by-cons (nodes_of_row (root_row ∷ [])) root_row []
    ∙ ap (λ blocks. node_count (range_with_len 0 blocks) + 0) root_blocks
    ∙ ap (λ n. n + 0) (sym (used-is 0 (omega arith)))

bare_data : data_of_tree root_alone ≡ 0
bare_data =
    ap (λ rows. sum_by (data_of_row rows) rows) bare_values
    ∙ sum_by-cons (data_of_row (root_row ∷ [])) root_row []
    ∙ ap (λ blocks. blocks + 0) root_blocks

pub bare_proper : BareTreeIsProper
bare_proper limits room = record {
  good = bare_good limits.size;
  numbers = λ ino row there. subst (IsNumber limits) (sym (only_root ino row there).0) (omega arith, room.numbers);
  nodes = let nodes = room.nodes in omega (arith, bare_nodes);
  data_blocks = omega (arith, bare_data);
}
