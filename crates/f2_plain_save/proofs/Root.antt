-- The tree of the root alone can be stored in an image of any sizes.
use Rattle.std.proofs.Common.{◌≡◌, ◌≢◌, inl, inr, ℕ, ◌+◌, ◌*◌, ◌<◌, ◌≤◌, cond, [], ◌∷◌, refl, sym, ap, ◌∙◌, subst, arith}
use Rattle.std.specs.Prelude.{Some, map as map_list}
use Rattle.std.specs.List.{sum_by, range_with_len}
use Rattle.std.specs.List.Sorted.{IsStrictlySortedBy}
use Rattle.std.specs.Ordering.{nat_cmp}
use Rattle.std.specs.Cmp.{nat_cmp_total, unsigned_tied}
use Rattle.std.specs.Cmp.Lexicographic.{slice_cmp, nat_list_cmp_total}
use Rattle.std.specs.FinMap as map
use Rattle.std.specs.FinMap.{gets, get-insert, get-empty, entries-insert, len-entries, len-empty, nat_cmp-IsAntisymmetric, slice_cmp-IsAntisymmetric}
use Rattle.std.specs.FinSet as set
use Rattle.std.specs.FinSet.{contains-empty, members}
use Rattle.std.proofs.lemmas.Bool.{cases_eq, ne_eqb}
use Rattle.std.proofs.lemmas.Option.{none-some}
use Rattle.std.proofs.lemmas.List.{nil_from_length}
use Rattle.f2_format.specs.Geometry.{ImageGeometry, IsGeometry, node_third, data_third, nid_limit}
use Rattle.f2_format.specs.Inode.{SIZE_LIMIT}
use Rattle.f2_format.specs.Offsets.{inode_pages, node_count, nodes_over}
use Rattle.f2_format.specs.Packing.{blocks_of_names}
use Rattle.f2_model.specs.Rising.{rising}
use Rattle.f2_model.specs.Tree.{names_in, ROOT, IsGoodTree, HasGoodPages, most_depth}
use Rattle.f2_model.specs.Count.{nodes_of_row, data_of_row, nodes_of_tree, data_of_tree, dentry_blocks}
use Rattle.f2_model.specs.declared.rows.Row.{Row}
use Rattle.f2_model.proofs.RisingLemmas.{rising-is}
use Rattle.f2_laid.specs.Laid.{IsStorable, root_row, root_alone}

-- the root is its one row
pub none_before : {X : Type 0} → map.entries (map.empty {X = X} {R = nat_cmp}) ≡ []
none_before {X} = nil_from_length _ (sym (len-entries map.empty) ∙ len-empty nat_cmp X)

rows_are : map.values root_alone ≡ root_row ∷ []
rows_are = ap (map_list (λ e. e.1)) (entries-insert nat_cmp_total map.empty ROOT root_row ∙ ap (map.put nat_cmp ROOT root_row) none_before)

-- an empty map has nothing
pub empty_has : {X : Type 0} (k : ℕ) (x : X) → map.get (map.empty {X = X} {R = nat_cmp}) k ≡ Some x → ⊥
empty_has k x held = none-some x (sym (get-empty nat_cmp k) ∙ held)

pub there : map.get root_alone ROOT ≡ Some root_row
there = grind (arith, gets)

pub only : (ino : ℕ) (row : Row) → map.get root_alone ino ≡ Some row → (ino ≡ ROOT) × (row ≡ root_row)
only ino row held = elim (cases_eq ino ROOT) [ inl e ↦ (e, same e) | inr apart ↦ absurd (empty_has ino row (sym (other apart) ∙ held)) ]
  where
    same : ino ≡ ROOT → row ≡ root_row
    same e =
        let both : Some root_row ≡ Some row = sym there ∙ (ap (map.get root_alone) (sym e) ∙ held) in
        cc

    other : ino ≢ ROOT → map.get root_alone ino ≡ map.get (map.empty {X = Row} {R = nat_cmp}) ino
    other apart = get-insert nat_cmp_total map.empty ROOT root_row ino ∙ ap (λ b. cond b (Some root_row) (map.get (map.empty {X = Row} {R = nat_cmp}) ino)) (unsigned_tied ino ROOT ∙ ne_eqb ino ROOT apart)

-- no name stands in it
no_names : rising (set.empty {R = slice_cmp nat_cmp}) ≡ []
unfolding IsStrictlySortedBy
no_names = rising-is nat_list_cmp_total (slice_cmp-IsAntisymmetric nat_cmp-IsAntisymmetric) set.empty [] tt (contains-empty (slice_cmp nat_cmp))

pub root_names : rising (names_in (map.values root_alone) ROOT) ≡ []
root_names = ap (λ rows. rising (names_in rows ROOT)) rows_are ∙ no_names

no_blocks : dentry_blocks (root_row ∷ []) ROOT ≡ 0
no_blocks = ap blocks_of_names no_names

one_node : node_count [] ≡ 1
unfolding nodes_over
one_node = grind (arith, members)

nodes_of_root : nodes_of_tree root_alone ≡ 1
nodes_of_root = ap (λ rows. sum_by (nodes_of_row rows) rows) rows_are ∙ ap (λ n. 0 + node_count (range_with_len 0 n)) no_blocks ∙ ap (λ n. 0 + n) one_node

data_of_root : data_of_tree root_alone ≡ 0
data_of_root = ap (λ rows. sum_by (data_of_row rows) rows) rows_are ∙ ap (λ n. 0 + n) no_blocks

dentries_of_root : dentry_blocks (map.values root_alone) ROOT ≡ 0
dentries_of_root = ap (λ rows. dentry_blocks rows ROOT) rows_are ∙ no_blocks

-- it is good
none_less : (n : ℕ) → 0 ≤ n
none_less n = omega arith

good_pages : HasGoodPages SIZE_LIMIT root_row
good_pages =
    record {
      directory = λ _. (refl, refl);
      size = none_less SIZE_LIMIT;
      whole = λ page bytes held. absurd (empty_has page bytes held);
      before = λ page bytes held. absurd (empty_has page bytes held);
      zeros = λ page at bytes held _. absurd (empty_has page bytes held);
    }

pub root_good : IsGoodTree SIZE_LIMIT root_alone
root_good =
    record {
      root = (root_row, there, record { ino = refl; kind = refl; parent = refl; name = refl });
      keyed = λ ino row held. ap (λ (r : Row). r.ino) (only ino row held).1 ∙ sym (only ino row held).0;
      parents = λ ino row held. (root_row, ap (λ (r : Row). map.get root_alone r.parent) (only ino row held).1 ∙ there, refl);
      names = λ ino row held apart. absurd (apart (only ino row held).0);
      apart = λ i j a b held other apart _ _ _. absurd (apart (only i a held).0);
      reached = λ ino row held. (0, none_less (most_depth row.kind), (only ino row held).0);
      pages = λ ino row held. subst (HasGoodPages SIZE_LIMIT) (sym (only ino row held).1) good_pages;
    }

pub root_storable : (geom : ImageGeometry) → IsGeometry geom → IsStorable geom root_alone
root_storable geom geometry =
    record {
      good = root_good;
      low = λ ino row held apart. absurd (apart (only ino row held).0);
      numbered = λ ino row held. small ino (nid_limit geom) (3 * node_third geom) (only ino row held).0 geometry.nids;
      nodes = omega (arith, nodes_of_root, geometry.zones);
      blocks = subst (λ n. n ≤ data_third geom) (sym data_of_root) (none_less (data_third geom));
      short_files = λ ino page row bytes held found. absurd (empty_has page bytes (ap (λ (r : Row). map.get r.pages page) (sym (only ino row held).1) ∙ found));
      short_directories = λ ino row held _. subst (λ n. n ≤ inode_pages) (sym (ap (dentry_blocks (map.values root_alone)) (only ino row held).0 ∙ dentries_of_root)) (none_less inode_pages);
    }
  where
    small : (ino limit more : ℕ) → ino ≡ 3 → more + 4 ≤ limit → ino < limit
    small ino limit more e fits = omega (arith, e, fits)
