-- A tree that recovery puts together takes no more than the most of its rows: file by file, and directory by directory.
use Rattle.std.proofs.Common.{◌≡◌, ◌⊎◌, inl, inr, ℕ, Bool, true, false, cond, not, ◌≤◌, ◌==◌, List, [], ◌∷◌, map as map_list, refl, sym, ap, subst, ◌∙◌, arith, Some, true≢false}
use Rattle.std.specs.List.{filter, sum_by, fold, range_with_len}
use Rattle.std.specs.Ordering.{nat_cmp, eq_by_cmp}
use Rattle.std.specs.Cmp.{nat_cmp_total}
use Rattle.std.specs.Cmp.Lexicographic.{slice_cmp, nat_list_cmp_total}
use Rattle.std.specs.FinMap as map
use Rattle.std.specs.FinSet as set
use Rattle.std.proofs.lemmas.Bool.Decides.{nat_tests}
use Rattle.std.proofs.lemmas.List.Filters.{sum_by-filter_both}
use Rattle.f2_format.specs.Offsets.{node_count}
use Rattle.f2_model.specs.Tree.{Rows, is_directory, names_under, names_in, IsGoodTree}
use Rattle.f2_model.specs.Count.{dentry_blocks, page_numbers, nodes_of_row, data_of_kind, data_of_row, nodes_of_tree, data_of_tree}
use Rattle.f2_model.specs.State.{Mark, rolled}
use Rattle.f2_model.specs.Fallback.{Both, greater_of, nothing, greatest_of, of_directory, regular_inos, directory_inos}
use Rattle.f2_model.specs.declared.rows.Row.{Row}
use Rattle.f2_model.specs.declared.rows.Kind.{Kind}
use Rattle.f2_model.specs.declared.rows.Kind.TheVariants.{Regular, Directory}
use Rattle.f2_model.proofs.RisingLemmas.{rises as members_rise, contains-rising}
use Rattle.f2_model.specs.Rising.{rising}
use Rattle.f2_held.specs.Recovered.{IsOneOf, rows_of, most_of, RecoveredTreesFit}
use Rattle.f2_held.proofs.Lists.{has, sum_apart, sum_each, sum_mapped, sum_nodes, sum_pages}
use Rattle.f2_held.proofs.Packed.{names, blocks_rise, nodes_rise}
use Rattle.f2_held.proofs.RowLists.{one_of-left, one_of-right, passes, passed, each_filtered, name_of_row, row_of_name, value_is_one, one_is_value, inos_apart, rolled_row}

abbrev is_file : Row → Bool
is_file row = not (is_directory row.kind)

abbrev is_dir : Row → Bool
is_dir row = is_directory row.kind

-- the greatest numbers are no less than those of each row
module _ (size : Row → Both) (test : Row → Bool) where
  abbrev most : Both → List Row → Both
  most a xs = fold (λ most row. greater_of most (size row)) a (filter test xs)

  rises : (a : Both) (xs : List Row) → (a.nodes ≤ (most a xs).nodes) × (a.pages ≤ (most a xs).pages)
  rises a [] = (omega arith, omega arith)
  rises a (x ∷ xs) = go (rises a xs) (rises (greater_of a (size x)) xs) (test x)
    where
      go : ((a.nodes ≤ (most a xs).nodes) × (a.pages ≤ (most a xs).pages)) → (((greater_of a (size x)).nodes ≤ (most (greater_of a (size x)) xs).nodes) × ((greater_of a (size x)).pages ≤ (most (greater_of a (size x)) xs).pages)) → (b : Bool) → (a.nodes ≤ (fold (λ most row. greater_of most (size row)) a (cond b (x ∷ filter test xs) (filter test xs))).nodes) × (a.pages ≤ (fold (λ most row. greater_of most (size row)) a (cond b (x ∷ filter test xs) (filter test xs))).pages)
      go skip take true = (grind (arith, take.0), grind (arith, take.1))
      go skip take false = skip

  has_most : (row : Row) (xs : List Row) (a : Both) → IsOneOf row xs → test row ≡ true → ((size row).nodes ≤ (most a xs).nodes) × ((size row).pages ≤ (most a xs).pages)
  has_most row [] a h t = absurd h
  has_most row (x ∷ xs) a (inl e) t =
      let here : test x ≡ true = ap test (sym e) ∙ t in
      let more = rises (greater_of a (size x)) xs in
      let own : ((size x).nodes ≤ (most (greater_of a (size x)) xs).nodes) × ((size x).pages ≤ (most (greater_of a (size x)) xs).pages) = (grind (arith, more.0), grind (arith, more.1)) in
      subst (λ b. ((size row).nodes ≤ (fold (λ most row. greater_of most (size row)) a (cond b (x ∷ filter test xs) (filter test xs))).nodes) × ((size row).pages ≤ (fold (λ most row. greater_of most (size row)) a (cond b (x ∷ filter test xs) (filter test xs))).pages)) (sym here)
      (subst (λ r. ((size r).nodes ≤ (most (greater_of a (size x)) xs).nodes) × ((size r).pages ≤ (most (greater_of a (size x)) xs).pages)) (sym e) own)
  has_most row (x ∷ xs) a (inr h) t = go (has_most row xs a h t) (has_most row xs (greater_of a (size x)) h t) (test x)
    where
      go : (((size row).nodes ≤ (most a xs).nodes) × ((size row).pages ≤ (most a xs).pages)) → (((size row).nodes ≤ (most (greater_of a (size x)) xs).nodes) × ((size row).pages ≤ (most (greater_of a (size x)) xs).pages)) → (b : Bool) → ((size row).nodes ≤ (fold (λ most row. greater_of most (size row)) a (cond b (x ∷ filter test xs) (filter test xs))).nodes) × ((size row).pages ≤ (fold (λ most row. greater_of most (size row)) a (cond b (x ∷ filter test xs) (filter test xs))).pages)
      go skip take true = take
      go skip take false = skip

own_ino : (k : ℕ) → (k == k) ≡ true
own_ino k = grind (arith, nat_tests)

-- the numbers of a file's row don't hang on the rows beside it
file_nodes : (xs ys : List Row) (row : Row) (kind : Kind) → not (is_directory kind) ≡ true → node_count (page_numbers kind xs row) ≡ node_count (page_numbers kind ys row)
file_nodes xs ys row Regular h = refl
file_nodes xs ys row Directory h = absurd (true≢false (sym h))

file_data : (xs ys : List Row) (row : Row) (kind : Kind) → not (is_directory kind) ≡ true → data_of_kind kind xs row ≡ data_of_kind kind ys row
file_data xs ys row Regular h = refl
file_data xs ys row Directory h = absurd (true≢false (sym h))

-- and those of a directory's are its blocks and the nodes that they need
dir_nodes : (xs : List Row) (row : Row) (kind : Kind) → is_directory kind ≡ true → node_count (page_numbers kind xs row) ≡ node_count (range_with_len 0 (dentry_blocks xs row.ino))
dir_nodes xs row Regular h = absurd (true≢false (sym h))
dir_nodes xs row Directory h = refl

dir_data : (xs : List Row) (row : Row) (kind : Kind) → is_directory kind ≡ true → data_of_kind kind xs row ≡ dentry_blocks xs row.ino
dir_data xs row Regular h = absurd (true≢false (sym h))
dir_data xs row Directory h = refl

regular_is_no_directory : (kind : Kind) → kind ≡ Regular → is_directory kind ≡ true → ⊥
regular_is_no_directory Regular e h = true≢false (sym h)
regular_is_no_directory Directory e h = true≢false (ap is_directory e)

module _ (most_size : ℕ) (base : Rows) (marks : List Mark) (rows : List Row) (good : IsGoodTree most_size (rolled base marks)) (regular : (row : Row) → IsOneOf row (map_list (λ mark. mark.row) marks) → row.kind ≡ Regular) (among : (row : Row) → IsOneOf row (rows_of base marks) → IsOneOf row rows) where
  abbrev tree : Rows
  tree = rolled base marks

  abbrev found : List Row
  found = map.values tree

  found_among : (row : Row) → IsOneOf row found → IsOneOf row rows
  found_among row h = let at = one_is_value tree row h in go at.0 (rolled_row base marks at.0 row at.1)
    where
      go : (k : ℕ) → (map.get base k ≡ Some row) ⊎ IsOneOf row (map_list (λ mark. mark.row) marks) → IsOneOf row rows
      go k (inl e) = among row (one_of-left row (map.values base) (map_list (λ mark. mark.row) marks) (value_is_one base k row e))
      go k (inr h) = among row (one_of-right row (map.values base) (map_list (λ mark. mark.row) marks) h)

  directory_of_base : (row : Row) → IsOneOf row found → is_dir row ≡ true → IsOneOf row (map.values base)
  directory_of_base row h dir = let at = one_is_value tree row h in go at.0 (rolled_row base marks at.0 row at.1)
    where
      go : (k : ℕ) → (map.get base k ≡ Some row) ⊎ IsOneOf row (map_list (λ mark. mark.row) marks) → IsOneOf row (map.values base)
      go k (inl e) = value_is_one base k row e
      go k (inr h) = absurd (regular_is_no_directory row.kind (regular row h) dir)

  names_are : (xs : List Row) (d : ℕ) (q : List ℕ) → names q (rising (names_in xs d)) ≡ names q (names_under xs d)
  names_are xs d q = sym (contains-rising nat_list_cmp_total (names_in xs d) q) ∙ set.contains-from_list nat_list_cmp_total (names_under xs d) q

  names_among : (d : ℕ) (q : List ℕ) → names q (rising (names_in found d)) ≡ true → names q (rising (names_in rows d)) ≡ true
  names_among d q h =
      let row = row_of_name d (eq_by_cmp (slice_cmp nat_cmp) q) found (sym (names_are found d q) ∙ h) in
      names_are rows d q ∙ name_of_row d (eq_by_cmp (slice_cmp nat_cmp) q) row.0 rows (found_among row.0 row.1) row.2

  blocks_among : (d : ℕ) → dentry_blocks found d ≤ dentry_blocks rows d
  blocks_among d = blocks_rise (rising (names_in found d)) (rising (names_in rows d)) (members_rise (names_in found d)) (members_rise (names_in rows d)) (names_among d)

  files_among : (k : ℕ) → has k (map_list (λ row. row.ino) (filter is_file found)) ≡ true → has k (regular_inos rows) ≡ true
  files_among k h =
      let row = passed is_file (λ row. row.ino) k found h in
      let there = passes is_file row.0 rows (found_among row.0 row.1) row.2 (λ row. row.ino) in
      sym (contains-rising nat_cmp_total (set.from_list {R = nat_cmp} (map_list (λ row. row.ino) (filter is_file rows))) k)
      ∙ set.contains-from_list nat_cmp_total (map_list (λ row. row.ino) (filter is_file rows)) k
      ∙ subst (λ i. has i (map_list (λ row. row.ino) (filter is_file rows)) ≡ true) (sym row.3) there

  directories_among : (k : ℕ) → has k (map_list (λ row. row.ino) (filter is_dir found)) ≡ true → has k (directory_inos base) ≡ true
  directories_among k h =
      let row = passed is_dir (λ row. row.ino) k found h in
      let there = passes is_dir row.0 (map.values base) (directory_of_base row.0 row.1 row.2) row.2 (λ row. row.ino) in
      subst (λ i. has i (directory_inos base) ≡ true) (sym row.3) there

  module _ (g : Row → ℕ) (most_at : ℕ → ℕ) where
    part : (test : Row → Bool) (inos : List ℕ) → ((row : Row) → IsOneOf row found → test row ≡ true → g row ≤ most_at row.ino) → ((k : ℕ) → has k (map_list (λ row. row.ino) (filter test found)) ≡ true → has k inos ≡ true) → sum_by g (filter test found) ≤ sum_by most_at inos
    part test inos each sub =
        let rowwise = sum_each g (λ row. most_at row.ino) (filter test found) (each_filtered (λ row. g row ≤ most_at row.ino) test found each) in
        let inowise = sum_apart most_at (map_list (λ row. row.ino) (filter test found)) inos (inos_apart tree test good.keyed) sub in
        omega (arith, rowwise, inowise, sum_mapped most_at (λ (row : Row). row.ino) (filter test found))

  abbrev size_in : Row → Both
  size_in row = record { nodes = nodes_of_row rows row; pages = data_of_row rows row }

  fits_nodes : nodes_of_tree tree ≤ (most_of base rows).nodes
  fits_nodes =
      let files = part (nodes_of_row found) (λ ino. (greatest_of rows ino).nodes) is_file (regular_inos rows)
      (λ row h t. let le = (has_most size_in (λ other. other.ino == row.ino) row rows nothing (found_among row h) (own_ino row.ino)).0 in omega (arith, le, file_nodes found rows row row.kind t))
      files_among
      in
      let dirs = part (nodes_of_row found) (λ ino. (of_directory rows ino).nodes) is_dir (directory_inos base)
      (λ row h t. let le = nodes_rise (dentry_blocks found row.ino) (dentry_blocks rows row.ino) (blocks_among row.ino) in omega (arith, le, dir_nodes found row row.kind t))
      directories_among
      in
      let whole = sum_by-filter_both is_dir is_file (λ _. refl) (nodes_of_row found) found in
      omega (arith, files, dirs, whole, sum_nodes (greatest_of rows) (regular_inos rows), sum_nodes (of_directory rows) (directory_inos base))

  fits_pages : data_of_tree tree ≤ (most_of base rows).pages
  fits_pages =
      let files = part (data_of_row found) (λ ino. (greatest_of rows ino).pages) is_file (regular_inos rows)
      (λ row h t. let le = (has_most size_in (λ other. other.ino == row.ino) row rows nothing (found_among row h) (own_ino row.ino)).1 in omega (arith, le, file_data found rows row row.kind t))
      files_among
      in
      let dirs = part (data_of_row found) (λ ino. (of_directory rows ino).pages) is_dir (directory_inos base)
      (λ row h t. let le = blocks_among row.ino in omega (arith, le, dir_data found row row.kind t))
      directories_among
      in
      let whole = sum_by-filter_both is_dir is_file (λ _. refl) (data_of_row found) found in
      omega (arith, files, dirs, whole, sum_pages (greatest_of rows) (regular_inos rows), sum_pages (of_directory rows) (directory_inos base))

pub recovered_trees_fit : RecoveredTreesFit
recovered_trees_fit most_size base marks rows good regular among = record {
  nodes = fits_nodes most_size base marks rows good regular among;
  data_blocks = fits_pages most_size base marks rows good regular among;
}
