-- What was taken in counts the most that the rows take.
use Rattle.std.proofs.Common.{◌≡◌, ℕ, Bool, true, false, cond, not, ◌&&◌, ◌||◌, ◌+◌, ◌==◌, List, [], ◌∷◌, map as map_list, refl, sym, ap, ◌∙◌, arith, Some}
use Rattle.std.specs.Prelude.{T, is_some}
use Rattle.std.specs.Bool.{then_some}
use Rattle.std.specs.List.{list_any, filter, sum_by, range_with_len, AllByRecursion}
use Rattle.std.specs.List.Sorted.{IsStrictlySortedBy}
use Rattle.std.specs.Ordering.{nat_cmp, eq_by_cmp, is_eq, is_lt}
use Rattle.std.specs.Cmp.{nat_cmp_total, unsigned_tied, nat_eq_equiv}
use Rattle.std.specs.declared.cmp.Ordering.{Ordering}
use Rattle.std.specs.declared.cmp.Ordering.TheVariants.{Less, Equal, Greater}
use Rattle.std.specs.FinMap as map
use Rattle.std.specs.FinMap.{FinMap, entries, entries_sorted, is_sorted, get-entries}
use Rattle.std.specs.FinMap.Entries.{below_all}
use Rattle.std.specs.FinSet as set
use Rattle.std.proofs.lemmas.List.Sums.{sum_by-cons}
use Rattle.f2_format.specs.Packing.{blocks_of_names}
use Rattle.f2_format.specs.Offsets.{node_count}
use Rattle.f2_model.specs.Tree.{Rows, is_directory, names_under}
use Rattle.f2_model.specs.Fallback.{Both, greatest_of, of_directory, regular_inos, directory_inos}
use Rattle.f2_model.specs.declared.rows.Row.{Row}
use Rattle.f2_model.proofs.RisingLemmas.{rises, contains-rising}
use Rattle.f2_held.specs.Taken.{Names, Taken, names_from, of_names, total_of}
use Rattle.f2_held.specs.Recovered.{most_of, is_of_file, IsTakenOf, CountIsTheMost}
use Rattle.f2_held.proofs.Lists.{has, Apart, sum_apart, sum_nodes, sum_pages}
use Rattle.f2_held.proofs.MapSums.{each_entry, sum_nodes as map_nodes, sum_pages as map_pages, files_are}
use Rattle.f2_held.proofs.Packed.{same_list}
use Rattle.f2_held.proofs.RowLists.{inos_apart}

first : (a b : Bool) → T (a && b) → T a
first true b p = tt
first false b p = p

second : (a b : Bool) → T (a && b) → T b
second true b p = p
second false b p = absurd p

not_tied : (o : Ordering) → T (is_lt o) → is_eq o ≡ false
not_tied Less p = refl
not_tied Equal p = absurd p
not_tied Greater p = absurd p

-- numbers that rise are apart
above : (x : ℕ) (ys : List ℕ) → AllByRecursion (λ y. nat_cmp x y ≡ Less) ys → has x ys ≡ false
above x [] all = refl
above x (y ∷ ys) all = ap (λ o. is_eq o || has x ys) all.0 ∙ above x ys all.1

rising_apart : (xs : List ℕ) → IsStrictlySortedBy nat_cmp xs → Apart xs
unfolding IsStrictlySortedBy
rising_apart [] sorted = tt
rising_apart (x ∷ xs) sorted = (above x xs sorted.0, rising_apart xs sorted.1)

module _ {X : Type 0} where
  keys_apart : (es : List (ℕ × X)) → T (is_sorted nat_cmp es) → Apart (map_list (λ e. e.0) es)
  keys_apart [] sorted = tt
  keys_apart (e ∷ es) sorted = (below e.0 es (first _ _ sorted), keys_apart es (second _ _ sorted))
    where
      below : (k : ℕ) (es : List (ℕ × X)) → T (below_all nat_cmp k es) → has k (map_list (λ e. e.0) es) ≡ false
      below k [] h = refl
      below k (e ∷ es) h = ap (λ b. b || has k (map_list (λ e. e.0) es)) (not_tied (nat_cmp k e.0) (first _ _ h)) ∙ below k es (second _ _ h)

  -- where each value's number is given by its key, the sum goes over the keys
  by_keys : (g : X → ℕ) (at : ℕ → ℕ) (es : List (ℕ × X)) → AllByRecursion (λ e. g e.1 ≡ at e.0) es → sum_by g (map_list (λ e. e.1) es) ≡ sum_by at (map_list (λ e. e.0) es)
  by_keys g at [] all = refl
  by_keys g at (e ∷ es) all = sum_by-cons g e.1 (map_list (λ e. e.1) es) ∙ (λ i. all.0 i + by_keys g at es all.1 i) ∙ sym (sum_by-cons at e.0 (map_list (λ e. e.0) es))

  module _ (m : FinMap nat_cmp X) (inos : List ℕ) (apart : Apart inos) (same : (k : ℕ) → map.contains_key m k ≡ has k inos) (g : X → ℕ) (at : ℕ → ℕ) (each : (k : ℕ) (v : X) → map.get m k ≡ Some v → g v ≡ at k) where
    keys_are : (k : ℕ) → has k (map.keys m) ≡ has k inos
    keys_are k = sym (map.contains_key-keys m k) ∙ same k

    total_is : sum_by g (map.values m) ≡ sum_by at inos
    total_is =
        let keys = by_keys g at (entries m) (each_entry (λ e. g e.1 ≡ at e.0) (entries m) (entries_sorted m) (λ k v f. each k v (get-entries m k ∙ f))) in
        let le = sum_apart at (map.keys m) inos (keys_apart (entries m) (entries_sorted m)) (λ k h. sym (keys_are k) ∙ h) in
        let ge = sum_apart at inos (map.keys m) apart (λ k h. keys_are k ∙ h) in
        omega (arith, keys, le, ge)

some_then : {X : Type 0} (b : Bool) (x : X) → is_some (then_some b x) ≡ b
some_then true x = refl
some_then false x = refl

same_some : {X : Type 0} (a b : X) → Some a ≡ Some b → a ≡ b
same_some a b e = cc

value_then : {X : Type 0} (b : Bool) (x v : X) → then_some b x ≡ Some v → v ≡ x
value_then true x v e = sym (same_some x v e)
value_then false x v e = absurd (cc)

pub tells : (k i : ℕ) → eq_by_cmp nat_cmp k i ≡ (i == k)
tells k i = unsigned_tied k i ∙ nat_eq_equiv.symm k i

has-is : (k : ℕ) (inos : List ℕ) → has k inos ≡ list_any (λ other. other == k) inos
has-is k [] = refl
has-is k (i ∷ is) = λ j. tells k i j || has-is k is j

files_listed : (k : ℕ) (rows : List Row) → has k (map_list (λ row. row.ino) (filter (λ row. not (is_directory row.kind)) rows)) ≡ list_any (is_of_file k) rows
files_listed k [] = refl
files_listed k (row ∷ rows) = go (files_listed k rows) (not (is_directory row.kind))
  where
    go : has k (map_list (λ row. row.ino) (filter (λ row. not (is_directory row.kind)) rows)) ≡ list_any (is_of_file k) rows → (b : Bool) → has k (map_list (λ row. row.ino) (cond b (row ∷ filter (λ row. not (is_directory row.kind)) rows) (filter (λ row. not (is_directory row.kind)) rows))) ≡ ((b && (row.ino == k)) || list_any (is_of_file k) rows)
    go rest true = λ j. tells k row.ino j || rest j
    go rest false = rest

module _ (base : Rows) (rows : List Row) (taken : Taken) (keyed : (ino : ℕ) (row : Row) → map.get base ino ≡ Some row → row.ino ≡ ino) (is : IsTakenOf base rows taken) where
  files_same : (k : ℕ) → map.contains_key taken.files k ≡ has k (regular_inos rows)
  files_same k =
      let list = map_list (λ (row : Row). row.ino) (filter (λ row. not (is_directory row.kind)) rows) in
      ap is_some (is.files k) ∙ some_then (list_any (is_of_file k) rows) (greatest_of rows k)
      ∙ sym (files_listed k rows)
      ∙ sym (set.contains-from_list nat_cmp_total list k)
      ∙ contains-rising nat_cmp_total (set.from_list {R = nat_cmp} list) k

  files_apart : Apart (regular_inos rows)
  files_apart = rising_apart (regular_inos rows) (rises (set.from_list {R = nat_cmp} (map_list (λ row. row.ino) (filter (λ row. not (is_directory row.kind)) rows))))

  file_is : (k : ℕ) (v : Both) → map.get taken.files k ≡ Some v → v ≡ greatest_of rows k
  file_is k v e = value_then (list_any (is_of_file k) rows) (greatest_of rows k) v (sym (is.files k) ∙ e)

  directories_same : (k : ℕ) → map.contains_key taken.directories k ≡ has k (directory_inos base)
  directories_same k = ap is_some (is.directories k) ∙ some_then (list_any (λ other. other == k) (directory_inos base)) (names_from (names_under rows k)) ∙ sym (has-is k (directory_inos base))

  directories_apart : Apart (directory_inos base)
  directories_apart = inos_apart base (λ row. is_directory row.kind) keyed

  of_names_is : (k : ℕ) → of_names (names_from (names_under rows k)) ≡ of_directory rows k
  of_names_is k = ap (λ list. record { nodes = node_count (range_with_len 0 (blocks_of_names list)); pages = blocks_of_names list }) (same_list (names_under rows k))

  directory_is : (k : ℕ) (v : Names) → map.get taken.directories k ≡ Some v → of_names v ≡ of_directory rows k
  directory_is k v e = ap of_names (value_then (list_any (λ other. other == k) (directory_inos base)) (names_from (names_under rows k)) v (sym (is.directories k) ∙ e)) ∙ of_names_is k

  total_nodes : (total_of taken).nodes ≡ (most_of base rows).nodes
  total_nodes =
      let files = total_is taken.files (regular_inos rows) files_apart files_same (λ b. b.nodes) (λ k. (greatest_of rows k).nodes) (λ k v e. ap (λ b. b.nodes) (file_is k v e)) in
      let dirs = total_is taken.directories (directory_inos base) directories_apart directories_same (λ v. (of_names v).nodes) (λ k. (of_directory rows k).nodes) (λ k v e. ap (λ b. b.nodes) (directory_is k v e)) in
      omega (arith, files, dirs, map_nodes (λ x. x) (map.values taken.files), ap (λ b. b.nodes) (files_are taken.files), map_nodes of_names (map.values taken.directories), sum_nodes (greatest_of rows) (regular_inos rows), sum_nodes (of_directory rows) (directory_inos base))

  total_pages : (total_of taken).pages ≡ (most_of base rows).pages
  total_pages =
      let files = total_is taken.files (regular_inos rows) files_apart files_same (λ b. b.pages) (λ k. (greatest_of rows k).pages) (λ k v e. ap (λ b. b.pages) (file_is k v e)) in
      let dirs = total_is taken.directories (directory_inos base) directories_apart directories_same (λ v. (of_names v).pages) (λ k. (of_directory rows k).pages) (λ k v e. ap (λ b. b.pages) (directory_is k v e)) in
      omega (arith, files, dirs, map_pages (λ x. x) (map.values taken.files), ap (λ b. b.pages) (files_are taken.files), map_pages of_names (map.values taken.directories), sum_pages (greatest_of rows) (regular_inos rows), sum_pages (of_directory rows) (directory_inos base))

pub count_is_the_most : CountIsTheMost
count_is_the_most base rows taken keyed is =
    let nodes = total_nodes base rows taken keyed is in
    let pages = total_pages base rows taken keyed is in
    λ i. record { nodes = nodes i; pages = pages i }
