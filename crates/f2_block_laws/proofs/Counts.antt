-- How many nodes and pages a tree has, counted row by row.
use Rattle.std.proofs.Common.{◌≡◌, ◌≢◌, ◌⊎◌, inl, inr, ℕ, zero, suc, ◌+◌, ◌≤◌, ◌==◌, Bool, true, false, cond, List, [], ◌∷◌, ◌++◌, length, map as map_list, refl, sym, ap, ◌∙◌, subst, arith}
use Rattle.std.specs.Prelude.{Option, Some, None, IsSome}
use Rattle.std.specs.List.{filter, flat_map, range_with_len, sum_by}
use Rattle.std.specs.Cmp.{nat_cmp_total}
use Rattle.std.specs.FinMap as map
use Rattle.std.proofs.lemmas.Bool.{eq-eqb, eqb-true}
use Rattle.std.proofs.lemmas.List.{length-map, length-append}
use Rattle.std.proofs.lemmas.List.FromFn.{length-range_with_len}
use Rattle.std.proofs.lemmas.List.Sums.{sum_by-cons}
use Rattle.f2_format.specs.Offsets.{nodes_over, node_count}
use Rattle.f2_model.specs.Tree.{Rows}
use Rattle.f2_model.specs.Count.{dentry_blocks, page_numbers, nodes_of_row, data_of_kind, data_of_row, nodes_of_tree, data_of_tree}
use Rattle.f2_model.specs.declared.rows.Row.{Row}
use Rattle.f2_model.specs.declared.rows.Kind.{Kind}
use Rattle.f2_model.specs.declared.rows.Kind.TheVariants.{Regular, Directory}
use Rattle.f2_image.specs.Reached.{AllDiffer}
use Rattle.f2_stored.specs.Places.{Places}
use Rattle.f2_block_laws.specs.Whole.{HasNodesOver, AreWhole, nodes_at}
use Rattle.f2_block_laws.proofs.Members.{IsIn, in_map, from_map, in_flat_map, from_flat_map, in_filter, from_filter, in_either, from_contains, contains_in, of_all, all_from}
use Rattle.f2_block_laws.proofs.Differ.{no_more}
use Rattle.f2_block_laws.proofs.Sets.{once_each, in_once, from_once, once_differ, length-once}
use Rattle.f2_block_laws.proofs.Keys.{keys_differ, from_keys, key_of, pair_cmp_total, pair_cmp_equal}
use Rattle.f2_block_laws.proofs.Values.{entry_in, entry_found}
use Rattle.f2_block_laws.proofs.Ways.{offsets_of, in_over, over_in}

-- lists of the same things, each once, are as long
same_length : {X : Type 0} (xs ys : List X) → AllDiffer xs → AllDiffer ys → ((x : X) → IsIn x xs → IsIn x ys) → ((x : X) → IsIn x ys → IsIn x xs) → length xs ≡ length ys
same_length xs ys one other there back =
    let few = no_more xs ys one (all_from (λ x. IsIn x ys) xs there) in
    let many = no_more ys xs other (all_from (λ x. IsIn x xs) ys back) in
    omega (arith, few, many)

differ_filter : {X : Type 0} (p : X → Bool) (xs : List X) → AllDiffer xs → AllDiffer (filter p xs)
differ_filter p [] differ = tt
differ_filter p (x ∷ xs) differ = by_test (differ_filter p xs differ.1) (p x)
  where
    by_test : AllDiffer (filter p xs) → (b : Bool) → AllDiffer (cond b (x ∷ filter p xs) (filter p xs))
    by_test rest true = (all_from (λ y. x ≢ y) (filter p xs) (λ y there. of_all (λ z. x ≢ z) y xs differ.0 (from_filter p y xs there).1), rest)
    by_test rest false = rest

differ_append : {X : Type 0} (xs ys : List X) → AllDiffer xs → AllDiffer ys → ((x y : X) → IsIn x xs → IsIn y ys → x ≢ y) → AllDiffer (xs ++ ys)
differ_append [] ys one other apart = other
differ_append (x ∷ xs) ys one other apart =
    (all_from (λ y. x ≢ y) (xs ++ ys) (λ y there. by_part y (in_either y xs ys there)), differ_append xs ys one.1 other (λ y z here there. apart y z (inr here) there))
  where
    by_part : (y : _) → IsIn y xs ⊎ IsIn y ys → x ≢ y
    by_part y (inl here) = of_all (λ z. x ≢ z) y xs one.0 here
    by_part y (inr there) = apart x y (inl refl) there

-- the pairs of a number with each of some others
abbrev pub with_first : ℕ → List ℕ → List (ℕ × ℕ)
with_first k ns = map_list (λ (n : ℕ). (k, n)) ns

differ_with : (k : ℕ) (ns : List ℕ) → AllDiffer ns → AllDiffer (with_first k ns)
differ_with k [] differ = tt
differ_with k (n ∷ ns) differ = (
  all_from (λ (y : ℕ × ℕ). (k, n) ≢ y) (with_first k ns) (λ y there same.
      let made = from_map (λ (m : ℕ). (k, m)) y ns there in
      of_all (λ m. n ≢ m) made.0 ns differ.0 made.1 (ap (λ (q : ℕ × ℕ). q.1) (same ∙ sym made.2))),
  differ_with k ns differ.1,
)

module _ {X : Type 0} (numbers : ℕ × X → List ℕ) where
  -- the pairs of each key with the numbers of its entry
  abbrev pub pairs_of : List (ℕ × X) → List (ℕ × ℕ)
  pairs_of es = flat_map (λ (e : ℕ × X). with_first e.0 (numbers e)) es

  differ_pairs : ((e : ℕ × X) → AllDiffer (numbers e)) → (es : List (ℕ × X)) → AllDiffer (map_list (λ (e : ℕ × X). e.0) es) → AllDiffer (pairs_of es)
  differ_pairs each [] differ = tt
  differ_pairs each (e ∷ es) differ =
      differ_append (with_first e.0 (numbers e)) (pairs_of es) (differ_with e.0 (numbers e) (each e)) (differ_pairs each es differ.1) (λ x y here there same.
      let one = from_map (λ (n : ℕ). (e.0, n)) x (numbers e) here in
      let other = from_flat_map (λ (d : ℕ × X). with_first d.0 (numbers d)) y es there in
      let more = from_map (λ (n : ℕ). (other.0.0, n)) y (numbers other.0) other.2 in
      of_all (λ k. e.0 ≢ k) other.0.0 (map_list (λ (d : ℕ × X). d.0) es) differ.0 (in_map (λ (d : ℕ × X). d.0) other.0 es other.1)
      (ap (λ (q : ℕ × ℕ). q.0) (one.2 ∙ same ∙ sym more.2)))

  pub length-pairs : (count : X → ℕ) → ((e : ℕ × X) → length (numbers e) ≡ count e.1) → (es : List (ℕ × X)) → length (pairs_of es) ≡ sum_by count (map_list (λ (e : ℕ × X). e.1) es)
  length-pairs count each [] = refl
  length-pairs count each (e ∷ es) =
      let rest = length-pairs count each es in
      let own = each e in
      let paired = length-map {B = ℕ × ℕ} (numbers e) (λ (n : ℕ). (e.0, n)) in
      let both = length-append (with_first e.0 (numbers e)) (pairs_of es) in
      let sum = sum_by-cons count e.1 (map_list (λ (d : ℕ × X). d.1) es) in
      omega (arith, rest, own, paired, both, sum)

-- something is found
some_is : {X : Type 0} (o : Option X) → IsSome o → (x : X) × (o ≡ Some x)
some_is None there = absurd (cc)
some_is (Some x) there = (x, refl)

is_found : {X : Type 0} (o : Option X) (x : X) → o ≡ Some x → IsSome o
is_found None x is = absurd (cc)
is_found (Some y) x is = refl

length-keys : {X : Type 0} {K : Type 0} {R : K → K → _} (m : map.FinMap R X) → length (map.keys m) ≡ map.len m
length-keys {X} {K} m = length-map (map.entries m) (λ (e : K × X). e.0) ∙ sym (map.len-entries m)

-- the offsets of the nodes of a file with some pages, each once
abbrev pub offsets : List ℕ → List ℕ
offsets pages = once_each (offsets_of pages)

pub length-offsets : (pages : List ℕ) → length (offsets pages) ≡ node_count pages
unfolding nodes_over
length-offsets pages = length-once (offsets_of pages)

module _ (places : Places) (ino : ℕ) (pages : List ℕ) (has : HasNodesOver places ino pages) where
  offset_of : (offset : ℕ) → IsSome (map.get places.nodes (ino, offset)) → IsIn offset (offsets pages)
  offset_of offset there = in_once offset (offsets_of pages) (in_over pages offset ((has offset).0 there))

  node_of : (offset : ℕ) → IsIn offset (offsets pages) → IsSome (map.get places.nodes (ino, offset))
  node_of offset there = (has offset).1 (over_in pages offset (from_once offset (offsets_of pages) there))

  to_offset : (at : ℕ × ℕ) → IsIn at (nodes_at places ino) → IsIn at (with_first ino (offsets pages))
  to_offset at there =
      let kept = from_filter (λ (q : ℕ × ℕ). q.0 == ino) at (map.keys places.nodes) there in
      let own : at.0 ≡ ino = eqb-true at.0 ino kept.0 in
      let same : at ≡ (ino, at.1) = λ i. (own i, at.1) in
      let found = subst (λ q. IsSome (map.get places.nodes q)) same (from_keys pair_cmp_total places.nodes at kept.1) in
      subst (λ q. IsIn q (with_first ino (offsets pages))) (sym same) (in_map (λ (n : ℕ). (ino, n)) at.1 (offsets pages) (offset_of at.1 found))

  from_offset : (at : ℕ × ℕ) → IsIn at (with_first ino (offsets pages)) → IsIn at (nodes_at places ino)
  from_offset at there =
      let made = from_map (λ (n : ℕ). (ino, n)) at (offsets pages) there in
      let key = key_of pair_cmp_equal places.nodes (ino, made.0) (node_of made.0 made.1) in
      subst (λ q. IsIn q (nodes_at places ino)) made.2 (in_filter (λ (q : ℕ × ℕ). q.0 == ino) (ino, made.0) (map.keys places.nodes) (eq-eqb ino ino refl) key)

  pub nodes_counted : length (nodes_at places ino) ≡ node_count pages
  nodes_counted =
      same_length (nodes_at places ino) (with_first ino (offsets pages)) (differ_filter (λ (q : ℕ × ℕ). q.0 == ino) (map.keys places.nodes) (keys_differ pair_cmp_total places.nodes))
      (differ_with ino (offsets pages) (once_differ (offsets_of pages))) to_offset from_offset
      ∙ length-map {B = ℕ × ℕ} (offsets pages) (λ (n : ℕ). (ino, n)) ∙ length-offsets pages

-- the page numbers of a row, each once, and how many they are
range_above : (a n m : ℕ) → IsIn m (range_with_len a n) → a ≤ m
range_above a zero m h = absurd h
range_above a (suc n) m (inl e) = omega arith
range_above a (suc n) m (inr h) = let rest = range_above (a + 1) n m h in omega (arith, rest)

range_differ : (a n : ℕ) → AllDiffer (range_with_len a n)
range_differ a zero = tt
range_differ a (suc n) = (all_from (λ m. a ≢ m) (range_with_len (a + 1) n) (λ m there same. let above = range_above (a + 1) n m there in omega (arith, above, same)), range_differ (a + 1) n)

pages_differ : (kind : Kind) (rows : List Row) (row : Row) → AllDiffer (page_numbers kind rows row)
pages_differ Regular rows row = keys_differ nat_cmp_total row.pages
pages_differ Directory rows row = range_differ 0 (dentry_blocks rows row.ino)

pub length-pages : (kind : Kind) (rows : List Row) (row : Row) → length (page_numbers kind rows row) ≡ data_of_kind kind rows row
length-pages Regular rows row = length-keys row.pages
length-pages Directory rows row = length-range_with_len 0 (dentry_blocks rows row.ino)

module _ (tree : Rows) (places : Places) (whole : AreWhole tree places) where
  abbrev row_pages : ℕ × Row → List ℕ
  row_pages e = page_numbers e.1.kind (map.values tree) e.1

  abbrev row_offsets : ℕ × Row → List ℕ
  row_offsets e = offsets (row_pages e)

  tree_nodes : map.len places.nodes ≡ nodes_of_tree tree
  tree_nodes =
      sym (length-keys places.nodes)
      ∙ same_length (map.keys places.nodes) (pairs_of row_offsets (map.entries tree)) (keys_differ pair_cmp_total places.nodes)
      (differ_pairs row_offsets (λ e. once_differ (offsets_of (row_pages e))) (map.entries tree) (keys_differ nat_cmp_total tree)) there back
      ∙ length-pairs row_offsets (nodes_of_row (map.values tree)) (λ e. length-offsets (row_pages e)) (map.entries tree)
    where
      there : (at : ℕ × ℕ) → IsIn at (map.keys places.nodes) → IsIn at (pairs_of row_offsets (map.entries tree))
      there at key =
          let found = from_keys pair_cmp_total places.nodes at key in
          let row = some_is (map.get tree at.0) (whole.only_nodes at.0 at.1 found) in
          let offset = offset_of places at.0 (row_pages (at.0, row.0)) (whole.nodes at.0 row.0 row.1) at.1 found in
          in_flat_map (λ (e : ℕ × Row). with_first e.0 (row_offsets e)) (at.0, row.0) at (map.entries tree) (entry_in tree at.0 row.0 row.1) (in_map (λ (n : ℕ). (at.0, n)) at.1 (row_offsets (at.0, row.0)) offset)

      back : (at : ℕ × ℕ) → IsIn at (pairs_of row_offsets (map.entries tree)) → IsIn at (map.keys places.nodes)
      back at key =
          let entry = from_flat_map (λ (e : ℕ × Row). with_first e.0 (row_offsets e)) at (map.entries tree) key in
          let made = from_map (λ (n : ℕ). (entry.0.0, n)) at (row_offsets entry.0) entry.2 in
          let row = entry_found tree entry.0 entry.1 in
          let found = node_of places entry.0.0 (row_pages entry.0) (whole.nodes entry.0.0 entry.0.1 row) made.0 made.1 in
          subst (λ q. IsIn q (map.keys places.nodes)) made.2 (key_of pair_cmp_equal places.nodes (entry.0.0, made.0) found)

  tree_pages : map.len places.pages ≡ data_of_tree tree
  tree_pages =
      sym (length-keys places.pages)
      ∙ same_length (map.keys places.pages) (pairs_of row_pages (map.entries tree)) (keys_differ pair_cmp_total places.pages)
      (differ_pairs row_pages (λ e. pages_differ e.1.kind (map.values tree) e.1) (map.entries tree) (keys_differ nat_cmp_total tree)) there back
      ∙ length-pairs row_pages (data_of_row (map.values tree)) (λ e. length-pages e.1.kind (map.values tree) e.1) (map.entries tree)
    where
      there : (at : ℕ × ℕ) → IsIn at (map.keys places.pages) → IsIn at (pairs_of row_pages (map.entries tree))
      there at key =
          let found = from_keys pair_cmp_total places.pages at key in
          let row = some_is (map.get tree at.0) (whole.only_pages at.0 at.1 found) in
          let page = from_contains (row_pages (at.0, row.0)) at.1 ((whole.pages at.0 row.0 row.1 at.1).0 found) in
          in_flat_map (λ (e : ℕ × Row). with_first e.0 (row_pages e)) (at.0, row.0) at (map.entries tree) (entry_in tree at.0 row.0 row.1) (in_map (λ (n : ℕ). (at.0, n)) at.1 (row_pages (at.0, row.0)) page)

      back : (at : ℕ × ℕ) → IsIn at (pairs_of row_pages (map.entries tree)) → IsIn at (map.keys places.pages)
      back at key =
          let entry = from_flat_map (λ (e : ℕ × Row). with_first e.0 (row_pages e)) at (map.entries tree) key in
          let made = from_map (λ (n : ℕ). (entry.0.0, n)) at (row_pages entry.0) entry.2 in
          let row = entry_found tree entry.0 entry.1 in
          let found = (whole.pages entry.0.0 entry.0.1 row made.0).1 (contains_in (row_pages entry.0) made.0 made.1) in
          subst (λ q. IsIn q (map.keys places.pages)) made.2 (key_of pair_cmp_equal places.pages (entry.0.0, made.0) found)

  pub tree_counted : (map.len places.nodes ≡ nodes_of_tree tree) × (map.len places.pages ≡ data_of_tree tree)
  tree_counted = (tree_nodes, tree_pages)
