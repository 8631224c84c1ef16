-- The nodes go with the pages: what each change of a page does to them.
use Rattle.std.proofs.Common.{◌≡◌, ℕ, ◌+◌, ◌<◌, ◌≤◌, Bool, true, false, ◌&&◌, ◌||◌, cond, T, List, [], ◌∷◌, length, Option, Some, None, is_some, nat_lt, refl, ap, sym, ◌∙◌, arith, inl, inr}
use Rattle.std.specs.Ordering.{nat_cmp, eq_by_cmp, is_lt}
use Rattle.std.specs.declared.cmp.Ordering.{Ordering}
use Rattle.std.specs.declared.cmp.Ordering.TheVariants.{Less, Equal, Greater}
use Rattle.std.specs.Prelude.{map as list_map}
use Rattle.std.proofs.lemmas.List.{length-map}
use Rattle.std.specs.Cmp.{nat_cmp_total, eq_by_cmp_equiv}
use Rattle.std.specs.List.{All, AllByRecursion}
use Rattle.std.specs.List.Sorted.{IsStrictlySortedBy}
use Rattle.std.specs.FinMap as map
use Rattle.std.specs.FinMap.Entries.{is_sorted, below_all}
use Rattle.std.specs.FinSet as set
use Rattle.std.proofs.lemmas.Bool.{cases_eq}
use Rattle.std.proofs.lemmas.Bool.Decides.{nat_tests}
use Rattle.std.proofs.lemmas.Map.Views.{All-from_any, length-le_from_below}
use Rattle.f2_format.specs.Offsets.{page_limit, direct_of}
use Rattle.f2_index.specs.Paged.{Paged, is_direct_of, pages_of, with_direct}
use Rattle.f2_index.specs.Nodes.{Nodes, AreNodesOf, counted, is_dirty, dirty_of, cleaned, cleaned_at, with_pages}
use Rattle.f2_index.specs.declared.nodes.Node.{Node}
use Rattle.f2_index.proofs.Tables.{same}
use Rattle.f2_index.proofs.Counts.{get-kept, len-kept-insert, contains-dirty_of, same_set}

-- a map with a key has a length
pub len_since : {X : Type 0} (m : map.FinMap nat_cmp X) (k : ℕ) → is_some (map.get m k) ≡ true → 0 < map.len m
len_since m k there =
    elim (cases_eq (map.len m) 0) [
      | inl none ↦
          let missed : is_some (map.get m k) ≡ false = ap (λ n. is_some (map.get n k)) (map.empty_of_len m none) ∙ ap is_some (map.get-empty nat_cmp k) in
          absurd (grind arith)
      | inr some ↦ omega arith
    ]

is_less : (o : Ordering) → T (is_lt o) → o ≡ Less
is_less Less h = refl
is_less Equal h = absurd h
is_less Greater h = absurd h

both_parts : (a b : Bool) → T (a && b) → T a × T b
both_parts true true h = (tt, tt)
both_parts true false h = absurd h
both_parts false b h = absurd h

less_each : {X : Type 0} (k : ℕ) (es : List (ℕ × X)) → T (below_all nat_cmp k es) → AllByRecursion (λ q. nat_cmp k q ≡ Less) (list_map (λ (e : ℕ × X). e.0) es)
less_each k [] h = tt
less_each k (e ∷ es) h =
    let parts = both_parts (is_lt (nat_cmp k e.0)) (below_all nat_cmp k es) h in
    (is_less (nat_cmp k e.0) parts.0, less_each k es parts.1)

pub strictly_sorted : {X : Type 0} (es : List (ℕ × X)) → T (is_sorted nat_cmp es) → IsStrictlySortedBy nat_cmp (list_map (λ (e : ℕ × X). e.0) es)
unfolding IsStrictlySortedBy
strictly_sorted [] h = tt
strictly_sorted (e ∷ es) h =
    let parts = both_parts (below_all nat_cmp e.0 es) (is_sorted nat_cmp es) h in
    (less_each e.0 es parts.0, strictly_sorted es parts.1)

-- a map on numbers below n has at most n keys
len_below : {X : Type 0} (m : map.FinMap nat_cmp X) (n : ℕ) → ((q : ℕ) → is_some (map.get m q) ≡ true → q < n) → map.len m ≤ n
len_below {X} m n below =
    let each : All (λ q. q < n) (map.keys m) =
    All-from_any (eq_by_cmp_equiv nat_cmp_total) (λ q. q < n) (map.keys m) (λ q has. below q (map.contains_key-keys m q ∙ has))
    in
    let short : length (map.keys m) ≤ n = length-le_from_below n (map.keys m) (strictly_sorted (map.entries m) (map.entries_sorted m)) each in
    omega (arith, map.len-entries m, length-map (map.entries m) (λ (e : ℕ × X). e.0))

module _ (pages : map.FinMap nat_cmp ℕ) (nodes : Nodes) (are : AreNodesOf pages nodes) where
  pub counted-le : (offset : ℕ) → counted (map.get nodes offset) ≤ page_limit
  counted-le offset =
      let short = len_below (pages_of pages offset) page_limit (λ q has. are.below q (of_kept q (is_direct_of offset (direct_of q)) (sym (ap is_some (get-kept pages (λ p. is_direct_of offset (direct_of p)) q)) ∙ has))) in
      omega (arith, are.counts offset)
    where
      of_kept : (q : ℕ) (b : Bool) → is_some (cond b (map.get pages q) None) ≡ true → is_some (map.get pages q) ≡ true
      of_kept q true h = h
      of_kept q false h = cc

  -- the direct node of a page is there
  pub node_of_page : (page offset : ℕ) → is_some (map.get pages page) ≡ true → direct_of page ≡ Some offset → is_some (map.get nodes offset) ≡ true
  node_of_page page offset there direct =
      let test : is_direct_of offset (direct_of page) ≡ true = ap (is_direct_of offset) direct ∙ grind (arith, nat_tests) in
      let kept : is_some (map.get (pages_of pages offset) page) ≡ true =
      ap is_some (get-kept pages (λ p. is_direct_of offset (direct_of p)) page ∙ ap (λ b. cond b (map.get pages page) None) test) ∙ there
      in
      let some = len_since (pages_of pages offset) page kept in
      are.present offset ∙ grind (arith, nat_tests)

counted_with : (nodes : Nodes) (o : Option ℕ) (more d : ℕ) → counted (map.get (with_pages nodes o more) d) ≡ cond (is_direct_of d o) (counted (map.get nodes d) + more) (counted (map.get nodes d))
counted_with nodes None more d = refl
counted_with nodes (Some e) more d =
    elim (cases_eq d e) [
      | inl same ↦ rw same (ap counted (map.get-insert nat_cmp_total nodes e _ e) ∙ grind (arith, nat_tests))
      | inr apart ↦ ap counted (map.get-insert nat_cmp_total nodes e _ d) ∙ grind (arith, nat_tests)
    ]

present_with : (nodes : Nodes) (o : Option ℕ) (more d : ℕ) → is_some (map.get (with_pages nodes o more) d) ≡ (is_direct_of d o || is_some (map.get nodes d))
present_with nodes None more d = refl
present_with nodes (Some e) more d = ap is_some (map.get-insert nat_cmp_total nodes e _ d) ∙ grind (arith, nat_tests)

dirty_with : (nodes : Nodes) (o : Option ℕ) (more d : ℕ) → is_dirty (map.get (with_pages nodes o more) d) ≡ (is_direct_of d o || is_dirty (map.get nodes d))
dirty_with nodes None more d = refl
dirty_with nodes (Some e) more d = ap is_dirty (map.get-insert nat_cmp_total nodes e _ d) ∙ grind (arith, nat_tests)

contains-with_direct : (dirty : set.FinSet nat_cmp) (o : Option ℕ) (d : ℕ) → set.contains (with_direct dirty o) d ≡ (is_direct_of d o || set.contains dirty d)
contains-with_direct dirty None d = refl
contains-with_direct dirty (Some e) d = set.contains-insert nat_cmp_total dirty e d ∙ grind (arith, nat_tests)

-- the dirty nodes, after a page's node became dirty
pub dirty_of-with_pages : (nodes : Nodes) (o : Option ℕ) (more : ℕ) → dirty_of (with_pages nodes o more) ≡ with_direct (dirty_of nodes) o
dirty_of-with_pages nodes o more = same_set _ _ (λ d.
    contains-dirty_of (with_pages nodes o more) d ∙ dirty_with nodes o more d
    ∙ sym (contains-with_direct (dirty_of nodes) o d ∙ ap (λ b. is_direct_of d o || b) (contains-dirty_of nodes d)))

abbrev pub test_of : ℕ → ℕ → Bool
test_of d page = is_direct_of d (direct_of page)

below_insert : (pages : map.FinMap nat_cmp ℕ) (page at : ℕ) → ((q : ℕ) → is_some (map.get pages q) ≡ true → q < page_limit) → page < page_limit → (q : ℕ) → is_some (map.get (map.insert pages page at) q) ≡ true → q < page_limit
below_insert pages page at below limit q there =
    elim (cases_eq q page) [
      | inl same ↦ omega arith
      | inr apart ↦
          let had : is_some (map.get pages q) ≡ true = grind (arith, nat_tests, ap is_some (map.get-insert nat_cmp_total pages page at q)) in
          below q had
    ]

module _ (pages : map.FinMap nat_cmp ℕ) (nodes : Nodes) (are : AreNodesOf pages nodes) (page at : ℕ) where
  -- a new page adds one to its node
  pub AreNodesOf-new : page < page_limit → map.get pages page ≡ None → AreNodesOf (map.insert pages page at) (with_pages nodes (direct_of page) 1)
  AreNodesOf-new limit new = record {
    below = below_insert pages page at are.below limit;
    counts = λ d.
        let missing : is_some (map.get pages page) ≡ false = ap is_some new in
        let long = len-kept-insert pages (test_of d) page at (test_of d page) refl in
        let had = are.counts d in
        counted_with nodes (direct_of page) 1 d ∙ grind arith;
    present = λ d.
        let missing : is_some (map.get pages page) ≡ false = ap is_some new in
        let long = len-kept-insert pages (test_of d) page at (test_of d page) refl in
        let had = are.present d in
        present_with nodes (direct_of page) 1 d ∙ grind (arith, nat_tests);
  }

  -- a page that is there leaves the counts
  pub AreNodesOf-there : is_some (map.get pages page) ≡ true → AreNodesOf (map.insert pages page at) (with_pages nodes (direct_of page) 0)
  AreNodesOf-there there = record {
    below = below_insert pages page at are.below (are.below page there);
    counts = λ d.
        let long = len-kept-insert pages (test_of d) page at (test_of d page) refl in
        let had = are.counts d in
        counted_with nodes (direct_of page) 0 d ∙ grind arith;
    present = λ d.
        let long = len-kept-insert pages (test_of d) page at (test_of d page) refl in
        let had = are.present d in
        let kept = get-kept pages (test_of d) page in
        let some = len_since (pages_of pages d) page in
        present_with nodes (direct_of page) 0 d ∙ grind (arith, nat_tests);
  }

module _ (pages : map.FinMap nat_cmp ℕ) (nodes : Nodes) (are : AreNodesOf pages nodes) (offset : ℕ) (node : Node) (there : map.get nodes offset ≡ Some node) where
  now_clean : Nodes
  now_clean = map.insert nodes offset (record { pages = node.pages; dirty = false })

  get-cleaned : (d : ℕ) → map.get now_clean d ≡ cond (eq_by_cmp nat_cmp d offset) (Some (record { pages = node.pages; dirty = false })) (map.get nodes d)
  unfolding now_clean
  get-cleaned d = map.get-insert nat_cmp_total nodes offset _ d

  counted_cleaned : (d : ℕ) → counted (map.get now_clean d) ≡ counted (map.get nodes d)
  counted_cleaned d =
      elim (cases_eq d offset) [
        | inl same ↦ rw same (ap counted (get-cleaned offset) ∙ grind (arith, nat_tests, ap counted there))
        | inr apart ↦ ap counted (get-cleaned d) ∙ grind (arith, nat_tests)
      ]

  present_cleaned : (d : ℕ) → is_some (map.get now_clean d) ≡ is_some (map.get nodes d)
  present_cleaned d =
      elim (cases_eq d offset) [
        | inl same ↦ rw same (ap is_some (get-cleaned offset) ∙ grind (arith, nat_tests, ap is_some there))
        | inr apart ↦ ap is_some (get-cleaned d) ∙ grind (arith, nat_tests)
      ]

  pub AreNodesOf-clean : AreNodesOf pages (map.insert nodes offset (record { pages = node.pages; dirty = false }))
  unfolding now_clean
  AreNodesOf-clean = record {
    below = are.below;
    counts = λ d. counted_cleaned d ∙ are.counts d;
    present = λ d. present_cleaned d ∙ are.present d;
  }

  pub dirty_of-clean : dirty_of (map.insert nodes offset (record { pages = node.pages; dirty = false })) ≡ set.remove (dirty_of nodes) offset
  unfolding now_clean
  dirty_of-clean = same_set _ _ (λ d.
      let was = contains-dirty_of nodes d in
      contains-dirty_of now_clean d ∙ ap is_dirty (get-cleaned d)
      ∙ sym (set.contains-remove nat_cmp_total (dirty_of nodes) offset d ∙ grind (arith, nat_tests)))

-- a node that isn't there is not dirty
pub dirty_of-absent : (nodes : Nodes) (offset : ℕ) → map.get nodes offset ≡ None → dirty_of nodes ≡ set.remove (dirty_of nodes) offset
dirty_of-absent nodes offset absent = same_set _ _ (λ d.
    sym (set.contains-remove nat_cmp_total (dirty_of nodes) offset d ∙ elim (cases_eq d offset) [
      | inl same ↦ rw same (let clean : set.contains (dirty_of nodes) offset ≡ false = contains-dirty_of nodes offset ∙ ap is_dirty absent in grind (arith, nat_tests))
      | inr apart ↦ grind (arith, nat_tests)
    ]))

pages_of-empty : (d : ℕ) → map.len (pages_of map.empty d) ≡ 0
pages_of-empty d =
    ap map.len (same _ map.empty (λ q. get-kept map.empty (test_of d) q ∙ ap (λ o. cond (test_of d q) o None) (map.get-empty nat_cmp q) ∙ either (test_of d q) ∙ sym (map.get-empty nat_cmp q)))
    ∙ map.len-empty nat_cmp ℕ
  where
    either : (b : Bool) → cond {A = Option ℕ} b None None ≡ None
    either true = refl
    either false = refl

pub AreNodesOf-empty : AreNodesOf map.empty map.empty
AreNodesOf-empty = record {
  below = λ q there.
      let missing : is_some (map.get {X = ℕ} {R = nat_cmp} map.empty q) ≡ false = ap is_some (map.get-empty nat_cmp q) in
      absurd (grind arith);
  counts = λ d. ap counted (map.get-empty nat_cmp d) ∙ sym (pages_of-empty d);
  present = λ d. ap is_some (map.get-empty nat_cmp d) ∙ sym (ap (nat_lt 0) (pages_of-empty d));
}

pub dirty_of-empty : dirty_of map.empty ≡ set.empty
dirty_of-empty = same_set _ _ (λ d.
    contains-dirty_of map.empty d ∙ ap is_dirty (map.get-empty nat_cmp d) ∙ sym (set.contains-empty nat_cmp d))

-- what an index shows of these pages and nodes
abbrev pub shown : map.FinMap nat_cmp ℕ → set.FinSet nat_cmp → Paged
shown pages dirty = record { pages = pages; dirty = dirty }

pub same_shown : {p q : map.FinMap nat_cmp ℕ} {d e : set.FinSet nat_cmp} → p ≡ q → d ≡ e → shown p d ≡ shown q e
same_shown same_pages same_dirty = λ i. shown (same_pages i) (same_dirty i)

-- a direct node that is made clean
module _ (pages : map.FinMap nat_cmp ℕ) (nodes : Nodes) (are : AreNodesOf pages nodes) (offset : ℕ) where
  pub AreNodesOf-cleaned : AreNodesOf pages (cleaned nodes offset)
  AreNodesOf-cleaned = by (map.get nodes offset) refl
    where
      by : (o : Option Node) → map.get nodes offset ≡ o → AreNodesOf pages (cleaned_at nodes offset o)
      by None e = are
      by (Some node) e = AreNodesOf-clean pages nodes are offset node e

  pub dirty_of-cleaned : dirty_of (cleaned nodes offset) ≡ set.remove (dirty_of nodes) offset
  dirty_of-cleaned = by (map.get nodes offset) refl
    where
      by : (o : Option Node) → map.get nodes offset ≡ o → dirty_of (cleaned_at nodes offset o) ≡ set.remove (dirty_of nodes) offset
      by None e = dirty_of-absent nodes offset e
      by (Some node) e = dirty_of-clean pages nodes are offset node e
