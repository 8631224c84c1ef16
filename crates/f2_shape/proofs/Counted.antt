-- Along rising pages the number of a file's nodes grows by the places at which the way changes.
use Rattle.std.proofs.Common.{◌≡◌, ◌≢◌, ℕ, ◌+◌, ◌<◌, ◌≤◌, true, false, not, ◌||◌, ◌==◌, List, [], ◌∷◌, ◌++◌, ap, sym, ◌∙◌, arith, append-nil, zip, count_by, take, get_or, length, ◌*◌, zero, suc, add-one, subst}
use Rattle.std.specs.List.{list_any, flat_map}
use Rattle.std.specs.Ordering.{nat_cmp, eq_by_cmp}
use Rattle.std.specs.Cmp.{nat_cmp_total}
use Rattle.std.specs.List.Sorted.{IsStrictlyIncreasing}
use Rattle.std.specs.FinSet as set
use Rattle.std.specs.FinSet.{members, nat_cmp-IsAntisymmetric}
use Rattle.std.proofs.lemmas.Bool.Decides.{nat_tests}
use Rattle.std.proofs.lemmas.List.Concat.{flat_map-append}
use Rattle.std.proofs.lemmas.List.{take_more}
use Rattle.std.proofs.lemmas.List.Folds.{list_any-append}
use Rattle.f2_format.specs.Offsets.{page_limit, nodes_of_page, nodes_over, node_count}
use Rattle.f2_shape.proofs.Places.{top, middle, bottom, top-zero, middle-zero, bottom-zero, top-le, middle-le, bottom-le, top-middle, top-bottom, middle-bottom, way_of, any_of_way}

-- the set with the page's nodes, and the inode where a place is not used
abbrev with_places : set.FinSet nat_cmp → ℕ → set.FinSet nat_cmp
with_places nodes p = set.insert (set.insert (set.insert nodes (top p)) (middle p)) (bottom p)

contains-nodes_over : (ps : List ℕ) (n : ℕ) → set.contains (nodes_over ps) n ≡ (eq_by_cmp nat_cmp n 0 || list_any (eq_by_cmp nat_cmp n) (flat_map nodes_of_page ps))
unfolding nodes_over
contains-nodes_over ps n = set.contains-from_list nat_cmp_total (0 ∷ flat_map nodes_of_page ps) n

contains-with_places : (nodes : set.FinSet nat_cmp) (p n : ℕ) → set.contains (with_places nodes p) n ≡ (eq_by_cmp nat_cmp n (bottom p) || (eq_by_cmp nat_cmp n (middle p) || (eq_by_cmp nat_cmp n (top p) || set.contains nodes n)))
contains-with_places nodes p n = simp (set.contains-insert nat_cmp_total)

pages_with : (ps : List ℕ) (p : ℕ) → flat_map nodes_of_page (ps ++ p ∷ []) ≡ flat_map nodes_of_page ps ++ nodes_of_page p
pages_with ps p = flat_map-append nodes_of_page ps (p ∷ []) ∙ ap (λ xs. flat_map nodes_of_page ps ++ xs) (append-nil (nodes_of_page p))

-- one more page adds its nodes
nodes_over-push : (ps : List ℕ) (p : ℕ) → p < page_limit → nodes_over (ps ++ p ∷ []) ≡ with_places (nodes_over ps) p
nodes_over-push ps p below =
    set.same_set nat_cmp_total nat_cmp-IsAntisymmetric _ _ (λ n.
    let test = eq_by_cmp nat_cmp n in
    let both = contains-nodes_over (ps ++ p ∷ []) n ∙ ap (λ xs. test 0 || list_any test xs) (pages_with ps p) in
    let split = ap (λ b. test 0 || b) (list_any-append test (flat_map nodes_of_page ps) (nodes_of_page p)) in
    let moved = any_of_way (way_of p below) test (list_any test (flat_map nodes_of_page ps)) in
    let before = ap (λ b. test (bottom p) || (test (middle p) || (test (top p) || b))) (sym (contains-nodes_over ps n)) in
    both ∙ split ∙ moved ∙ before ∙ sym (contains-with_places (nodes_over ps) p n))

-- the set has the nodes of the way to q, and of a later way those that are q's alone
pub record Reaches (nodes : set.FinSet nat_cmp) (q : ℕ) : Type 0 where
  pub has_top : set.contains nodes (top q) ≡ true
  pub has_middle : set.contains nodes (middle q) ≡ true
  pub has_bottom : set.contains nodes (bottom q) ≡ true
  pub new_top : (p : ℕ) → q ≤ p → top q ≢ top p → set.contains nodes (top p) ≡ false
  pub new_middle : (p : ℕ) → q ≤ p → middle q ≢ middle p → set.contains nodes (middle p) ≡ false
  pub new_bottom : (p : ℕ) → q ≤ p → bottom q ≢ bottom p → set.contains nodes (bottom p) ≡ false

module _ (nodes : set.FinSet nat_cmp) (q p : ℕ) (before : Reaches nodes q) (order : q ≤ p) where
  top_of_later : (r : ℕ) → p ≤ r → top p ≢ top r → set.contains (with_places nodes p) (top r) ≡ false
  top_of_later r later other =
      let rises = top-le p r later in
      let rose = top-le q p order in
      let old = before.new_top r in
      let no_middle = top-middle r p in
      let no_bottom = top-bottom r p in
      rw contains-with_places (grind (arith, nat_tests))

  middle_of_later : (r : ℕ) → p ≤ r → middle p ≢ middle r → set.contains (with_places nodes p) (middle r) ≡ false
  middle_of_later r later other =
      let rises = middle-le p r later in
      let rose = middle-le q p order in
      let old = before.new_middle r in
      let no_top = top-middle p r in
      let no_bottom = middle-bottom r p in
      rw contains-with_places (grind (arith, nat_tests))

  bottom_of_later : (r : ℕ) → p ≤ r → bottom p ≢ bottom r → set.contains (with_places nodes p) (bottom r) ≡ false
  bottom_of_later r later other =
      let rises = bottom-le p r later in
      let rose = bottom-le q p order in
      let old = before.new_bottom r in
      let no_top = top-bottom p r in
      let no_middle = middle-bottom p r in
      rw contains-with_places (grind (arith, nat_tests))

  Reaches-push : Reaches (with_places nodes p) p
  Reaches-push = record {
    has_top = rw contains-with_places (grind (arith, nat_tests));
    has_middle = rw contains-with_places (grind (arith, nat_tests));
    has_bottom = rw contains-with_places (grind (arith, nat_tests));
    new_top = top_of_later;
    new_middle = middle_of_later;
    new_bottom = bottom_of_later;
  }

  had_top : set.contains nodes (top p) ≡ (top q == top p)
  had_top = let has = before.has_top in let new = before.new_top p order in grind (arith, nat_tests)

  had_middle : set.contains nodes (middle p) ≡ (middle q == middle p)
  had_middle = let has = before.has_middle in let new = before.new_middle p order in grind (arith, nat_tests)

  had_bottom : set.contains nodes (bottom p) ≡ (bottom q == bottom p)
  had_bottom = let has = before.has_bottom in let new = before.new_bottom p order in grind (arith, nat_tests)

  len-with_places : set.len (with_places nodes p) ≡ set.len nodes + count_by (λ (old, new). not (old == new)) (zip (0 ∷ top q ∷ middle q ∷ bottom q ∷ []) (0 ∷ top p ∷ middle p ∷ bottom p ∷ []))
  len-with_places =
      let tops = top-le q p order in
      let middles = middle-le q p order in
      let bottoms = bottom-le q p order in
      let no_middle = top-middle p p in
      let no_bottom = top-bottom p p in
      let apart = middle-bottom p p in
      simp (set.len-insert nat_cmp_total, set.contains-insert nat_cmp_total) (grind (arith, nat_tests, had_top, had_middle, had_bottom))

-- the page before this place of the list, and page 0 before the first
abbrev pub previous : List ℕ → ℕ → ℕ
previous pages i = get_or (0 ∷ pages) i 0

-- the nodes on a page's way, the inode's first
abbrev pub way_to : ℕ → List ℕ
way_to p = 0 ∷ top p ∷ middle p ∷ bottom p ∷ []

-- at how many places two ways differ
abbrev pub changes : List ℕ → List ℕ → ℕ
changes old new = count_by (λ (a, b). not (a == b)) (zip old new)

-- the first pages are counted, and this was the way to the last of them
pub record CountedTo (pages : List ℕ) (i count : ℕ) (before : List ℕ) : Type 0 where
  pub total : count ≡ node_count (take i pages)
  pub way : before ≡ way_to (previous pages i)
  pub reached : Reaches (nodes_over (take i pages)) (previous pages i)
  pub paced : i ≤ previous pages i + 1
  pub bounded : count ≤ 1 + 3 * i

no_page : (n : ℕ) → n ≡ 0 → set.contains (nodes_over []) n ≡ true
no_page n e = rw contains-nodes_over (grind (arith, nat_tests))

no_page_has : (n : ℕ) → n ≢ 0 → set.contains (nodes_over []) n ≡ false
no_page_has n e = rw contains-nodes_over (grind (arith, nat_tests))

len-no_page : set.len (nodes_over []) ≡ 1
unfolding nodes_over
len-no_page = grind (arith, members)

pub CountedTo-none : (pages : List ℕ) → CountedTo pages 0 1 (0 ∷ 0 ∷ 0 ∷ 0 ∷ [])
CountedTo-none pages = record {
  total = sym len-no_page;
  way = λ i. 0 ∷ sym top-zero i ∷ sym middle-zero i ∷ sym bottom-zero i ∷ [];
  reached = record {
    has_top = no_page (top 0) top-zero;
    has_middle = no_page (middle 0) middle-zero;
    has_bottom = no_page (bottom 0) bottom-zero;
    new_top = λ p _ other. no_page_has (top p) (λ e. other (top-zero ∙ sym e));
    new_middle = λ p _ other. no_page_has (middle p) (λ e. other (middle-zero ∙ sym e));
    new_bottom = λ p _ other. no_page_has (bottom p) (λ e. other (bottom-zero ∙ sym e));
  };
  paced = omega arith;
  bounded = omega arith;
}

rose : (pages : List ℕ) (i : ℕ) → IsStrictlyIncreasing pages → i < length pages → previous pages i ≤ get_or pages i 0
rose pages zero rising within = omega arith
rose pages (suc j) rising within =
    let step = rw add-one at (rising j (omega arith)) in
    omega arith

paces : (pages : List ℕ) (i : ℕ) → IsStrictlyIncreasing pages → i < length pages → i ≤ previous pages i + 1 → i ≤ get_or pages i 0
paces pages zero rising within pace = omega arith
paces pages (suc j) rising within pace =
    let step = rw add-one at (rising j (omega arith)) in
    omega arith

at_most_three : (old new : List ℕ) (p q : ℕ) → old ≡ way_to p → new ≡ way_to q → changes old new ≤ 3
at_most_three old new p q e f = rw (e, f) (grind (arith, nat_tests))

pub CountedTo-more : (pages : List ℕ) (i count : ℕ) (before after : List ℕ) → CountedTo pages i count before → i < length pages → IsStrictlyIncreasing pages → get_or pages i 0 < page_limit → after ≡ way_to (get_or pages i 0) → CountedTo pages (i + 1) (count + changes before after) after
CountedTo-more pages i count before after counted within rising below is =
    let q = previous pages i in
    let p = get_or pages i 0 in
    let order : q ≤ p = rose pages i rising within in
    let seen : nodes_over (take (i + 1) pages) ≡ with_places (nodes_over (take i pages)) p =
    ap nodes_over (take_more pages i 0 within) ∙ nodes_over-push (take i pages) p below
    in
    let now : previous pages (i + 1) ≡ p = ap (λ k. get_or (0 ∷ pages) k 0) (add-one i) in
    let more : changes before after ≡ changes (way_to q) (way_to p) = λ j. changes (counted.way j) (is j) in
    let few = at_most_three before after q p counted.way is in
    record {
      total = (λ j. counted.total j + more j) ∙ sym (ap set.len seen ∙ len-with_places (nodes_over (take i pages)) q p counted.reached order);
      way = is ∙ ap way_to (sym now);
      reached = subst (λ nodes. Reaches nodes (previous pages (i + 1))) (sym seen) (subst (Reaches _) (sym now) (Reaches-push (nodes_over (take i pages)) q p counted.reached order));
      paced = rw now (let pace : i ≤ p = paces pages i rising within counted.paced in omega arith);
      bounded = let old = counted.bounded in omega arith;
    }
