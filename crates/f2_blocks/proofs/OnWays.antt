-- Which nodes a file has: those on the ways of its pages.
use Rattle.std.proofs.Common.{◌≡◌, ◌≢◌, ℕ, ◌+◌, ◌-◌, ◌*◌, ◌%◌, ◌<◌, Bool, true, false, ◌||◌, List, [], ◌∷◌, Some, refl, ap, sym, subst, ◌∙◌, inl, inr, arith, is_some, IsSome, cond}
use Rattle.std.specs.List.{list_any, flat_map}
use Rattle.std.specs.Ordering.{nat_cmp, eq_by_cmp}
use Rattle.std.specs.Cmp.{nat_cmp_total}
use Rattle.std.specs.FinMap as map
use Rattle.std.specs.FinSet as set
use Rattle.std.proofs.lemmas.Bool.{cases_eq, or_cases}
use Rattle.std.proofs.lemmas.Nat.{mod-mul-add}
use Rattle.std.proofs.lemmas.Bool.Decides.{nat_tests}
use Rattle.std.proofs.lemmas.List.Folds.{list_any-append}
use Rattle.f2_format.specs.Offsets.{node_slots, direct_of, direct_slot, nodes_above, nodes_down_to, nodes_of_page, nodes_over}
use Rattle.f2_index.specs.Paged.{nodes_of_pages}
use Rattle.f2_index.proofs.Cuts.{or_left, or_right}
use Rattle.f2_blocks.specs.Blocks.{Numbered, HaveNids}
use Rattle.f2_blocks.specs.Tree.{has_nids, node_at, first_page_of, node_limit}
use Rattle.f2_blocks.proofs.Shape.{IsAbove, way_of, is_above, in_slot, direct_of-slot, node_at-other, on_way}
use Rattle.f2_blocks.proofs.Shape.{none, one, first, second, double, below}

-- one of some nodes
abbrev is_in : ℕ → List ℕ → Bool
is_in n nodes = list_any (eq_by_cmp nat_cmp n) nodes

in_one : (n a : ℕ) → is_in n (a ∷ []) ≡ true → n ≡ a
in_one n a h = grind (arith, nat_tests)

in_two : (n a b : ℕ) → is_in n (a ∷ b ∷ []) ≡ true → n ≢ b → n ≡ a
in_two n a b h other = grind (arith, nat_tests)

in_three : (n a b c : ℕ) → is_in n (a ∷ b ∷ c ∷ []) ≡ true → n ≢ a → n ≢ c → n ≡ b
in_three n a b c h other another = grind (arith, nat_tests)

has_last_of_two : (n a b : ℕ) → n ≡ b → is_in n (a ∷ b ∷ []) ≡ true
has_last_of_two n a b e = grind (arith, nat_tests)

has_first_of_two : (n a b : ℕ) → n ≡ a → is_in n (a ∷ b ∷ []) ≡ true
has_first_of_two n a b e = grind (arith, nat_tests)

has_first_of_three : (n a b c : ℕ) → n ≡ a → is_in n (a ∷ b ∷ c ∷ []) ≡ true
has_first_of_three n a b c e = grind (arith, nat_tests)

has_middle_of_three : (n a b c : ℕ) → n ≡ b → is_in n (a ∷ b ∷ c ∷ []) ≡ true
has_middle_of_three n a b c e = grind (arith, nat_tests)

has_last_of_three : (n a b c : ℕ) → n ≡ c → is_in n (a ∷ b ∷ c ∷ []) ≡ true
has_last_of_three n a b c e = grind (arith, nat_tests)

-- the lists of a way, with a node in the slot of another
parent_one : (k n slot : ℕ) → k < 2 → IsAbove n → is_in (node_at n slot) ((1 + k) ∷ []) ≡ true → ⊥
parent_one k n slot low above h =
    let same = in_one (node_at n slot) (1 + k) h in
    elim above [
      | first e at ↦ omega (arith, at slot)
      | second e at ↦ omega (arith, at slot)
      | double e at ↦ omega (arith, at slot)
      | below x e at ↦ omega (arith, at slot)
    ]

parent_first : (s n slot : ℕ) → s < 1018 → IsAbove n → is_in (node_at n slot) (3 ∷ (4 + s) ∷ []) ≡ true → n ≡ 3
parent_first s n slot within above h =
    elim above [
      | first e at ↦ e
      | second e at ↦ absurd (let same = in_two (node_at n slot) 3 (4 + s) h (λ f. omega (arith, at slot)) in omega (arith, at slot))
      | double e at ↦ absurd (let same = in_two (node_at n slot) 3 (4 + s) h (λ f. omega (arith, at slot)) in omega (arith, at slot))
      | below x e at ↦ absurd (let same = in_two (node_at n slot) 3 (4 + s) h (λ f. omega (arith, at slot)) in omega (arith, at slot))
    ]

parent_second : (s n slot : ℕ) → s < 1018 → slot < 1018 → IsAbove n → is_in (node_at n slot) (1022 ∷ (1023 + s) ∷ []) ≡ true → n ≡ 1022
parent_second s n slot within small above h =
    elim above [
      | first e at ↦ absurd (let same = in_two (node_at n slot) 1022 (1023 + s) h (λ f. omega (arith, at slot)) in omega (arith, at slot))
      | second e at ↦ e
      | double e at ↦ absurd (let same = in_two (node_at n slot) 1022 (1023 + s) h (λ f. omega (arith, at slot)) in omega (arith, at slot))
      | below x e at ↦ absurd (let same = in_two (node_at n slot) 1022 (1023 + s) h (λ f. omega (arith, at slot)) in omega (arith, at slot))
    ]

not_both : (x y z slot : ℕ) → slot < 1018 → y < 1018 → z ≢ x → 2042 + z * 1019 + 1 + slot ≢ 2042 + x * 1019 + 1 + y
not_both x y z slot small within other e = omega arith

not_one : (x z slot : ℕ) → slot < 1018 → 2042 + z * 1019 + 1 + slot ≢ 2042 + x * 1019
not_one x z slot small e = omega arith

parent_double : (x y n slot : ℕ) → x < 1018 → y < 1018 → slot < 1018 → IsAbove n
    → is_in (node_at n slot) (2041 ∷ (2042 + x * 1019) ∷ (2042 + x * 1019 + 1 + y) ∷ []) ≡ true
    → is_in n (2041 ∷ (2042 + x * 1019) ∷ (2042 + x * 1019 + 1 + y) ∷ []) ≡ true
parent_double x y n slot row place small above h =
    let a = 2042 + x * 1019 in
    let b = 2042 + x * 1019 + 1 + y in
    elim above [
      | first e at ↦ absurd (let same = in_three (node_at n slot) 2041 a b h (λ f. omega (arith, at slot)) (λ f. omega (arith, at slot)) in omega (arith, at slot))
      | second e at ↦ absurd (let same = in_three (node_at n slot) 2041 a b h (λ f. omega (arith, at slot)) (λ f. omega (arith, at slot)) in omega (arith, at slot))
      | double e at ↦ has_first_of_three n 2041 a b e
      | below z e at ↦
          elim (cases_eq z x) [
            | inl same ↦ has_middle_of_three n 2041 a b (e ∙ ap (λ i. 2042 + i * 1019) same)
            | inr other ↦ absurd (
                let same = in_three (node_at n slot) 2041 a b h (λ f. omega (arith, at slot)) (λ f. not_both x y z slot small place other (sym (at slot) ∙ f)) in
                not_one x z slot small (sym (at slot) ∙ same))
          ]
    ]

-- a page that has a node in the slot of another has that other on its way too
pub parent : (page n slot : ℕ) → has_nids n ≡ true → slot < node_slots → on_way (node_at n slot) page ≡ true → on_way n page ≡ true
parent page n slot has small there =
    let above = is_above n has in
    let at = λ (nodes : List ℕ) (is : nodes_of_page page ≡ nodes). ap (is_in (node_at n slot)) (sym is) ∙ there in
    elim (way_of page) [
      | none direct is ↦ absurd (let wrong : ◌≡◌ false true = at [] is in cc)
      | one k low direct is slots ↦ absurd (parent_one k n slot low above (at ((1 + k) ∷ []) is))
      | first s within direct is slots ↦
          ap (is_in n) is ∙ has_first_of_two n 3 (4 + s) (parent_first s n slot within above (at (3 ∷ (4 + s) ∷ []) is))
      | second s within direct is slots ↦
          ap (is_in n) is ∙ has_first_of_two n 1022 (1023 + s) (parent_second s n slot within small above (at (1022 ∷ (1023 + s) ∷ []) is))
      | double x y row place direct is slots ↦
          ap (is_in n) is ∙ parent_double x y n slot row place small above (at (2041 ∷ (2042 + x * 1019) ∷ (2042 + x * 1019 + 1 + y) ∷ []) is)
    ]

-- a page that has a node with nids on its way has one in a slot of that node
abbrev HasBelow : ℕ → ℕ → Type 0
HasBelow page n = (slot : ℕ) × (slot < node_slots) × (on_way (node_at n slot) page ≡ true)

above_is : (n m : ℕ) → has_nids n ≡ true → n ≡ m → has_nids m ≡ true
above_is n m has e = subst (λ k. has_nids k ≡ true) e has

no_nids : (d : ℕ) → has_nids d ≡ true → has_nids d ≡ false → ⊥
no_nids d has hasnt = let wrong : ◌≡◌ false true = sym hasnt ∙ has in cc

last_has_none : (page d n : ℕ) → direct_of page ≡ Some d → has_nids n ≡ true → n ≢ d
last_has_none page d n direct has e = no_nids d (above_is n d has e) ((in_slot page d direct).kind)

pub child : (page n : ℕ) → has_nids n ≡ true → on_way n page ≡ true → HasBelow page n
child page n has there =
    let at = λ (nodes : List ℕ) (is : nodes_of_page page ≡ nodes). ap (is_in n) (sym is) ∙ there in
    elim (way_of page) [
      | none direct is ↦ absurd (let wrong : ◌≡◌ false true = at [] is in cc)
      | one k low direct is slots ↦ absurd (last_has_none page (1 + k) n direct has (in_one n (1 + k) (at ((1 + k) ∷ []) is)))
      | first s within direct is slots ↦
          let n_is = in_two n 3 (4 + s) (at (3 ∷ (4 + s) ∷ []) is) (last_has_none page (4 + s) n direct has) in
          let node : node_at n s ≡ 4 + s = ap (λ m. node_at m s) n_is ∙ omega arith in
          (s, within, ap (is_in (node_at n s)) is ∙ has_last_of_two (node_at n s) 3 (4 + s) node)
      | second s within direct is slots ↦
          let n_is = in_two n 1022 (1023 + s) (at (1022 ∷ (1023 + s) ∷ []) is) (last_has_none page (1023 + s) n direct has) in
          let node : node_at n s ≡ 1023 + s = ap (λ m. node_at m s) n_is ∙ omega arith in
          (s, within, ap (is_in (node_at n s)) is ∙ has_last_of_two (node_at n s) 1022 (1023 + s) node)
      | double x y row place direct is slots ↦
          child_double page n x y has row place direct is (at (2041 ∷ (2042 + x * 1019) ∷ (2042 + x * 1019 + 1 + y) ∷ []) is)
    ]
  where
    child_double : (page n x y : ℕ) → has_nids n ≡ true → x < 1018 → y < 1018 → direct_of page ≡ Some (2042 + x * 1019 + 1 + y)
        → nodes_of_page page ≡ 2041 ∷ (2042 + x * 1019) ∷ (2042 + x * 1019 + 1 + y) ∷ []
        → is_in n (2041 ∷ (2042 + x * 1019) ∷ (2042 + x * 1019 + 1 + y) ∷ []) ≡ true → HasBelow page n
    child_double page n x y has row place direct is h =
        let a = 2042 + x * 1019 in
        let b = 2042 + x * 1019 + 1 + y in
        elim (cases_eq n 2041) [
          | inl e ↦
              let node : node_at n x ≡ 2042 + x * 1019 = ap (λ m. node_at m x) e ∙ omega arith in
              (x, row, ap (is_in (node_at n x)) is ∙ has_middle_of_three (node_at n x) 2041 a b node)
          | inr other ↦
              let n_is = in_three n 2041 a b h other (last_has_none page b n direct has) in
              let node : node_at n y ≡ 2042 + x * 1019 + 1 + y = node_at-other n y other ∙ omega arith in
              (y, place, ap (is_in (node_at n y)) is ∙ has_last_of_three (node_at n y) 2041 a b node)
        ]

-- a page has its direct node on its way, and no other node without nids
pub own : (page d : ℕ) → direct_of page ≡ Some d → on_way d page ≡ true
own page d direct =
    ap (is_in d) (ap nodes_down_to direct) ∙ list_any-append (eq_by_cmp nat_cmp d) (nodes_above d) (d ∷ [])
    ∙ or_right (is_in d (nodes_above d)) _ (itself d)
  where
    itself : (d : ℕ) → is_in d (d ∷ []) ≡ true
    itself d = grind (arith, nat_tests)

direct_has_none : (a d : ℕ) → has_nids a ≡ true → has_nids d ≡ false → d ≢ a
direct_has_none a d has hasnt e = no_nids a has (subst (λ k. has_nids k ≡ false) e hasnt)

in_three_last : (n a b c : ℕ) → is_in n (a ∷ b ∷ c ∷ []) ≡ true → n ≢ a → n ≢ b → n ≡ c
in_three_last n a b c h other another = grind (arith, nat_tests)

in_two_last : (n a b : ℕ) → is_in n (a ∷ b ∷ []) ≡ true → n ≢ a → n ≡ b
in_two_last n a b h other = grind (arith, nat_tests)

pub below_double : (x : ℕ) → has_nids (2042 + x * 1019) ≡ true
below_double x =
    let rest : (2042 + x * 1019 - 2042) % 1019 ≡ 0 =
    (let plain : 2042 + x * 1019 - 2042 ≡ x * 1019 + 0 = omega arith in ap (λ n. n % 1019) plain ∙ mod-mul-add x 1019 0 (omega arith)) in
    grind (arith, nat_tests)

pub only_own : (page d : ℕ) → has_nids d ≡ false → on_way d page ≡ true → direct_of page ≡ Some d
only_own page d kind there =
    let at = λ (nodes : List ℕ) (is : nodes_of_page page ≡ nodes). ap (is_in d) (sym is) ∙ there in
    elim (way_of page) [
      | none direct is ↦ absurd (let wrong : ◌≡◌ false true = at [] is in cc)
      | one k low direct is slots ↦ direct ∙ ap Some (sym (in_one d (1 + k) (at ((1 + k) ∷ []) is)))
      | first s within direct is slots ↦
          direct ∙ ap Some (sym (in_two_last d 3 (4 + s) (at (3 ∷ (4 + s) ∷ []) is) (direct_has_none 3 d refl kind)))
      | second s within direct is slots ↦
          direct ∙ ap Some (sym (in_two_last d 1022 (1023 + s) (at (1022 ∷ (1023 + s) ∷ []) is) (direct_has_none 1022 d refl kind)))
      | double x y row place direct is slots ↦
          direct ∙ ap Some (sym (in_three_last d 2041 (2042 + x * 1019) (2042 + x * 1019 + 1 + y) (at (2041 ∷ (2042 + x * 1019) ∷ (2042 + x * 1019 + 1 + y) ∷ []) is)
          (direct_has_none 2041 d refl kind) (direct_has_none (2042 + x * 1019) d (below_double x) kind)))
    ]

-- a node of a file is on the way of one of its pages
abbrev has_node : Numbered → ℕ → Bool
has_node pages n = set.contains (nodes_of_pages pages) n

contains-nodes : (pages : Numbered) (n : ℕ) → has_node pages n ≡ (eq_by_cmp nat_cmp n 0 || list_any (eq_by_cmp nat_cmp n) (flat_map nodes_of_page (map.keys pages)))
unfolding nodes_over
contains-nodes pages n = set.contains-from_list nat_cmp_total (0 ∷ flat_map nodes_of_page (map.keys pages)) n

abbrev OnWay : Numbered → ℕ → Type 0
OnWay pages n = (page : ℕ) × (map.contains_key pages page ≡ true) × (on_way n page ≡ true)

on_some : (n : ℕ) (pages : List ℕ) → list_any (eq_by_cmp nat_cmp n) (flat_map nodes_of_page pages) ≡ true
    → (page : ℕ) × (list_any (eq_by_cmp nat_cmp page) pages ≡ true) × (on_way n page ≡ true)
on_some n [] h = absurd (let wrong : ◌≡◌ false true = h in cc)
on_some n (p ∷ ps) h =
    elim (or_cases (on_way n p) (list_any (eq_by_cmp nat_cmp n) (flat_map nodes_of_page ps)) (sym (list_any-append (eq_by_cmp nat_cmp n) (nodes_of_page p) (flat_map nodes_of_page ps)) ∙ h)) [
      | inl here ↦ (p, or_left (eq_by_cmp nat_cmp p p) _ (itself p), here)
      | inr later ↦ let found = on_some n ps later in (found.0, or_right (eq_by_cmp nat_cmp found.0 p) _ found.1, found.2)
    ]
  where
    itself : (p : ℕ) → eq_by_cmp nat_cmp p p ≡ true
    itself p = grind (arith, nat_tests)

tied_same : (q k : ℕ) → eq_by_cmp nat_cmp q k ≡ true → q ≡ k
tied_same q k tied = grind (arith, nat_tests)

on_each : (n page : ℕ) (pages : List ℕ) → list_any (eq_by_cmp nat_cmp page) pages ≡ true → on_way n page ≡ true → list_any (eq_by_cmp nat_cmp n) (flat_map nodes_of_page pages) ≡ true
on_each n page [] has there = absurd (let wrong : ◌≡◌ false true = has in cc)
on_each n page (p ∷ ps) has there =
    list_any-append (eq_by_cmp nat_cmp n) (nodes_of_page p) (flat_map nodes_of_page ps)
    ∙ elim (or_cases (eq_by_cmp nat_cmp page p) (list_any (eq_by_cmp nat_cmp page) ps) has) [
      | inl here ↦ or_left (on_way n p) _ (ap (on_way n) (sym (tied_same page p here)) ∙ there)
      | inr later ↦ or_right (on_way n p) _ (on_each n page ps later there)
    ]

not_zero : (n : ℕ) (b : Bool) → n ≢ 0 → (eq_by_cmp nat_cmp n 0 || b) ≡ b
not_zero n b other = grind (arith, nat_tests)

pub has_node-on_way : (pages : Numbered) (n : ℕ) → n ≢ 0 → has_node pages n ≡ true → OnWay pages n
has_node-on_way pages n other has =
    let found = on_some n (map.keys pages) (sym (not_zero n _ other) ∙ sym (contains-nodes pages n) ∙ has) in
    (found.0, map.contains_key-keys pages found.0 ∙ found.1, found.2)

pub on_way-has_node : (pages : Numbered) (n page : ℕ) → map.contains_key pages page ≡ true → on_way n page ≡ true → has_node pages n ≡ true
on_way-has_node pages n page there on =
    contains-nodes pages n ∙ or_right (eq_by_cmp nat_cmp n 0) _ (on_each n page (map.keys pages) (sym (map.contains_key-keys pages page) ∙ there) on)

-- a file that has the node in a slot of another has that other
pub has_node-parent : (pages : Numbered) (n slot : ℕ) → has_nids n ≡ true → slot < node_slots → node_at n slot ≢ 0 → has_node pages (node_at n slot) ≡ true → has_node pages n ≡ true
has_node-parent pages n slot kind small other has =
    let found = has_node-on_way pages (node_at n slot) other has in
    on_way-has_node pages n found.0 found.1 (parent found.0 n slot kind small found.2)

-- a file that has a node with nids has the node in one of its slots
pub has_node-child : (pages : Numbered) (n : ℕ) → has_nids n ≡ true → n ≢ 0 → has_node pages n ≡ true → (slot : ℕ) × (slot < node_slots) × (has_node pages (node_at n slot) ≡ true)
has_node-child pages n kind other has =
    let found = has_node-on_way pages n other has in
    let below = child found.0 n kind found.2 in
    (below.0, below.1, on_way-has_node pages (node_at n below.0) found.0 found.1 below.2)

-- a file that has a direct node has a page in one of its slots
pub has_node-page : (pages : Numbered) (d : ℕ) → has_nids d ≡ false → d ≢ 0 → has_node pages d ≡ true → (slot : ℕ) × (slot < node_slots) × (map.contains_key pages (first_page_of d + slot) ≡ true)
has_node-page pages d kind other has =
    let found = has_node-on_way pages d other has in
    let slot = in_slot found.0 d (only_own found.0 d kind found.2) in
    (direct_slot found.0, omega arith, ap (λ p. map.contains_key pages p) slot.page_is ∙ found.1)

pub page-has_node : (pages : Numbered) (d slot : ℕ) → 0 < d → d < node_limit → has_nids d ≡ false → slot < node_slots → map.contains_key pages (first_page_of d + slot) ≡ true → has_node pages d ≡ true
page-has_node pages d slot low high kind small there =
    on_way-has_node pages d (first_page_of d + slot) there (own (first_page_of d + slot) d (direct_of-slot d slot low high kind small))

-- the nodes of a file are within the limit
pub has_node-within : (pages : Numbered) (n : ℕ) → has_node pages n ≡ true → n < node_limit
has_node-within pages n has =
    elim (cases_eq n 0) [
      | inl zero ↦ omega arith
      | inr other ↦ let found = has_node-on_way pages n other has in on_way-within found.0 n found.2
    ]
  where
    two_within : (n a b : ℕ) → is_in n (a ∷ b ∷ []) ≡ true → a < node_limit → b < node_limit → n < node_limit
    two_within n a b h low high = grind (arith, nat_tests)

    three_within : (n a b c : ℕ) → is_in n (a ∷ b ∷ c ∷ []) ≡ true → a < node_limit → b < node_limit → c < node_limit → n < node_limit
    three_within n a b c h low middle high = grind (arith, nat_tests)

    on_way-within : (page n : ℕ) → on_way n page ≡ true → n < node_limit
    on_way-within page n there =
        let at = λ (nodes : List ℕ) (is : nodes_of_page page ≡ nodes). ap (is_in n) (sym is) ∙ there in
        elim (way_of page) [
          | none direct is ↦ absurd (let wrong : ◌≡◌ false true = at [] is in cc)
          | one k low direct is slots ↦ omega (arith, in_one n (1 + k) (at ((1 + k) ∷ []) is))
          | first s within direct is slots ↦ two_within n 3 (4 + s) (at (3 ∷ (4 + s) ∷ []) is) (omega arith) (omega arith)
          | second s within direct is slots ↦ two_within n 1022 (1023 + s) (at (1022 ∷ (1023 + s) ∷ []) is) (omega arith) (omega arith)
          | double x y row place direct is slots ↦
              three_within n 2041 (2042 + x * 1019) (2042 + x * 1019 + 1 + y) (at (2041 ∷ (2042 + x * 1019) ∷ (2042 + x * 1019 + 1 + y) ∷ []) is) (omega arith) (omega arith) (omega arith)
        ]

-- a file has its inode
pub has_node-inode : (pages : Numbered) → has_node pages 0 ≡ true
has_node-inode pages = contains-nodes pages 0

-- without pages no nid is needed
pub HaveNids-none : (nids : Numbered) → HaveNids map.empty nids
HaveNids-none nids n other has =
    let found = has_node-on_way map.empty n other has in
    absurd (let wrong : ◌≡◌ false true = sym (ap is_some (map.get-empty nat_cmp found.0)) ∙ found.1 in cc)

-- with a page more, the nids of the nodes on its way are needed too
pub HaveNids-more : (pages nids : Numbered) (page at : ℕ) → HaveNids pages nids → ((n : ℕ) → on_way n page ≡ true → IsSome (map.get nids n)) → HaveNids (map.insert pages page at) nids
HaveNids-more pages nids page at have on n other has =
    let found = has_node-on_way (map.insert pages page at) n other has in
    elim (cases_eq found.0 page) [
      | inl same ↦ on n (ap (on_way n) (sym same) ∙ found.2)
      | inr apart ↦ have n other (on_way-has_node pages n found.0 (was found.0 apart found.1) found.2)
    ]
  where
    was : (q : ℕ) → q ≢ page → map.contains_key (map.insert pages page at) q ≡ true → map.contains_key pages q ≡ true
    was q apart there =
        let now = map.get-insert nat_cmp_total pages page at q in
        let other : eq_by_cmp nat_cmp q page ≡ false = grind (arith, nat_tests) in
        sym (ap is_some (now ∙ ap (λ b. cond b (Some at) (map.get pages q)) other)) ∙ there
