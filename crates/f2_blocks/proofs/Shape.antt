-- What the slots of a node stand for, against the ways of the pages.
use Rattle.std.proofs.Common.{◌≡◌, ◌≢◌, ℕ, ◌+◌, ◌-◌, ◌*◌, ◌/◌, ◌%◌, ◌<◌, ◌≤◌, Bool, true, false, [], ◌∷◌, Some, None, refl, ap, sym, subst, ◌∙◌, inl, inr, arith}
use Rattle.std.specs.List.{list_any}
use Rattle.std.specs.Ordering.{nat_cmp, eq_by_cmp}
use Rattle.std.proofs.lemmas.Bool.{cases_eq, cases_lt}
use Rattle.std.proofs.lemmas.Bool.Decides.{nat_tests}
use Rattle.std.proofs.lemmas.Nat.{div-mul-add, mod-mul-add}
use Rattle.f2_format.specs.Offsets.{inode_pages, node_slots, direct_limit, page_limit, nth_direct, direct_number, direct_slot, direct_of, nodes_down_to, nodes_of_page, slots_to, slots_of_page}
use Rattle.f2_shape.proofs.Parts.{direct_of-number, number_of-direct, IsFirstPage-number, slots_in_inode, slots_in_first, slots_in_second, slots_in_double, down_in_inode, down_in_first, down_in_second, down_in_double}
use Rattle.f2_shape.specs.Routes.{IsFirstPage}
use Rattle.f2_shape.proofs.Laws.{direct_of-first_page}
use Rattle.f2_blocks.specs.Tree.{has_nids, node_at, indirect_before, first_page_of, node_limit}

-- the nodes that have nids, and which nodes are in their slots
pub data IsAbove (n : ℕ) : Type 0 where
  first : n ≡ 3 → ((slot : ℕ) → node_at n slot ≡ 4 + slot) → IsAbove n
  second : n ≡ 1022 → ((slot : ℕ) → node_at n slot ≡ 1023 + slot) → IsAbove n
  double : n ≡ 2041 → ((slot : ℕ) → node_at n slot ≡ 2042 + slot * 1019) → IsAbove n
  below : (x : ℕ) → n ≡ 2042 + x * 1019 → ((slot : ℕ) → node_at n slot ≡ 2042 + x * 1019 + 1 + slot) → IsAbove n

pub node_at-other : (n slot : ℕ) → n ≢ 2041 → node_at n slot ≡ n + 1 + slot
node_at-other n slot other = grind (arith, nat_tests)

node_at-double : (n slot : ℕ) → n ≡ 2041 → node_at n slot ≡ 2042 + slot * 1019
node_at-double n slot is = grind (arith, nat_tests)

has_nids-past : (n : ℕ) → has_nids n ≡ true → n ≢ 3 → n ≢ 1022 → n ≢ 2041 → (2041 < n) × ((n - 2042) % 1019 ≡ 0)
has_nids-past n has a b c = grind (arith, nat_tests)

pub is_above : (n : ℕ) → has_nids n ≡ true → IsAbove n
is_above n has =
    elim (cases_eq n 3) [
      | inl e ↦ first e (λ slot. node_at-other n slot (λ f. omega arith) ∙ ap (λ m. m + 1 + slot) e ∙ omega arith)
      | inr not_first ↦ elim (cases_eq n 1022) [
        | inl e ↦ second e (λ slot. node_at-other n slot (λ f. omega arith) ∙ ap (λ m. m + 1 + slot) e ∙ omega arith)
        | inr not_second ↦ elim (cases_eq n 2041) [
          | inl e ↦ double e (λ slot. node_at-double n slot e)
          | inr not_double ↦
              let past = has_nids-past n has not_first not_second not_double in
              let is : n ≡ 2042 + (n - 2042) / 1019 * 1019 = omega (arith, past) in
              below ((n - 2042) / 1019) is (λ slot. node_at-other n slot not_double ∙ ap (λ m. m + 1 + slot) is)
        ]
      ]
    ]

-- a direct node with this number has no nids, and its pages begin behind those of the ones before it
pub record IsDirect (k d : ℕ) : Type 0 where
  pub kind : has_nids d ≡ false
  pub first : first_page_of d ≡ 923 + k * 1018
  pub low : 0 < d
  pub high : d < node_limit

direct_low : (k : ℕ) → k < 2038 → IsDirect k (nth_direct k)
direct_low k h = record {
  kind = grind (arith, nat_tests);
  first = grind (arith, nat_tests);
  low = grind (arith, nat_tests);
  high = grind (arith, nat_tests);
}

module _ (x y d : ℕ) (row : x < 1018) (place : y < 1018) (is : d ≡ 2042 + x * 1019 + 1 + y) where
  quotient : (d - 2042) / 1019 ≡ x
  quotient = let rest : d - 2042 ≡ x * 1019 + (1 + y) = omega arith in ap (λ n. n / 1019) rest ∙ div-mul-add x 1019 (1 + y) (omega arith)

  remainder : (d - 2042) % 1019 ≡ 1 + y
  remainder = let rest : d - 2042 ≡ x * 1019 + (1 + y) = omega arith in ap (λ n. n % 1019) rest ∙ mod-mul-add x 1019 (1 + y) (omega arith)

  kind_below : has_nids d ≡ false
  kind_below = let r = remainder in grind (arith, nat_tests)

  first_below : first_page_of d ≡ 923 + (2038 + x * 1018 + y) * 1018
  first_below =
      let q = quotient in
      let before : indirect_before d ≡ 4 + x = grind (arith, nat_tests) in
      ap (λ n. 923 + (d - 1 - n) * 1018) before ∙ ap (λ n. 923 + n * 1018) (omega arith)

direct_high : (k : ℕ) → 2038 ≤ k → k < direct_limit → IsDirect k (nth_direct k)
direct_high k above within =
    let x = (k - 2038) / 1018 in
    let y = (k - 2038) % 1018 in
    let is : nth_direct k ≡ 2042 + x * 1019 + 1 + y = grind (arith, nat_tests) in
    let row : x < 1018 = omega arith in
    let place : y < 1018 = omega arith in
    let number : 2038 + x * 1018 + y ≡ k = omega arith in
    record {
      kind = kind_below x y (nth_direct k) row place is;
      first = first_below x y (nth_direct k) row place is ∙ ap (λ n. 923 + n * 1018) number;
      low = omega arith;
      high = omega arith;
    }

pub is_direct : (k : ℕ) → k < direct_limit → IsDirect k (nth_direct k)
is_direct k within = elim (cases_lt k 2038) [ inl low ↦ direct_low k low | inr high ↦ direct_high k high within ]

-- the number of a direct node
number_low : (d : ℕ) → 0 < d → d < 2041 → has_nids d ≡ false → (nth_direct (d - 1 - indirect_before d) ≡ d) × (d - 1 - indirect_before d < 2038)
number_low d low high kind = grind (arith, nat_tests)

remainder_is : (d : ℕ) → 2041 < d → has_nids d ≡ false → (d - 2042) % 1019 ≢ 0
remainder_is d high kind e = grind (arith, nat_tests)

number_high : (d : ℕ) → 2041 < d → d < node_limit → has_nids d ≡ false → (nth_direct (d - 1 - indirect_before d) ≡ d) × (d - 1 - indirect_before d < direct_limit)
number_high d high within kind =
    let x = (d - 2042) / 1019 in
    let y = (d - 2042) % 1019 - 1 in
    let odd = remainder_is d high kind in
    let place : y < 1018 = omega arith in
    let is : d ≡ 2042 + x * 1019 + 1 + y = omega (arith, odd) in
    let before : indirect_before d ≡ 4 + x = grind (arith, nat_tests) in
    let number : d - 1 - indirect_before d ≡ 2038 + (x * 1018 + y) = omega arith in
    let rest : 2038 + (x * 1018 + y) - 2038 ≡ x * 1018 + y = omega arith in
    let q : (2038 + (x * 1018 + y) - 2038) / 1018 ≡ x = ap (λ n. n / 1018) rest ∙ div-mul-add x 1018 y place in
    let r : (2038 + (x * 1018 + y) - 2038) % 1018 ≡ y = ap (λ n. n % 1018) rest ∙ mod-mul-add x 1018 y place in
    let direct : nth_direct (2038 + (x * 1018 + y)) ≡ 2042 + x * 1019 + 1 + y = grind (arith, nat_tests) in
    (ap nth_direct number ∙ direct ∙ sym is, omega arith)

not_double : (d : ℕ) → has_nids d ≡ false → d ≢ 2041
not_double d kind e = grind (arith, nat_tests)

pub number_is : (d : ℕ) → 0 < d → d < node_limit → has_nids d ≡ false → (nth_direct (d - 1 - indirect_before d) ≡ d) × (d - 1 - indirect_before d < direct_limit)
number_is d low high kind =
    elim (cases_lt d 2041) [
      | inl small ↦ let found = number_low d low small kind in (found.0, omega (arith, found))
      | inr large ↦ number_high d (omega (arith, not_double d kind)) high kind
    ]

-- the page in a slot of a direct node has that direct node
pub direct_of-slot : (d slot : ℕ) → 0 < d → d < node_limit → has_nids d ≡ false → slot < node_slots → direct_of (first_page_of d + slot) ≡ Some d
direct_of-slot d slot low high kind within =
    let number = number_is d low high kind in
    direct_of-first_page d (first_page_of d) slot (IsFirstPage-number (d - 1 - indirect_before d) d number.1 number.0) within

-- a page of a direct node is in its slot
pub record IsInSlot (page d : ℕ) : Type 0 where
  pub kind : has_nids d ≡ false
  pub low : 0 < d
  pub high : d < node_limit
  pub page_is : first_page_of d + direct_slot page ≡ page
  pub past : inode_pages ≤ page
  pub within : page < page_limit

pub in_slot : (page d : ℕ) → direct_of page ≡ Some d → IsInSlot page d
in_slot page d has =
    let number = number_of-direct page d has in
    let k = direct_number page in
    let within : k < direct_limit = omega (arith, number) in
    let direct = subst (IsDirect k) number.2 (is_direct k within) in
    record {
      kind = direct.kind;
      low = direct.low;
      high = direct.high;
      page_is = ap (λ n. n + direct_slot page) direct.first ∙ omega (arith, number);
      past = number.0;
      within = number.1;
    }

-- the nodes and slots on a page's way
pub data Way (page : ℕ) : Type 0 where
  none : direct_of page ≡ None → nodes_of_page page ≡ [] → Way page
  one : (k : ℕ) → k < 2 → direct_of page ≡ Some (1 + k) → nodes_of_page page ≡ (1 + k) ∷ [] → slots_of_page page ≡ k ∷ direct_slot page ∷ [] → Way page
  first : (s : ℕ) → s < 1018 → direct_of page ≡ Some (4 + s) → nodes_of_page page ≡ 3 ∷ (4 + s) ∷ [] → slots_of_page page ≡ 2 ∷ s ∷ direct_slot page ∷ [] → Way page
  second : (s : ℕ) → s < 1018 → direct_of page ≡ Some (1023 + s) → nodes_of_page page ≡ 1022 ∷ (1023 + s) ∷ [] → slots_of_page page ≡ 3 ∷ s ∷ direct_slot page ∷ [] → Way page
  double : (x y : ℕ) → x < 1018 → y < 1018 → direct_of page ≡ Some (2042 + x * 1019 + 1 + y)
      → nodes_of_page page ≡ 2041 ∷ (2042 + x * 1019) ∷ (2042 + x * 1019 + 1 + y) ∷ []
      → slots_of_page page ≡ 4 ∷ x ∷ y ∷ direct_slot page ∷ [] → Way page

no_direct : (page : ℕ) → direct_of page ≡ None → Way page
no_direct page is = none is (ap nodes_down_to is)

direct_of-inside : (page : ℕ) → page < 923 → direct_of page ≡ None
unfolding direct_of
direct_of-inside page h = grind (arith, nat_tests)

direct_of-beyond : (page : ℕ) → page_limit ≤ page → direct_of page ≡ None
unfolding direct_of
direct_of-beyond page h = grind (arith, nat_tests)

slots_of_page-below : (page : ℕ) → 923 ≤ page → slots_of_page page ≡ slots_to (direct_number page) (direct_slot page)
unfolding slots_of_page
slots_of_page-below page h = grind (arith, nat_tests)

module _ (page : ℕ) (above : 923 ≤ page) (below : page < page_limit) where
  k : ℕ
  k = (page - 923) / 1018

  number_k : direct_number page ≡ k
  unfolding k
  number_k = refl

  has : direct_of page ≡ Some (nth_direct k)
  unfolding k
  has = direct_of-number page above below

  nodes : nodes_of_page page ≡ nodes_down_to (Some (nth_direct k))
  nodes = ap nodes_down_to has

  slots : slots_of_page page ≡ slots_to k (direct_slot page)
  unfolding k
  slots = slots_of_page-below page above

  k_within : k < direct_limit
  unfolding k
  k_within = omega arith

  way_below : Way page
  way_below =
      elim (cases_lt k 2) [
        | inl in_inode ↦
            let at : nth_direct k ≡ 1 + k = grind (arith, nat_tests) in
            one k in_inode (has ∙ ap Some at) (nodes ∙ down_in_inode k in_inode) (slots ∙ slots_in_inode k (direct_slot page) in_inode)
        | inr past_inode ↦ elim (cases_lt k 1020) [
          | inl in_first ↦
              let at : nth_direct k ≡ 4 + (k - 2) = grind (arith, nat_tests) in
              first (k - 2) (omega arith) (has ∙ ap Some at) (nodes ∙ down_in_first k past_inode in_first) (slots ∙ slots_in_first k (direct_slot page) past_inode in_first)
          | inr past_first ↦ elim (cases_lt k 2038) [
            | inl in_second ↦
                let at : nth_direct k ≡ 1023 + (k - 1020) = grind (arith, nat_tests) in
                second (k - 1020) (omega arith) (has ∙ ap Some at) (nodes ∙ down_in_second k past_first in_second) (slots ∙ slots_in_second k (direct_slot page) past_first in_second)
            | inr in_double ↦
                let at : nth_direct k ≡ 2042 + (k - 2038) / 1018 * 1019 + 1 + (k - 2038) % 1018 = grind (arith, nat_tests) in
                let within = k_within in
                double ((k - 2038) / 1018) ((k - 2038) % 1018) (omega arith) (omega arith) (has ∙ ap Some at) (nodes ∙ down_in_double k in_double)
                (slots ∙ slots_in_double k (direct_slot page) in_double)
          ]
        ]
      ]

pub way_of : (page : ℕ) → Way page
way_of page =
    elim (cases_lt page 923) [
      | inl inside ↦ no_direct page (direct_of-inside page inside)
      | inr above ↦ elim (cases_lt page page_limit) [
        | inl within ↦ way_below page above within
        | inr beyond ↦ no_direct page (direct_of-beyond page beyond)
      ]
    ]

-- whether a node is on a page's way
abbrev pub on_way : ℕ → ℕ → Bool
on_way n page = list_any (eq_by_cmp nat_cmp n) (nodes_of_page page)

-- the first page of a direct node is the one that f2_shape finds
pub first_is : (d page : ℕ) → IsFirstPage d page → (has_nids d ≡ false) × (page ≡ first_page_of d) × (page + node_slots ≤ page_limit)
first_is d page begins =
    let slot = in_slot page d begins.held in
    let own = direct_of-slot d 0 slot.low slot.high slot.kind (omega arith) in
    let least : page ≤ first_page_of d = subst (λ p. page ≤ p) (omega arith) (begins.least (first_page_of d + 0) own) in
    let last = in_slot (first_page_of d + 1017) d (direct_of-slot d 1017 slot.low slot.high slot.kind (omega arith)) in
    (slot.kind, omega (arith, slot.page_is), omega (arith, slot.page_is, last.within))

-- an offset with no page is one of a node with nids
pub none_has_nids : (n : ℕ) → 0 < n → n < node_limit → ((page : ℕ) → direct_of page ≢ Some n) → has_nids n ≡ true
none_has_nids n low high no_page = by_kind (has_nids n) refl
  where
    by_kind : (b : Bool) → has_nids n ≡ b → has_nids n ≡ true
    by_kind true e = e
    by_kind false e = absurd (no_page (first_page_of n + 0) (direct_of-slot n 0 low high e (omega arith)))

-- the nodes in the slots of a node are within a file's limit
pub node_within : (n slot : ℕ) → has_nids n ≡ true → n < node_limit → slot < node_slots → node_at n slot < node_limit
node_within n slot has high within =
    elim (is_above n has) [
      | first e at ↦ omega (arith, at slot)
      | second e at ↦ omega (arith, at slot)
      | double e at ↦ omega (arith, at slot)
      | below x e at ↦ omega (arith, at slot)
    ]
