-- The nodes of a file that has all pages up to one: all offsets up to that of the last page's direct node.
use Rattle.std.proofs.Common.{◌≡◌, ◌⊎◌, ◌≢◌, ℕ, zero, suc, ◌+◌, ◌-◌, ◌*◌, ◌/◌, ◌%◌, ◌<◌, ◌≤◌, List, [], ◌∷◌, Some, None, refl, sym, ap, subst, ◌∙◌, inl, inr, arith, nat_lt, if◌then◌else◌, take, get_or, add-one}
use Rattle.std.specs.List.{range_with_len}
use Rattle.std.specs.List.Sorted.{IsStrictlyIncreasing}
use Rattle.std.proofs.lemmas.Bool.{cases_lt}
use Rattle.std.proofs.lemmas.Bool.Decides.{nat_tests}
use Rattle.std.proofs.lemmas.List.{take_all}
use Rattle.std.proofs.lemmas.List.FromFn.{length-range_with_len, get_or-range_with_len}
use Rattle.f2_format.specs.Offsets.{page_limit, direct_of, direct_number, nth_direct, nodes_down_to, node_count}
use Rattle.f2_shape.specs.Routes.{four_places}
use Rattle.f2_shape.proofs.Parts.{direct_of-number, down_in_inode, down_in_first, down_in_second, down_in_double}
use Rattle.f2_shape.proofs.Places.{places-nodes_of_page}
use Rattle.f2_shape.proofs.Counted.{CountedTo, CountedTo-none, CountedTo-more, way_to, changes, previous}

-- the deepest node on a page's way
abbrev deepest : ℕ → ℕ
deepest page = if nat_lt page 923 then 0 else nth_direct (direct_number page)

-- how many offsets are used by so many first pages
abbrev used : ℕ → ℕ
used zero = 1
used (suc page) = deepest page + 1

-- the way through the direct node with a number
abbrev ways : ℕ → List ℕ
ways k =
    if nat_lt k 2 then 0 ∷ (1 + k) ∷ 0 ∷ 0 ∷ []
    else if nat_lt k 1020 then 0 ∷ 3 ∷ (4 + (k - 2)) ∷ 0 ∷ []
    else if nat_lt k 2038 then 0 ∷ 1022 ∷ (1023 + (k - 1020)) ∷ 0 ∷ []
    else 0 ∷ 2041 ∷ (2042 + (k - 2038) / 1018 * 1019) ∷ (2042 + (k - 2038) / 1018 * 1019 + 1 + (k - 2038) % 1018) ∷ []

ways_is : (k : ℕ) → four_places (0 ∷ nodes_down_to (Some (nth_direct k))) ≡ ways k
ways_is k =
    elim (cases_lt k 2) [
      | inl a ↦ ap (λ nodes. four_places (0 ∷ nodes)) (down_in_inode k a) ∙ grind (arith, nat_tests)
      | inr past ↦ elim (cases_lt k 1020) [
        | inl b ↦ ap (λ nodes. four_places (0 ∷ nodes)) (down_in_first k past b) ∙ grind (arith, nat_tests)
        | inr past ↦ elim (cases_lt k 2038) [
          | inl d ↦ ap (λ nodes. four_places (0 ∷ nodes)) (down_in_second k past d) ∙ grind (arith, nat_tests)
          | inr past ↦ ap (λ nodes. four_places (0 ∷ nodes)) (down_in_double k past) ∙ grind (arith, nat_tests)
        ]
      ]
    ]

direct_of-held : (p : ℕ) → p < 923 → direct_of p ≡ None
unfolding direct_of
direct_of-held p h = grind (arith, nat_tests)

way_held : (p : ℕ) → p < 923 → way_to p ≡ 0 ∷ 0 ∷ 0 ∷ 0 ∷ []
way_held p h = sym (places-nodes_of_page p (omega arith)) ∙ ap (λ o. four_places (0 ∷ nodes_down_to o)) (direct_of-held p h)

way_below : (p : ℕ) → 923 ≤ p → p < page_limit → way_to p ≡ ways (direct_number p)
way_below p above below =
    sym (places-nodes_of_page p below) ∙ ap (λ o. four_places (0 ∷ nodes_down_to o)) (direct_of-number p above below) ∙ ways_is (direct_number p)

-- from a direct node to the next the way changes at as many places as offsets are new
changes-next : (k : ℕ) → nth_direct (k + 1) ≡ nth_direct k + changes (ways k) (ways (k + 1))
changes-next k = grind (arith, nat_tests)

changes-first : nth_direct 0 ≡ changes (0 ∷ 0 ∷ 0 ∷ 0 ∷ []) (ways 0)
changes-first = refl

changes-same : (k : ℕ) → changes (ways k) (ways k) ≡ 0
changes-same k = grind (arith, nat_tests)

-- from a page to the next
next_page : (p : ℕ) → p + 1 < page_limit → deepest (p + 1) ≡ deepest p + changes (way_to p) (way_to (p + 1))
next_page p below =
    elim (cases_lt (p + 1) 923) [
      | inl held ↦ by_ways (way_held p (omega arith)) (way_held (p + 1) held) (grind (arith, nat_tests))
      | inr above ↦ elim (cases_lt p 923) [
        | inl held ↦
            let first : direct_number (p + 1) ≡ 0 = omega arith in
            by_ways (way_held p held) (way_below (p + 1) above below ∙ ap ways first) (grind (arith, nat_tests, first))
        | inr past ↦
            let next = changes-next (direct_number p) in
            let same = changes-same (direct_number p) in
            elim (next_number p past) [
              | inl stays ↦ by_ways (way_below p past (omega arith)) (way_below (p + 1) above below ∙ ap ways stays) (grind (arith, nat_tests, stays, same))
              | inr rises ↦ by_ways (way_below p past (omega arith)) (way_below (p + 1) above below ∙ ap ways rises) (grind (arith, nat_tests, rises, next))
            ]
      ]
    ]
  where
    by_ways : {old new : List ℕ} → way_to p ≡ old → way_to (p + 1) ≡ new → deepest (p + 1) ≡ deepest p + changes old new → deepest (p + 1) ≡ deepest p + changes (way_to p) (way_to (p + 1))
    by_ways e f h = h ∙ sym (λ i. deepest p + changes (e i) (f i))

    next_number : (p : ℕ) → 923 ≤ p → (direct_number (p + 1) ≡ direct_number p) ⊎ (direct_number (p + 1) ≡ direct_number p + 1)
    next_number p past = elim (cases_lt ((p - 923) % 1018) 1017) [ inl a ↦ inl (omega arith) | inr b ↦ inr (omega arith) ]

rising : (n : ℕ) → IsStrictlyIncreasing (range_with_len 0 n)
rising n k within =
    let len = length-range_with_len 0 n in
    let here : get_or (range_with_len 0 n) k 0 ≡ 0 + k = get_or-range_with_len 0 n k 0 (omega arith) in
    let next : get_or (range_with_len 0 n) (k + 1) 0 ≡ 0 + (k + 1) = get_or-range_with_len 0 n (k + 1) 0 (omega arith) in
    omega arith

-- the page at a place is its number
page_at : (n i : ℕ) → i < n → get_or (range_with_len 0 n) i 0 ≡ i
page_at n i within = get_or-range_with_len 0 n i 0 within ∙ omega arith

first_step : used 1 ≡ 1 + changes (way_to 0) (way_to 0)
first_step = sym (ap (λ w. 1 + changes w w) (way_held 0 (omega arith)))

step : (n i : ℕ) → n ≤ page_limit → i < n → used (suc i) ≡ used i + changes (way_to (previous (range_with_len 0 n) i)) (way_to i)
step n zero fits within = first_step
step n (suc i) fits within =
    let before : previous (range_with_len 0 n) (suc i) ≡ i = page_at n i (omega arith) in
    let next : deepest (i + 1) ≡ deepest i + changes (way_to i) (way_to (i + 1)) = next_page i (omega arith) in
    let shown : used (suc (suc i)) ≡ used (suc i) + changes (way_to i) (way_to (suc i)) = subst (λ p. deepest p + 1 ≡ deepest i + 1 + changes (way_to i) (way_to p)) (add-one i) (omega (arith, next)) in
    shown ∙ ap (λ p. used (suc i) + changes (way_to p) (way_to (suc i))) (sym before)

counted : (n i : ℕ) → n ≤ page_limit → i ≤ n → CountedTo (range_with_len 0 n) i (used i) (way_to (previous (range_with_len 0 n) i))
counted n zero fits within = subst (CountedTo (range_with_len 0 n) 0 1) (CountedTo-none (range_with_len 0 n)).way (CountedTo-none (range_with_len 0 n))
counted n (suc i) fits within =
    let pages = range_with_len 0 n in
    let here = page_at n i (omega arith) in
    let more = CountedTo-more pages i (used i) (way_to (previous pages i)) (way_to i) (counted n i fits (omega arith)) (omega (arith, length-range_with_len 0 n)) (rising n) (omega (arith, here)) (ap way_to (sym here)) in
    let place : suc i ≡ i + 1 = sym (add-one i) in
    let way : way_to i ≡ way_to (previous pages (suc i)) = ap way_to (sym here) in
    subst (λ w. CountedTo pages (suc i) (used (suc i)) w) way (subst (λ j. CountedTo pages j (used (suc i)) (way_to i)) (sym place) (subst (λ c. CountedTo pages (i + 1) c (way_to i)) (sym (step n i fits (omega arith))) more))

take_whole : (n : ℕ) → take n (range_with_len 0 n) ≡ range_with_len 0 n
take_whole n = take_all n (range_with_len 0 n) (omega (arith, length-range_with_len 0 n))

-- so many offsets are used, and each page uses at most three
pub used-is : (n : ℕ) → n ≤ page_limit → used n ≡ node_count (range_with_len 0 n)
used-is n fits = (counted n n fits (omega arith)).total ∙ ap node_count (take_whole n)

pub used-few : (n : ℕ) → n ≤ page_limit → used n ≤ 1 + 3 * n
used-few n fits = (counted n n fits (omega arith)).bounded

suc_less : (p : ℕ) → suc p - 1 ≡ p
suc_less p = omega arith

-- the same by the direct node of the last page
pub used-Some : (n offset : ℕ) → n ≢ 0 → n ≤ page_limit → direct_of (n - 1) ≡ Some offset → offset + 1 ≡ used n
used-Some zero offset some fits is = absurd (some refl)
used-Some (suc p) offset some fits is = elim (cases_lt p 923) [
  | inl held ↦ absurd (none_some (sym (direct_of-held p held) ∙ ap direct_of (sym (suc_less p)) ∙ is))
  | inr above ↦ ap (λ n. n + 1) (same_some _ _ (sym is ∙ ap direct_of (suc_less p) ∙ direct_of-number p above (omega arith))) ∙ grind (arith, nat_tests)
]
  where
    none_some : None ≡ Some offset → ⊥
    none_some e = cc

    same_some : (a b : ℕ) → Some a ≡ Some b → a ≡ b
    same_some a b e = cc

pub used-None : (n : ℕ) → n ≢ 0 → n ≤ page_limit → direct_of (n - 1) ≡ None → 1 ≡ used n
used-None zero some fits is = absurd (some refl)
used-None (suc p) some fits is = elim (cases_lt p 923) [
  | inl held ↦ grind (arith, nat_tests)
  | inr above ↦ absurd (some_none (sym (direct_of-number p above (omega arith)) ∙ ap direct_of (sym (suc_less p)) ∙ is))
]
  where
    some_none : Some (nth_direct (direct_number p)) ≡ None → ⊥
    some_none e = cc
