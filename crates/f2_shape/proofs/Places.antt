-- The nodes of a page's way at each of the three places below the inode, 0 where there is none. Along a file's
-- pages each rises, and a node stands at one place only: so a way has a new node exactly where it changes.
use Rattle.std.proofs.Common.{◌≡◌, ℕ, Bool, ◌||◌, ◌+◌, ◌-◌, ◌*◌, ◌/◌, ◌%◌, ◌<◌, ◌≤◌, List, [], ◌∷◌, Some, None, refl, ap, sym, subst, ◌∙◌, inl, inr, arith, nat_lt, if◌then◌else◌}
use Rattle.std.specs.List.{list_any}
use Rattle.std.proofs.lemmas.Bool.{cases_lt}
use Rattle.std.proofs.lemmas.Bool.Decides.{nat_tests}
use Rattle.f2_format.specs.Offsets.{page_limit, direct_of, direct_number, nth_direct, nodes_down_to, nodes_of_page}
use Rattle.f2_shape.specs.Routes.{four_places}
use Rattle.f2_shape.proofs.Parts.{direct_of-number, down_in_inode, down_in_first, down_in_second, down_in_double}

abbrev top_at : ℕ → ℕ
top_at k = if nat_lt k 2 then 1 + k else if nat_lt k 1020 then 3 else if nat_lt k 2038 then 1022 else 2041

abbrev middle_at : ℕ → ℕ
middle_at k =
    if nat_lt k 2 then 0
    else if nat_lt k 1020 then 4 + (k - 2)
    else if nat_lt k 2038 then 1023 + (k - 1020)
    else 2042 + (k - 2038) / 1018 * 1019

abbrev bottom_at : ℕ → ℕ
bottom_at k = if nat_lt k 2038 then 0 else 2042 + (k - 2038) / 1018 * 1019 + 1 + (k - 2038) % 1018

-- what stands at a place on a page's way: nothing, where the inode has the page's address
abbrev placed : (ℕ → ℕ) → ℕ → ℕ
placed at page = if nat_lt page 923 then 0 else at (direct_number page)

-- the node right below the inode
pub top : ℕ → ℕ
top page = placed top_at page

-- the node below that one
pub middle : ℕ → ℕ
middle page = placed middle_at page

-- the node below those two
pub bottom : ℕ → ℕ
bottom page = placed bottom_at page

top_at-le : (k m : ℕ) → k ≤ m → top_at k ≤ top_at m
top_at-le k m h = grind (arith, nat_tests)

middle_at-le : (k m : ℕ) → k ≤ m → middle_at k ≤ middle_at m
middle_at-le k m h = grind (arith, nat_tests)

bottom_at-le : (k m : ℕ) → k ≤ m → bottom_at k ≤ bottom_at m
bottom_at-le k m h = grind (arith, nat_tests)

placed-le : (at : ℕ → ℕ) → ((k m : ℕ) → k ≤ m → at k ≤ at m) → (p q : ℕ) → p ≤ q → placed at p ≤ placed at q
placed-le at rises p q h =
    let number : direct_number p ≤ direct_number q = omega arith in
    let at_number = rises (direct_number p) (direct_number q) number in
    grind (arith, nat_tests)

pub top-zero : top 0 ≡ 0
unfolding top
top-zero = refl

pub middle-zero : middle 0 ≡ 0
unfolding middle
middle-zero = refl

pub bottom-zero : bottom 0 ≡ 0
unfolding bottom
bottom-zero = refl

pub top-le : (p q : ℕ) → p ≤ q → top p ≤ top q
unfolding top
top-le = placed-le top_at top_at-le

pub middle-le : (p q : ℕ) → p ≤ q → middle p ≤ middle q
unfolding middle
middle-le = placed-le middle_at middle_at-le

pub bottom-le : (p q : ℕ) → p ≤ q → bottom p ≤ bottom q
unfolding bottom
bottom-le = placed-le bottom_at bottom_at-le

top-middle_at : (k m : ℕ) → top_at k ≡ middle_at m → top_at k ≡ 0
top-middle_at k m e = grind (arith, nat_tests)

top-bottom_at : (k m : ℕ) → top_at k ≡ bottom_at m → top_at k ≡ 0
top-bottom_at k m e = grind (arith, nat_tests)

middle-bottom_at : (k m : ℕ) → middle_at k ≡ bottom_at m → middle_at k ≡ 0
middle-bottom_at k m e = grind (arith, nat_tests)

placed-apart : (at other : ℕ → ℕ) → ((k m : ℕ) → at k ≡ other m → at k ≡ 0) → (p q : ℕ) → placed at p ≡ placed other q → placed at p ≡ 0
placed-apart at other apart p q e =
    let at_number = apart (direct_number p) (direct_number q) in
    grind (arith, nat_tests)

pub top-middle : (p q : ℕ) → top p ≡ middle q → top p ≡ 0
unfolding top middle
top-middle = placed-apart top_at middle_at top-middle_at

pub top-bottom : (p q : ℕ) → top p ≡ bottom q → top p ≡ 0
unfolding top bottom
top-bottom = placed-apart top_at bottom_at top-bottom_at

pub middle-bottom : (p q : ℕ) → middle p ≡ bottom q → middle p ≡ 0
unfolding middle bottom
middle-bottom = placed-apart middle_at bottom_at middle-bottom_at

-- a page's nodes below the inode are those at the places that its way uses
pub data IsWay : ℕ → List ℕ → Type 0 where
  held : {p : ℕ} → top p ≡ 0 → middle p ≡ 0 → bottom p ≡ 0 → IsWay p []
  one : {p : ℕ} → middle p ≡ 0 → bottom p ≡ 0 → IsWay p (top p ∷ [])
  two : {p : ℕ} → bottom p ≡ 0 → IsWay p (top p ∷ middle p ∷ [])
  three : {p : ℕ} → IsWay p (top p ∷ middle p ∷ bottom p ∷ [])

direct_of-held : (p : ℕ) → p < 923 → direct_of p ≡ None
unfolding direct_of
direct_of-held p h = grind (arith, nat_tests)

way_held : (p : ℕ) → p < 923 → IsWay p (nodes_of_page p)
unfolding top middle bottom
way_held p h =
    let nodes : [] ≡ nodes_of_page p = sym (ap nodes_down_to (direct_of-held p h)) in
    subst (IsWay p) nodes (held (grind (arith, nat_tests)) (grind (arith, nat_tests)) (grind (arith, nat_tests)))

module _ (p : ℕ) (above : 923 ≤ p) (below : p < page_limit) where
  nodes_below : nodes_down_to (Some (nth_direct (direct_number p))) ≡ nodes_of_page p
  nodes_below = sym (ap nodes_down_to (direct_of-number p above below))

  way_in_inode : direct_number p < 2 → IsWay p (nodes_of_page p)
  unfolding top middle bottom
  way_in_inode h =
      let t : top p ≡ 1 + direct_number p = grind (arith, nat_tests) in
      let nodes : top p ∷ [] ≡ nodes_of_page p = ap (λ x. x ∷ []) t ∙ sym (down_in_inode (direct_number p) h) ∙ nodes_below in
      subst (IsWay p) nodes (one (grind (arith, nat_tests)) (grind (arith, nat_tests)))

  way_in_first : 2 ≤ direct_number p → direct_number p < 1020 → IsWay p (nodes_of_page p)
  unfolding top middle bottom
  way_in_first a b =
      let t : top p ≡ 3 = grind (arith, nat_tests) in
      let m : middle p ≡ 4 + (direct_number p - 2) = grind (arith, nat_tests) in
      let nodes : top p ∷ middle p ∷ [] ≡ nodes_of_page p = (λ i. t i ∷ m i ∷ []) ∙ sym (down_in_first (direct_number p) a b) ∙ nodes_below in
      subst (IsWay p) nodes (two (grind (arith, nat_tests)))

  way_in_second : 1020 ≤ direct_number p → direct_number p < 2038 → IsWay p (nodes_of_page p)
  unfolding top middle bottom
  way_in_second a b =
      let t : top p ≡ 1022 = grind (arith, nat_tests) in
      let m : middle p ≡ 1023 + (direct_number p - 1020) = grind (arith, nat_tests) in
      let nodes : top p ∷ middle p ∷ [] ≡ nodes_of_page p = (λ i. t i ∷ m i ∷ []) ∙ sym (down_in_second (direct_number p) a b) ∙ nodes_below in
      subst (IsWay p) nodes (two (grind (arith, nat_tests)))

  way_in_double : 2038 ≤ direct_number p → IsWay p (nodes_of_page p)
  unfolding top middle bottom
  way_in_double a =
      let t : top p ≡ 2041 = grind (arith, nat_tests) in
      let m : middle p ≡ 2042 + (direct_number p - 2038) / 1018 * 1019 = grind (arith, nat_tests) in
      let b : bottom p ≡ 2042 + (direct_number p - 2038) / 1018 * 1019 + 1 + (direct_number p - 2038) % 1018 = grind (arith, nat_tests) in
      let nodes : top p ∷ middle p ∷ bottom p ∷ [] ≡ nodes_of_page p = (λ i. t i ∷ m i ∷ b i ∷ []) ∙ sym (down_in_double (direct_number p) a) ∙ nodes_below in
      subst (IsWay p) nodes three

  way_below : IsWay p (nodes_of_page p)
  way_below =
      elim (cases_lt (direct_number p) 2) [
        | inl in_inode ↦ way_in_inode in_inode
        | inr past_inode ↦ elim (cases_lt (direct_number p) 1020) [
          | inl in_first ↦ way_in_first past_inode in_first
          | inr past_first ↦ elim (cases_lt (direct_number p) 2038) [
            | inl in_second ↦ way_in_second past_first in_second
            | inr in_double ↦ way_in_double in_double
          ]
        ]
      ]

pub way_of : (p : ℕ) → p < page_limit → IsWay p (nodes_of_page p)
way_of p below = elim (cases_lt p 923) [ inl within ↦ way_held p within | inr above ↦ way_below p above below ]

places_of_way : {p : ℕ} {nodes : List ℕ} → IsWay p nodes → four_places (0 ∷ nodes) ≡ 0 ∷ top p ∷ middle p ∷ bottom p ∷ []
places_of_way {p} (held t m b) = λ i. 0 ∷ sym t i ∷ sym m i ∷ sym b i ∷ []
places_of_way {p} (one m b) = λ i. 0 ∷ top p ∷ sym m i ∷ sym b i ∷ []
places_of_way {p} (two b) = λ i. 0 ∷ top p ∷ middle p ∷ sym b i ∷ []
places_of_way three = refl

-- a route's array of nodes
pub places-nodes_of_page : (p : ℕ) → p < page_limit → four_places (0 ∷ nodes_of_page p) ≡ 0 ∷ top p ∷ middle p ∷ bottom p ∷ []
places-nodes_of_page p h = places_of_way (way_of p h)

-- a test of some node of the page is one at the three places, where the inode is tested too
pub any_of_way : {p : ℕ} {nodes : List ℕ} → IsWay p nodes → (test : ℕ → Bool) (others : Bool) → (test 0 || (others || list_any test nodes)) ≡ (test (bottom p) || (test (middle p) || (test (top p) || (test 0 || others))))
any_of_way (held t m b) test others = grind arith
any_of_way (one m b) test others = grind arith
any_of_way (two b) test others = grind arith
any_of_way three test others = grind arith
