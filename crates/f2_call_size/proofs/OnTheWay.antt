-- Nodes on the ways to pages: a node that two pages need is needed by every page between them, at the same place.
use Rattle.std.proofs.Common.{◌≡◌, ◌≢◌, ◌⊎◌, inl, inr, ◌≤◌, ◌<◌, ℕ, Bool, true, false, ◌||◌, ◌==◌, List, [], ◌∷◌, get_or, refl, sym, ap, ◌∙◌, arith, true≢false}
use Rattle.std.specs.Prelude.{Some, None, nat_lt, if◌then◌else◌}
use Rattle.std.specs.List.{list_any}
use Rattle.std.specs.Ordering.{nat_cmp, eq_by_cmp}
use Rattle.std.specs.FinSet as set
use Rattle.std.proofs.lemmas.Bool.{cases_lt, eqb-true, eq-eqb, ltb-false}
use Rattle.std.proofs.lemmas.Bool.Decides.{nat_tests}
use Rattle.f2_format.specs.Offsets.{page_limit, direct_of, nodes_of_page, nodes_over, slots_of_page}
use Rattle.f2_shape.specs.Routes.{four_places, route_of, route_through}
use Rattle.f2_shape.specs.declared.path.Route.{Route}
use Rattle.f2_shape.proofs.Places.{top, middle, bottom, top-le, middle-le, bottom-le, top-middle, top-bottom, middle-bottom, way_of, any_of_way, places-nodes_of_page}
use Rattle.f2_call_size.specs.Beyond.{is_one, IsNear}
use Rattle.f2_call_size.proofs.Listed.{tied, passing, passes, contains-nodes}

-- a page that no file can have needs no node
pub no_node : (page : ℕ) → page_limit ≤ page → nodes_of_page page ≡ []
unfolding direct_of
no_node page past = grind (arith, nat_tests)

-- the way to a page, and the node at each place of it
abbrev pub way : ℕ → List ℕ
way page = four_places (0 ∷ nodes_of_page page)

pub way_past : (page : ℕ) → page_limit ≤ page → way page ≡ 0 ∷ 0 ∷ 0 ∷ 0 ∷ []
way_past page past = ap (λ nodes. four_places (0 ∷ nodes)) (no_node page past)

-- a route has these nodes, and where there is none no file can have the page
pub route_nodes : (page : ℕ) (route : Route) → route_of page ≡ Some route → route.nodes ≡ way page
unfolding route_of
route_nodes page route is = by (nat_lt page page_limit) is
  where
    by : (b : Bool) → (if b then Some (route_through (0 ∷ nodes_of_page page) (slots_of_page page)) else None) ≡ Some route → route.nodes ≡ way page
    by true is = let same : route ≡ route_through (0 ∷ nodes_of_page page) (slots_of_page page) = cc in ap (λ (r : Route). r.nodes) same
    by false is = absurd (cc)

pub no_route : (page : ℕ) → route_of page ≡ None → page_limit ≤ page
unfolding route_of
no_route page is = by (nat_lt page page_limit) refl is
  where
    by : (b : Bool) → nat_lt page page_limit ≡ b → (if b then Some (route_through (0 ∷ nodes_of_page page) (slots_of_page page)) else None) ≡ None → page_limit ≤ page
    by true e is = absurd (cc)
    by false e is = ltb-false page page_limit e

-- the node at a place of the way: each page needs it, where it isn't the inode, and no page has it elsewhere
pub record IsPlace (at : ℕ → ℕ) (place : ℕ → ℕ) : Type 0 where
  pub within : (page : ℕ) → page < page_limit → at page ≡ place page
  pub past : (page : ℕ) → page_limit ≤ page → at page ≡ 0
  pub rises : (p q : ℕ) → p ≤ q → place p ≤ place q
  pub sees : (p q : ℕ) → q < page_limit → place p ≢ 0 → is_one (place p) (nodes_of_page q) ≡ (place p == place q)

seen : (q n : ℕ) → q < page_limit → n ≢ 0 → is_one n (nodes_of_page q) ≡ (eq_by_cmp nat_cmp n (bottom q) || (eq_by_cmp nat_cmp n (middle q) || eq_by_cmp nat_cmp n (top q)))
seen q n below other =
    let all = any_of_way (way_of q below) (eq_by_cmp nat_cmp n) false in
    let zero : eq_by_cmp nat_cmp n 0 ≡ false = grind (arith, nat_tests) in
    sym (ap (λ b. b || (false || is_one n (nodes_of_page q))) zero) ∙ all
    ∙ ap (λ b. eq_by_cmp nat_cmp n (bottom q) || (eq_by_cmp nat_cmp n (middle q) || (eq_by_cmp nat_cmp n (top q) || (b || false)))) zero
    ∙ ap (λ b. eq_by_cmp nat_cmp n (bottom q) || (eq_by_cmp nat_cmp n (middle q) || b)) (or_false (eq_by_cmp nat_cmp n (top q)))
  where
    or_false : (b : Bool) → (b || (false || false)) ≡ b
    or_false true = refl
    or_false false = refl

sees_top : (p q : ℕ) → q < page_limit → top p ≢ 0 → is_one (top p) (nodes_of_page q) ≡ (top p == top q)
sees_top p q below other =
    let all = seen q (top p) below other in
    let no_middle = top-middle p q in
    let no_bottom = top-bottom p q in
    all ∙ grind (arith, nat_tests)

sees_middle : (p q : ℕ) → q < page_limit → middle p ≢ 0 → is_one (middle p) (nodes_of_page q) ≡ (middle p == middle q)
sees_middle p q below other =
    let all = seen q (middle p) below other in
    let no_top = top-middle q p in
    let no_bottom = middle-bottom p q in
    all ∙ grind (arith, nat_tests)

sees_bottom : (p q : ℕ) → q < page_limit → bottom p ≢ 0 → is_one (bottom p) (nodes_of_page q) ≡ (bottom p == bottom q)
sees_bottom p q below other =
    let all = seen q (bottom p) below other in
    let no_top = top-bottom q p in
    let no_middle = middle-bottom q p in
    all ∙ grind (arith, nat_tests)

abbrev pub at_top : ℕ → ℕ
at_top page = get_or (way page) 1 0

abbrev pub at_middle : ℕ → ℕ
at_middle page = get_or (way page) 2 0

abbrev pub at_bottom : ℕ → ℕ
at_bottom page = get_or (way page) 3 0

pub top_place : IsPlace at_top top
top_place = record {
  within = λ page below. ap (λ (w : List ℕ). get_or w 1 0) (places-nodes_of_page page below);
  past = λ page past. ap (λ (w : List ℕ). get_or w 1 0) (way_past page past);
  rises = top-le;
  sees = sees_top;
}

pub middle_place : IsPlace at_middle middle
middle_place = record {
  within = λ page below. ap (λ (w : List ℕ). get_or w 2 0) (places-nodes_of_page page below);
  past = λ page past. ap (λ (w : List ℕ). get_or w 2 0) (way_past page past);
  rises = middle-le;
  sees = sees_middle;
}

pub bottom_place : IsPlace at_bottom bottom
bottom_place = record {
  within = λ page below. ap (λ (w : List ℕ). get_or w 3 0) (places-nodes_of_page page below);
  past = λ page past. ap (λ (w : List ℕ). get_or w 3 0) (way_past page past);
  rises = bottom-le;
  sees = sees_bottom;
}

some_or_none : (n : ℕ) → (n ≡ 0) ⊎ (n ≢ 0)
some_or_none n = by (n == 0) refl
  where
    by : (b : Bool) → (n == 0) ≡ b → (n ≡ 0) ⊎ (n ≢ 0)
    by true e = inl (eqb-true n 0 e)
    by false e = inr (λ h. true≢false (sym (eq-eqb n 0 h) ∙ e))

-- whether some pages need the node at a place of a page's way, told by the pages that are nearest
module _ (at place : ℕ → ℕ) (is : IsPlace at place) (zero : place 0 ≡ 0) (own : List ℕ) (page before after : ℕ) (near : IsNear own page before after) (other : at page ≢ 0) where
  below : page < page_limit
  below = elim (cases_lt page page_limit) [ inl h ↦ h | inr h ↦ absurd (other (is.past page h)) ]

  here : at page ≡ place page
  here = is.within page below

  node : place page ≢ 0
  node e = other (here ∙ e)

  abbrev needs : ℕ → Bool
  needs q = is_one (at page) (nodes_of_page q)

  needs-is : (q : ℕ) → q < page_limit → needs q ≡ (place page == place q)
  needs-is q h = ap (λ n. is_one n (nodes_of_page q)) here ∙ is.sees page q h node

  needed : (q : ℕ) → needs q ≡ true → (q < page_limit) × (place page ≡ place q)
  needed q h = elim (cases_lt q page_limit) [
    | inl within ↦ (within, eqb-true (place page) (place q) (sym (needs-is q within) ∙ h))
    | inr past ↦ absurd (true≢false (sym h ∙ ap (is_one (at page)) (no_node q past)))
  ]

  -- a nearest page with the same node is one that needs it
  nearest : (q : ℕ) → (q ≡ 0) ⊎ (is_one q own ≡ true) → at page ≡ at q → list_any needs own ≡ true
  nearest q in_own e = elim (cases_lt q page_limit) [
    | inr past ↦ absurd (other (e ∙ is.past q past))
    | inl within ↦ elim in_own [
      | inl none ↦ absurd (other (e ∙ is.within q within ∙ ap place none ∙ zero))
      | inr there ↦ passes needs own q there (needs-is q within ∙ eq-eqb (place page) (place q) (sym here ∙ e ∙ is.within q within))
    ]
  ]

  -- and each page that needs it lies behind a nearest page that does
  behind : (q : ℕ) → is_one q own ≡ true → needs q ≡ true → (at page ≡ at before) ⊎ (at page ≡ at after)
  behind q there h =
      let same = needed q h in
      elim (near.sides q there) [
        | inl side ↦
            let low = is.rises q before side.0 in
            let high = is.rises before page side.1 in
            let level : place page ≡ place before = omega (arith, same, low, high) in
            inl (here ∙ level ∙ sym (is.within before (omega (arith, below, side))))
        | inr side ↦
            let low = is.rises page after side.0 in
            let high = is.rises after q side.1 in
            let level : place page ≡ place after = omega (arith, same, low, high) in
            inr (here ∙ level ∙ sym (is.within after (omega (arith, same, side))))
      ]

  known : set.contains (nodes_over own) (at page) ≡ list_any needs own
  known =
      let zero : eq_by_cmp nat_cmp (at page) 0 ≡ false = no_tie (eq_by_cmp nat_cmp (at page) 0) refl in
      contains-nodes own (at page) ∙ ap (λ b. b || list_any needs own) zero
    where
      no_tie : (b : Bool) → eq_by_cmp nat_cmp (at page) 0 ≡ b → eq_by_cmp nat_cmp (at page) 0 ≡ false
      no_tie true e = absurd (other (tied (at page) 0 e))
      no_tie false e = e

  pub decides : set.contains (nodes_over own) (at page) ≡ ((at page == at before) || (at page == at after))
  decides = known ∙ by (list_any needs own) refl (at page == at before) refl (at page == at after) refl
    where
      by : (a : Bool) → list_any needs own ≡ a → (b : Bool) → (at page == at before) ≡ b → (c : Bool) → (at page == at after) ≡ c → a ≡ (b || c)
      by true h true e c f = refl
      by true h false e true f = refl
      by true h false e false f =
          let one = passing needs own h in
          elim (behind one.0 one.1 one.2) [
            | inl same ↦ absurd (true≢false (sym (eq-eqb (at page) (at before) same) ∙ e))
            | inr same ↦ absurd (true≢false (sym (eq-eqb (at page) (at after) same) ∙ f))
          ]
      by false h true e c f = absurd (true≢false (sym (nearest before near.before_in (eqb-true (at page) (at before) e)) ∙ h))
      by false h false e true f = absurd (true≢false (sym (nearest after near.after_in (eqb-true (at page) (at after) f)) ∙ h))
      by false h false e false f = refl
