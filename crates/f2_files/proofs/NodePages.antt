-- Which direct nodes have one of some pages.
use Rattle.std.proofs.Common.{◌≡◌, ◌≢◌, ℕ, ◌+◌, ◌-◌, ◌<◌, ◌≤◌, Bool, true, false, true≢false, cond, not, ◌&&◌, ◌||◌, ◌==◌, List, [], ◌∷◌, refl, sym, ap, ◌∙◌, arith}
use Rattle.std.specs.Prelude.{Option, Some, None, is_some, min, nat_lt}
use Rattle.std.specs.List.{cons_option, list_any}
use Rattle.std.specs.Ordering.{nat_cmp, eq_by_cmp}
use Rattle.std.specs.Cmp.{both_ways}
use Rattle.std.specs.FinMap as map
use Rattle.std.specs.FinMap.{FinMap, nat_cmp-IsAntisymmetric}
use Rattle.std.proofs.lemmas.Bool.{eqb-true, eq-eqb}
use Rattle.std.proofs.lemmas.Bool.Decides.{nat_tests}
use Rattle.f2_format.specs.Offsets.{direct_of, direct_slot}
use Rattle.f2_shape.specs.Routes.{IsFirstPage}
use Rattle.f2_shape.proofs.Laws.{direct_of-first_page, first_page-direct_slot}
use Rattle.f2_model.specs.State.{directs_of}
use Rattle.f2_laws.proofs.Missing.{tied-true, tied-same}
use Rattle.f2_files.specs.Cuts.{Addressed, has_page_in}

or_true : (a : Bool) → (a || true) ≡ true
or_true true = refl
or_true false = refl

abbrev pub is_among : List ℕ → ℕ → Bool
is_among xs x = list_any (eq_by_cmp nat_cmp x) xs

-- a list has a number that passes where one is found, and the other way round
pub passing : (test : ℕ → Bool) (xs : List ℕ) → list_any test xs ≡ true → (x : ℕ) × (is_among xs x ≡ true) × (test x ≡ true)
passing test [] h = absurd (true≢false (sym h))
passing test (x ∷ xs) h = by_test (passing test xs) (test x) refl h
  where
    by_test : (list_any test xs ≡ true → (y : ℕ) × (is_among xs y ≡ true) × (test y ≡ true)) → (b : Bool) → test x ≡ b → (b || list_any test xs) ≡ true → (y : ℕ) × (is_among (x ∷ xs) y ≡ true) × (test y ≡ true)
    by_test rest true is h = (x, ap (λ b. b || is_among xs x) (tied-same x), is)
    by_test rest false is h = let found = rest h in (found.0, ap (λ b. eq_by_cmp nat_cmp found.0 x || b) found.1 ∙ or_true (eq_by_cmp nat_cmp found.0 x), found.2)

pub passes : (test : ℕ → Bool) (xs : List ℕ) (x : ℕ) → is_among xs x ≡ true → test x ≡ true → list_any test xs ≡ true
passes test [] x h is = absurd (true≢false (sym h))
passes test (y ∷ ys) x h is = by_tie (passes test ys x) (eq_by_cmp nat_cmp x y) refl h
  where
    by_tie : (is_among ys x ≡ true → test x ≡ true → list_any test ys ≡ true) → (b : Bool) → eq_by_cmp nat_cmp x y ≡ b → (b || is_among ys x) ≡ true → (test y || list_any test ys) ≡ true
    by_tie rest true tie h = ap (λ b. b || list_any test ys) (ap test (sym (tied-true x y tie)) ∙ is)
    by_tie rest false tie h = ap (λ b. test y || b) (rest h is) ∙ or_true (test y)

abbrev is_node : ℕ → Option ℕ → Bool
is_node node None = false
is_node node (Some other) = other == node

node_same : (node : ℕ) (o : Option ℕ) → is_node node o ≡ true → o ≡ Some node
node_same node None h = absurd (true≢false (sym h))
node_same node (Some other) h = ap Some (eqb-true other node h)

any_direct : (node : ℕ) (pages : List ℕ) → list_any (λ other. other == node) (directs_of pages) ≡ list_any (λ page. is_node node (direct_of page)) pages
any_direct node [] = refl
any_direct node (page ∷ pages) = by_direct (any_direct node pages) (direct_of page)
  where
    by_direct : list_any (λ other. other == node) (directs_of pages) ≡ list_any (λ page. is_node node (direct_of page)) pages → (o : Option ℕ)
        → list_any (λ other. other == node) (cons_option o (directs_of pages)) ≡ (is_node node o || list_any (λ page. is_node node (direct_of page)) pages)
    by_direct rest None = rest
    by_direct rest (Some other) = ap (λ b. (other == node) || b) rest

-- a direct node has a page where one stands in it
pub has_page : (pages : Addressed) (node page : ℕ) → map.contains_key pages page ≡ true → direct_of page ≡ Some node → has_page_in pages node ≡ true
has_page pages node page there direct =
    any_direct node (map.keys pages)
    ∙ passes (λ p. is_node node (direct_of p)) (map.keys pages) page (sym (map.contains_key-keys pages page) ∙ there) (ap (is_node node) direct ∙ eq-eqb node node refl)

pub page_of_node : (pages : Addressed) (node : ℕ) → has_page_in pages node ≡ true → (page : ℕ) × (map.contains_key pages page ≡ true) × (direct_of page ≡ Some node)
page_of_node pages node has =
    let found = passing (λ p. is_node node (direct_of p)) (map.keys pages) (sym (any_direct node (map.keys pages)) ∙ has) in
    (found.0, map.contains_key-keys pages found.0 ∙ found.1, node_same node (direct_of found.0) found.2)

-- pages that pass a test
pub contains-retain : {X : Type 0} (pages : FinMap nat_cmp X) (test : ℕ → Bool) (q : ℕ) → map.contains_key (map.retain_keys pages test) q ≡ (test q && map.contains_key pages q)
contains-retain pages test q =
    ap (λ o. is_some o) (map.get-retain_keys pages test q (λ x tie. ap test (sym (nat_cmp-IsAntisymmetric q x tie))))
    ∙ by_test (test q) (map.get pages q)
  where
    by_test : {X : Type 0} (b : Bool) (o : Option X) → is_some (cond b o None) ≡ (b && is_some o)
    by_test true o = refl
    by_test false o = refl

both_true : (a b : Bool) → (a && b) ≡ true → (a ≡ true) × (b ≡ true)
both_true true b h = (refl, h)
both_true false b h = absurd (true≢false (sym h))

module _ (pages : Addressed) (end node : ℕ) where
  abbrev pages_to : Addressed
  pages_to = map.retain_keys pages (λ page. nat_lt page end)

  -- the pages of a direct node stand behind its first one
  pub node_between : (first : ℕ) → IsFirstPage node first → list_any (λ page. not (nat_lt page first) && nat_lt page (min end (first + 1018))) (map.keys pages) ≡ has_page_in pages_to node
  node_between first is = both_ways _ _ has found
    where
      has : list_any (λ page. not (nat_lt page first) && nat_lt page (min end (first + 1018))) (map.keys pages) ≡ true → has_page_in pages_to node ≡ true
      has h =
          let one = passing (λ page. not (nat_lt page first) && nat_lt page (min end (first + 1018))) (map.keys pages) h in
          let page : ℕ = one.0 in
          let parts = both_true (not (nat_lt page first)) (nat_lt page (min end (first + 1018))) one.2 in
          let low : first ≤ page = grind (arith, nat_tests) in
          let high : page < min end (first + 1018) = grind (arith, nat_tests) in
          let slot : page - first < 1018 = omega arith in
          let behind : first + (page - first) ≡ page = omega arith in
          let early : nat_lt page end ≡ true = grind (arith, nat_tests) in
          has_page pages_to node page
          (contains-retain pages (λ p. nat_lt p end) page ∙ ap (λ b. b && map.contains_key pages page) early ∙ map.contains_key-keys pages page ∙ one.1)
          (ap direct_of (sym behind) ∙ direct_of-first_page node first (page - first) is slot)

      found : has_page_in pages_to node ≡ true → list_any (λ page. not (nat_lt page first) && nat_lt page (min end (first + 1018))) (map.keys pages) ≡ true
      found h =
          let one = page_of_node pages_to node h in
          let page : ℕ = one.0 in
          let parts = both_true (nat_lt page end) (map.contains_key pages page) (sym (contains-retain pages (λ p. nat_lt p end) page) ∙ one.1) in
          let least : first ≤ page = is.least page one.2 in
          let place : page ≡ first + direct_slot page = first_page-direct_slot node first page is one.2 in
          let test : (not (nat_lt page first) && nat_lt page (min end (first + 1018))) ≡ true = grind (arith, nat_tests) in
          passes (λ p. not (nat_lt p first) && nat_lt p (min end (first + 1018))) (map.keys pages) page (sym (map.contains_key-keys pages page) ∙ parts.1) test

  pub no_node : ((page : ℕ) → direct_of page ≢ Some node) → has_page_in pages_to node ≡ false
  no_node none = by_test (has_page_in pages_to node) refl
    where
      by_test : (b : Bool) → has_page_in pages_to node ≡ b → b ≡ false
      by_test false is = refl
      by_test true is = let one = page_of_node pages_to node is in absurd (none one.0 one.2)
