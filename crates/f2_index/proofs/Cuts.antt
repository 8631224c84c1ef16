-- Pages taken out one by one from the end, and pages cut off at once.
use Rattle.std.proofs.Common.{◌≡◌, ℕ, ◌-◌, ◌<◌, ◌≤◌, Bool, true, false, not, ◌&&◌, ◌||◌, cond, if◌then◌else◌, List, [], ◌∷◌, length, Option, Some, None, is_some, nat_lt, refl, ap, sym, ◌∙◌, arith, inl, inr}
use Rattle.std.specs.Ordering.{nat_cmp, eq_by_cmp}
use Rattle.std.specs.Cmp.{nat_cmp_total}
use Rattle.std.specs.FinMap as map
use Rattle.std.specs.FinSet as set
use Rattle.std.proofs.lemmas.Bool.{cases_eq, cases_lt, cases_order, or_cases}
use Rattle.std.proofs.lemmas.Bool.Decides.{nat_tests}
use Rattle.f2_format.specs.Offsets.{direct_of}
use Rattle.f2_index.specs.Paged.{Paged, IsCut, is_direct_of, pages_of, has_page}
use Rattle.f2_index.specs.Nodes.{Nodes, AreNodesOf, counted, is_dirty, dirty_of, without_page}
use Rattle.f2_index.specs.declared.nodes.Node.{Node}
use Rattle.f2_index.specs.Tables.{IsLastFrom}
use Rattle.f2_index.proofs.Tables.{same}
use Rattle.f2_index.proofs.Counts.{get-kept, len-kept-remove, contains-dirty_of}
use Rattle.f2_index.proofs.Indexed.{len_since, shown, test_of}

abbrev Pages : Type 0
Pages = map.FinMap nat_cmp ℕ

same_bool : (a b : Bool) → (a ≡ true → b ≡ true) → (b ≡ true → a ≡ true) → a ≡ b
same_bool true b f g = sym (f refl)
same_bool false true f g = g refl
same_bool false false f g = refl

some_entry : {X : Type 0} (m : map.FinMap nat_cmp X) (es : List (ℕ × X)) → map.entries m ≡ es → 0 < map.len m → (k : ℕ) × (is_some (map.get m k) ≡ true)
some_entry m [] e some = absurd (omega (arith, map.len-entries m, ap (λ es. length es) e))
some_entry m (x ∷ es) e some =
    (x.0, ap is_some (map.get-entries m x.0 ∙ ap (map.find nat_cmp x.0) e) ∙ here x.0)
  where
    here : (k : ℕ) → is_some (cond (eq_by_cmp nat_cmp k k) (Some x.1) (map.find nat_cmp k es)) ≡ true
    here k = grind (arith, nat_tests)

-- a page that a direct node has
pub page_of : (m : Pages) (d : ℕ) → has_page m d ≡ true → (k : ℕ) × ((is_some (map.get m k) ≡ true) × (test_of d k ≡ true))
page_of m d has =
    let long : 0 < map.len (pages_of m d) = grind (arith, nat_tests) in
    let found = some_entry (pages_of m d) (map.entries (pages_of m d)) refl long in
    let kept = sym (ap is_some (get-kept m (test_of d) found.0)) ∙ found.1 in
    (found.0, both (map.get m found.0) (test_of d found.0) kept)
  where
    both : (o : Option ℕ) (b : Bool) → is_some (cond b o None) ≡ true → (is_some o ≡ true) × (b ≡ true)
    both o true h = (h, refl)
    both o false h = absurd (let wrong : ◌≡◌ false true = h in cc)

-- a direct node that has this page
has_since : (m : Pages) (d k : ℕ) → is_some (map.get m k) ≡ true → test_of d k ≡ true → has_page m d ≡ true
has_since m d k there test =
    let kept : is_some (map.get (pages_of m d) k) ≡ true = ap is_some (get-kept m (test_of d) k ∙ ap (λ b. cond b (map.get m k) None) test) ∙ there in
    let long = len_since (pages_of m d) k kept in
    grind (arith, nat_tests)

abbrev before : ℕ → ℕ → Bool
before from page = nat_lt page from

abbrev after : ℕ → ℕ → Bool
after from page = not (nat_lt page from)

there_before : (m : Pages) (from k : ℕ) → is_some (map.get (map.retain_keys m (before from)) k) ≡ (nat_lt k from && is_some (map.get m k))
there_before m from k = ap is_some (get-kept m (before from) k) ∙ split (nat_lt k from) (map.get m k)
  where
    split : (b : Bool) (o : Option ℕ) → is_some (cond b o None) ≡ (b && is_some o)
    split true o = refl
    split false o = refl

there_after : (m : Pages) (from k : ℕ) → is_some (map.get (map.retain_keys m (after from)) k) ≡ (not (nat_lt k from) && is_some (map.get m k))
there_after m from k = ap is_some (get-kept m (after from) k) ∙ split (not (nat_lt k from)) (map.get m k)
  where
    split : (b : Bool) (o : Option ℕ) → is_some (cond b o None) ≡ (b && is_some o)
    split true o = refl
    split false o = refl

-- what is cut off of a map, and of what is left of it
kept_twice : (m : Pages) (from page : ℕ) → from ≤ page → map.retain_keys (map.retain_keys m (before page)) (before from) ≡ map.retain_keys m (before from)
kept_twice m from page order = same _ _ (λ q.
    get-kept (map.retain_keys m (before page)) (before from) q ∙ ap (λ o. cond (nat_lt q from) o None) (get-kept m (before page) q)
    ∙ grind (arith, nat_tests) ∙ sym (get-kept m (before from) q))

has_fewer : (m : Pages) (from page d : ℕ) → from ≤ page → has_page (map.retain_keys m (before from)) d ≡ true → has_page (map.retain_keys m (before page)) d ≡ true
has_fewer m from page d order has =
    let found = page_of (map.retain_keys m (before from)) d has in
    has_since (map.retain_keys m (before page)) d found.0 (there_before m page found.0 ∙ (let was = there_before m from found.0 in let it = found.1.0 in grind (arith, nat_tests))) found.1.1

pub or_left : (a b : Bool) → a ≡ true → (a || b) ≡ true
or_left true b e = refl
or_left false b e = absurd (let wrong : ◌≡◌ false true = e in cc)

pub or_right : (a b : Bool) → b ≡ true → (a || b) ≡ true
or_right true b e = refl
or_right false b e = e

has_after : (m : Pages) (from page d : ℕ) → from ≤ page → has_page (map.retain_keys m (after from)) d ≡ (has_page (map.retain_keys m (after page)) d || has_page (map.retain_keys (map.retain_keys m (before page)) (after from)) d)
has_after m from page d order =
    same_bool _ _
    (λ has.
    let found = page_of (map.retain_keys m (after from)) d has in
    let was = there_after m from found.0 in
    let it = found.1.0 in
    elim (cases_lt found.0 page) [
      | inl below ↦
          let early : is_some (map.get (map.retain_keys (map.retain_keys m (before page)) (after from)) found.0) ≡ true =
          there_after (map.retain_keys m (before page)) from found.0 ∙ (let cut = there_before m page found.0 in grind (arith, nat_tests))
          in
          let some = has_since (map.retain_keys (map.retain_keys m (before page)) (after from)) d found.0 early found.1.1 in
          or_right _ _ some
      | inr above ↦
          let late : is_some (map.get (map.retain_keys m (after page)) found.0) ≡ true = there_after m page found.0 ∙ grind (arith, nat_tests) in
          or_left _ _ (has_since (map.retain_keys m (after page)) d found.0 late found.1.1)
    ])
    (λ either. elim (or_cases _ _ either) [
      | inl late ↦
          let found = page_of (map.retain_keys m (after page)) d late in
          let was = there_after m page found.0 in
          let it = found.1.0 in
          has_since (map.retain_keys m (after from)) d found.0 (there_after m from found.0 ∙ grind (arith, nat_tests)) found.1.1
      | inr early ↦
          let found = page_of (map.retain_keys (map.retain_keys m (before page)) (after from)) d early in
          let was = there_after (map.retain_keys m (before page)) from found.0 in
          let cut = there_before m page found.0 in
          let it = found.1.0 in
          has_since (map.retain_keys m (after from)) d found.0 (there_after m from found.0 ∙ grind (arith, nat_tests)) found.1.1
    ])

-- cut from a page, and then from an earlier one
pub IsCut-twice : (from page : ℕ) (a b c : Paged) → from ≤ page → IsCut page a b → IsCut from b c → IsCut from a c
IsCut-twice from page a b c order first second =
    let pages = second.pages ∙ ap (λ m. map.retain_keys m (before from)) first.pages ∙ kept_twice a.pages from page order in
    record {
      pages = pages;
      dirty = λ d.
          let fewer : has_page c.pages d ≡ true → has_page b.pages d ≡ true = λ has.
          ap (λ m. has_page m d) first.pages ∙ has_fewer a.pages from page d order (sym (ap (λ m. has_page m d) pages) ∙ has)
          in
          let lost = ap (λ m. has_page (map.retain_keys m (after from)) d) first.pages in
          second.dirty d
          ∙ ap (λ r. has_page c.pages d && (set.contains b.dirty d || r)) lost
          ∙ ap (λ x. has_page c.pages d && (x || has_page (map.retain_keys (map.retain_keys a.pages (before page)) (after from)) d)) (first.dirty d)
          ∙ joined (has_page c.pages d) (has_page b.pages d) (set.contains a.dirty d) (has_page (map.retain_keys a.pages (after page)) d)
          (has_page (map.retain_keys (map.retain_keys a.pages (before page)) (after from)) d) fewer
          ∙ ap (λ r. has_page c.pages d && (set.contains a.dirty d || r)) (sym (has_after a.pages from page d order));
    }
  where
    joined : (hc hb x p r : Bool) → (hc ≡ true → hb ≡ true) → (hc && ((hb && (x || p)) || r)) ≡ (hc && (x || (p || r)))
    joined false hb x p r fewer = refl
    joined true true true p r fewer = refl
    joined true true false p r fewer = refl
    joined true false x p r fewer = absurd (let wrong : ◌≡◌ false true = fewer refl in cc)

-- a node with one page less, where it keeps one
lessened : ℕ → Option Node
lessened pages = if nat_lt 1 pages then Some (record { pages = pages - 1; dirty = true }) else None

counted_lessened : (pages : ℕ) → counted (lessened pages) ≡ pages - 1
unfolding lessened
counted_lessened pages = elim (cases_lt 1 pages) [ inl more ↦ grind (arith, nat_tests) | inr one ↦ grind (arith, nat_tests) ]

present_lessened : (pages : ℕ) → is_some (lessened pages) ≡ nat_lt 1 pages
unfolding lessened
present_lessened pages = elim (cases_lt 1 pages) [ inl more ↦ grind (arith, nat_tests) | inr one ↦ grind (arith, nat_tests) ]

dirty_lessened : (pages : ℕ) → is_dirty (lessened pages) ≡ nat_lt 1 pages
unfolding lessened
dirty_lessened pages = elim (cases_lt 1 pages) [ inl more ↦ grind (arith, nat_tests) | inr one ↦ grind (arith, nat_tests) ]

get-without_page : (nodes : Nodes) (o : Option ℕ) (d : ℕ) → map.get (without_page nodes o) d ≡ cond (is_direct_of d o) (lessened (counted (map.get nodes d))) (map.get nodes d)
unfolding lessened
get-without_page nodes None d = refl
get-without_page nodes (Some e) d =
    elim (cases_eq e d) [
      | inl same ↦ rw same (by_test (nat_lt 1 (counted (map.get nodes d))) d ∙ found d)
      | inr apart ↦ by_test (nat_lt 1 (counted (map.get nodes e))) e ∙ grind (arith, nat_tests)
    ]
  where
    by_test : (b : Bool) (k : ℕ) → map.get (if b then map.insert nodes k (record { pages = counted (map.get nodes k) - 1; dirty = true }) else map.remove nodes k) d ≡ cond (eq_by_cmp nat_cmp d k) (if b then Some (record { pages = counted (map.get nodes k) - 1; dirty = true }) else None) (map.get nodes d)
    by_test true k = map.get-insert nat_cmp_total nodes k _ d
    by_test false k = map.get-remove nat_cmp_total nodes k d

    found : (k : ℕ) → cond (eq_by_cmp nat_cmp k k) (if nat_lt 1 (counted (map.get nodes k)) then Some (record { pages = counted (map.get nodes k) - 1; dirty = true }) else None) (map.get nodes k) ≡ cond (is_direct_of k (Some k)) (lessened (counted (map.get nodes k))) (map.get nodes k)
    found k = grind (arith, nat_tests)

apart_cond : {A : Type 0} (f : Option Node → A) (b : Bool) (o n : Option Node) → f (cond b o n) ≡ cond b (f o) (f n)
apart_cond f true o n = refl
apart_cond f false o n = refl

module _ (pages : Pages) (nodes : Nodes) (are : AreNodesOf pages nodes) where
  abbrev less : ℕ → Nodes
  less page = without_page nodes (direct_of page)

  -- the pages without one that was there
  pub AreNodesOf-removed : (page : ℕ) → is_some (map.get pages page) ≡ true → AreNodesOf (map.remove pages page) (without_page nodes (direct_of page))
  AreNodesOf-removed page there = record {
    below = λ q has.
        let gone = map.get-remove nat_cmp_total pages page q in
        are.below q (elim (cases_eq q page) [ inl same ↦ rw same there | inr apart ↦ sym (ap is_some (gone ∙ grind (arith, nat_tests))) ∙ has ]);
    counts = λ d.
        let long = len-kept-remove pages (test_of d) page (test_of d page) refl in
        let had = are.counts d in
        ap counted (get-without_page nodes (direct_of page) d) ∙ apart_cond counted (test_of d page) _ _
        ∙ ap (λ n. cond (test_of d page) n (counted (map.get nodes d))) (counted_lessened (counted (map.get nodes d)))
        ∙ grind arith;
    present = λ d.
        let long = len-kept-remove pages (test_of d) page (test_of d page) refl in
        let had = are.counts d in
        let has = are.present d in
        ap is_some (get-without_page nodes (direct_of page) d) ∙ apart_cond is_some (test_of d page) _ _
        ∙ ap (λ n. cond (test_of d page) n (is_some (map.get nodes d))) (present_lessened (counted (map.get nodes d)))
        ∙ grind (arith, nat_tests);
  }

  -- to take the last page out is to cut from it
  pub IsCut-last : (from page : ℕ) → IsLastFrom pages from page → IsCut page (shown pages (dirty_of nodes)) (shown (map.remove pages page) (dirty_of (without_page nodes (direct_of page))))
  IsCut-last from page last = record {
    pages = kept_last;
    dirty = λ d.
        let lost = after_last d in
        let left = len-kept-remove pages (test_of d) page (test_of d page) refl in
        contains-dirty_of (less page) d ∙ ap is_dirty (get-without_page nodes (direct_of page) d) ∙ apart_cond is_dirty (test_of d page) _ _
        ∙ ap (λ b. cond (test_of d page) b (is_dirty (map.get nodes d))) (dirty_lessened (counted (map.get nodes d)))
        ∙ settled (test_of d page) (map.get nodes d) (map.len (pages_of pages d)) (are.counts d) (are.present d)
        ∙ ap (λ n. nat_lt 0 n && (is_dirty (map.get nodes d) || test_of d page)) (there_too (test_of d page) _ ∙ sym left)
        ∙ ap (λ b. has_page (map.remove pages page) d && (b || test_of d page)) (sym (contains-dirty_of nodes d))
        ∙ ap (λ b. has_page (map.remove pages page) d && (set.contains (dirty_of nodes) d || b)) (sym lost);
  }
    where
      kept_last : map.remove pages page ≡ map.retain_keys pages (before page)
      kept_last = same _ _ (λ q.
          map.get-remove nat_cmp_total pages page q
          ∙ elim (cases_order q page) [
            | inl same_page ↦ rw same_page (sym (get-kept pages (before page) page ∙ grind (arith, nat_tests)))
            | inr (inl below) ↦ sym (get-kept pages (before page) q ∙ grind (arith, nat_tests))
            | inr (inr above) ↦ rw (last.greatest q above) (sym (get-kept pages (before page) q ∙ rw (last.greatest q above) (grind (arith, nat_tests))))
          ])

      after_last : (d : ℕ) → has_page (map.retain_keys pages (after page)) d ≡ test_of d page
      after_last d = same_bool _ _
          (λ has.
          let found = page_of (map.retain_keys pages (after page)) d has in
          let was = there_after pages page found.0 in
          let it = found.1.0 in
          elim (cases_order found.0 page) [
            | inl same_page ↦ sym (ap (test_of d) same_page) ∙ found.1.1
            | inr (inl below) ↦ absurd (let no : ◌≡◌ false true = grind (arith, nat_tests) in cc)
            | inr (inr above) ↦
                let gone : is_some (map.get pages found.0) ≡ false = ap is_some (last.greatest found.0 above) in
                absurd (let no : ◌≡◌ false true = grind (arith, nat_tests) in cc)
          ])
          (λ test. has_since (map.retain_keys pages (after page)) d page (there_after pages page page ∙ (let it = last.there in grind (arith, nat_tests))) test)

      there_too : (t : Bool) (n : ℕ) → cond t (n - 1) n ≡ cond (t && is_some (map.get pages page)) (n - 1) n
      there_too t n = let it = last.there in grind arith

      settled : (t : Bool) (o : Option Node) (n : ℕ) → counted o ≡ n → is_some o ≡ nat_lt 0 n → cond t (nat_lt 1 (counted o)) (is_dirty o) ≡ (nat_lt 0 (cond t (n - 1) n) && (is_dirty o || t))
      settled true None n e f = grind (arith, nat_tests)
      settled true (Some node) n e f = elim (cases_lt 1 n) [ inl more ↦ grind (arith, nat_tests) | inr few ↦ grind (arith, nat_tests) ]
      settled false None n e f = grind (arith, nat_tests)
      settled false (Some node) n e f = grind (arith, nat_tests)

  -- to cut from beyond the last page changes nothing
  pub IsCut-beyond : (from : ℕ) → ((page : ℕ) → from ≤ page → map.get pages page ≡ None) → IsCut from (shown pages (dirty_of nodes)) (shown pages (dirty_of nodes))
  IsCut-beyond from beyond = record {
    pages = same _ _ (λ q. elim (cases_lt q from) [
      | inl below ↦ sym (get-kept pages (before from) q ∙ grind (arith, nat_tests))
      | inr above ↦ beyond q above ∙ sym (get-kept pages (before from) q ∙ ap (cond (nat_lt q from) (map.get pages q)) refl ∙ grind (arith, nat_tests))
    ]);
    dirty = λ d.
        let none : has_page (map.retain_keys pages (after from)) d ≡ false = same_bool _ false
        (λ has.
        let found = page_of (map.retain_keys pages (after from)) d has in
        let was = there_after pages from found.0 in
        let it = found.1.0 in
        let above : from ≤ found.0 = grind (arith, nat_tests) in
        let gone : is_some (map.get pages found.0) ≡ false = ap is_some (beyond found.0 above) in
        grind (arith, nat_tests))
        (λ wrong. absurd (let no : ◌≡◌ false true = wrong in cc))
        in
        contains-dirty_of nodes d ∙ settled (map.get nodes d) _ (are.present d) ∙ ap (λ b. has_page pages d && (b || false)) (sym (contains-dirty_of nodes d))
        ∙ ap (λ b. has_page pages d && (set.contains (dirty_of nodes) d || b)) (sym none);
  }
    where
      settled : (o : Option Node) (b : Bool) → is_some o ≡ b → is_dirty o ≡ (b && (is_dirty o || false))
      settled None b e = rw (← e) refl
      settled (Some node) b e = rw (← e) (either node.dirty)
        where
          either : (b : Bool) → b ≡ (b || false)
          either true = refl
          either false = refl
