-- Offsets of nodes, put one after another into a set.
use Rattle.std.proofs.Common.{◌≡◌, ℕ, ◌+◌, ◌<◌, ◌≤◌, Bool, true, false, cond, ◌||◌, List, [], ◌∷◌, ◌++◌, length, drop, take, replicate, get_or, add-one, drop-cons, refl, sym, ap, ◌∙◌, arith, length-append}
use Rattle.std.specs.Prelude.{Option, Some, None, nat_lt, if◌then◌else◌}
use Rattle.std.specs.List.{list_any, flat_map}
use Rattle.std.specs.Ordering.{nat_cmp, eq_by_cmp}
use Rattle.std.specs.Cmp.{nat_cmp_total, unsigned_tied}
use Rattle.std.specs.FinSet as set
use Rattle.std.specs.FinSet.{FinSet, nat_cmp-IsAntisymmetric}
use Rattle.std.proofs.lemmas.Bool.{eqb-true}
use Rattle.f2_format.specs.Offsets.{inode_pages, page_limit, first_indirect, second_indirect, double_indirect, direct_of, nodes_above, nodes_down_to, nodes_of_page, slots_of_page, nth_direct, direct_number, nodes_over}
use Rattle.f2_shape.specs.Routes.{route_of, route_through}
use Rattle.f2_shape.specs.declared.path.Route.{Route}
use Rattle.f2_reference_calls.specs.Given.{StandOnce, set_of, with_all}

-- a number more
pub set_of-push : (numbers : List ℕ) (one : ℕ) → set_of (numbers ++ one ∷ []) ≡ set.insert (set_of numbers) one
set_of-push numbers one = set.from_list_push nat_cmp_total nat_cmp-IsAntisymmetric numbers one

pub once-push : (numbers : List ℕ) (one : ℕ) → StandOnce numbers → set.contains (set_of numbers) one ≡ false → StandOnce (numbers ++ one ∷ [])
once-push numbers one once none =
    length-append numbers (one ∷ []) ∙ ap (λ n. n + 1) once
    ∙ sym (ap set.len (set_of-push numbers one) ∙ set.len-insert nat_cmp_total (set_of numbers) one ∙ ap (λ b. cond b (set.len (set_of numbers)) (set.len (set_of numbers) + 1)) none)

pub once-none : StandOnce []
once-none = sym (set.len-empty nat_cmp)

-- a number that is there may be put again
pub insert_there : (numbers : FinSet nat_cmp) (one : ℕ) → set.contains numbers one ≡ true → numbers ≡ set.insert numbers one
insert_there numbers one there = set.same_set nat_cmp_total nat_cmp-IsAntisymmetric numbers (set.insert numbers one) (λ q.
    by_tie q (eq_by_cmp nat_cmp q one) refl ∙ sym (set.contains-insert nat_cmp_total numbers one q))
  where
    by_tie : (q : ℕ) (b : Bool) → eq_by_cmp nat_cmp q one ≡ b → set.contains numbers q ≡ (eq_by_cmp nat_cmp q one || set.contains numbers q)
    by_tie q true t =
        let same : q ≡ one = eqb-true q one (sym (unsigned_tied q one) ∙ t) in
        ap (set.contains numbers) same ∙ there ∙ sym (ap (λ b. b || set.contains numbers q) t)
    by_tie q false t = sym (ap (λ b. b || set.contains numbers q) t)

or_false : (a : Bool) → a ≡ (a || false)
or_false true = refl
or_false false = refl

or_swap : (a b c : Bool) → ((a || b) || c) ≡ (b || (a || c))
or_swap true true c = refl
or_swap true false c = refl
or_swap false b c = refl

-- what stands in a set after more numbers were put
pub contains-with_all : (numbers : FinSet nat_cmp) (more : List ℕ) (q : ℕ) → set.contains (with_all numbers more) q ≡ (set.contains numbers q || list_any (eq_by_cmp nat_cmp q) more)
contains-with_all numbers [] q = or_false _
contains-with_all numbers (one ∷ more) q =
    contains-with_all (set.insert numbers one) more q
    ∙ ap (λ b. b || list_any (eq_by_cmp nat_cmp q) more) (set.contains-insert nat_cmp_total numbers one q)
    ∙ or_swap (eq_by_cmp nat_cmp q one) (set.contains numbers q) _

pub with_all-append : (numbers : FinSet nat_cmp) (more rest : List ℕ) → with_all numbers (more ++ rest) ≡ with_all (with_all numbers more) rest
with_all-append numbers [] rest = refl
with_all-append numbers (one ∷ more) rest = with_all-append (set.insert numbers one) more rest

-- the numbers that are left, the first of them before the others
pub next_offset : (numbers : FinSet nat_cmp) (more : List ℕ) (i : ℕ) → i < length more → with_all numbers (drop i more) ≡ with_all (set.insert numbers (get_or more i 0)) (drop (i + 1) more)
next_offset numbers more i below =
    let parted : drop i more ≡ get_or more i 0 ∷ drop (i + 1) more = rw (add-one, drop-cons more i 0) in
    ap (with_all numbers) parted

-- the way to a page in four places has the nodes of the page, and 0 beside them
four : List ℕ → List ℕ
four nodes = take 4 ((0 ∷ nodes) ++ replicate 4 0)

any_of_four : (nodes : List ℕ) (q : ℕ) → length nodes ≤ 3 → eq_by_cmp nat_cmp q 0 ≡ false → list_any (eq_by_cmp nat_cmp q) (four nodes) ≡ list_any (eq_by_cmp nat_cmp q) nodes
unfolding four
any_of_four [] q few other = ap (λ z. z || (z || (z || (z || false)))) other
any_of_four (a ∷ []) q few other = ap (λ z. z || (eq_by_cmp nat_cmp q a || (z || (z || false)))) other
any_of_four (a ∷ b ∷ []) q few other = ap (λ z. z || (eq_by_cmp nat_cmp q a || (eq_by_cmp nat_cmp q b || (z || false)))) other
any_of_four (a ∷ b ∷ c ∷ []) q few other = ap (λ z. z || (eq_by_cmp nat_cmp q a || (eq_by_cmp nat_cmp q b || (eq_by_cmp nat_cmp q c || false)))) other
any_of_four (a ∷ b ∷ c ∷ d ∷ rest) q few other = absurd (omega arith)

few_above : (offset : ℕ) → length (nodes_above offset) ≤ 2
unfolding nodes_above
few_above offset = by_tests (nat_lt offset first_indirect) (nat_lt offset second_indirect) (nat_lt offset double_indirect) _
  where
    by_tests : (a b c : Bool) (x : ℕ) → length (if a then [] else if b then first_indirect ∷ [] else if c then second_indirect ∷ [] else double_indirect ∷ x ∷ []) ≤ 2
    by_tests true b c x = omega arith
    by_tests false true c x = omega arith
    by_tests false false true x = omega arith
    by_tests false false false x = omega arith

few_down : (direct : Option ℕ) → length (nodes_down_to direct) ≤ 3
few_down None = omega arith
few_down (Some offset) =
    let few = few_above offset in
    let whole = length-append (nodes_above offset) (offset ∷ []) in
    omega (arith, few, whole)

-- where the root of the nodes is there, the way to a page adds its nodes
way_in : (numbers : FinSet nat_cmp) (nodes : List ℕ) → set.contains numbers 0 ≡ true → length nodes ≤ 3 → with_all numbers (four nodes) ≡ with_all numbers nodes
way_in numbers nodes there few = set.same_set nat_cmp_total nat_cmp-IsAntisymmetric _ _ (λ q.
    contains-with_all numbers (four nodes) q ∙ by_tie q (eq_by_cmp nat_cmp q 0) refl ∙ sym (contains-with_all numbers nodes q))
  where
    by_tie : (q : ℕ) (b : Bool) → eq_by_cmp nat_cmp q 0 ≡ b → (set.contains numbers q || list_any (eq_by_cmp nat_cmp q) (four nodes)) ≡ (set.contains numbers q || list_any (eq_by_cmp nat_cmp q) nodes)
    by_tie q true t =
        let same : q ≡ 0 = eqb-true q 0 (sym (unsigned_tied q 0) ∙ t) in
        let in_numbers : set.contains numbers q ≡ true = ap (set.contains numbers) same ∙ there in
        ap (λ b. b || list_any (eq_by_cmp nat_cmp q) (four nodes)) in_numbers ∙ sym (ap (λ b. b || list_any (eq_by_cmp nat_cmp q) nodes) in_numbers)
    by_tie q false t = ap (λ b. set.contains numbers q || b) (any_of_four nodes q few t)

pub way_adds : (numbers : FinSet nat_cmp) (page : ℕ) (route : Route) → set.contains numbers 0 ≡ true → Some route ≡ route_of page → with_all numbers route.nodes ≡ with_all numbers (nodes_of_page page)
unfolding route_of four
way_adds numbers page route there is = by_limit (nat_lt page page_limit) is
  where
    by_limit : (b : Bool) → Some route ≡ (if b then Some (route_through (0 ∷ nodes_of_page page) (slots_of_page page)) else None) → with_all numbers route.nodes ≡ with_all numbers (nodes_of_page page)
    by_limit true e =
        let same : route ≡ route_through (0 ∷ nodes_of_page page) (slots_of_page page) = cc in
        ap (λ (r : Route). with_all numbers r.nodes) same ∙ way_in numbers (nodes_of_page page) there (few_down (direct_of page))
    by_limit false e = absurd (cc)

pub no_way : (page : ℕ) → None ≡ route_of page → nodes_of_page page ≡ []
unfolding route_of direct_of
no_way page is = by_limit (nat_lt page page_limit) is (nat_lt page inode_pages)
  where
    by_limit : (b : Bool) → None ≡ (if b then Some (route_through (0 ∷ nodes_of_page page) (slots_of_page page)) else None) → (inode : Bool) → nodes_down_to (if inode then None else if b then Some (nth_direct (direct_number page)) else None) ≡ []
    by_limit true e inode = absurd (cc)
    by_limit false e true = refl
    by_limit false e false = refl

-- the pages that are left, the first of them before the others
pub next_page : (numbers : FinSet nat_cmp) (pages : List ℕ) (i : ℕ) → i < length pages →
    with_all numbers (flat_map nodes_of_page (drop i pages)) ≡ with_all (with_all numbers (nodes_of_page (get_or pages i 0))) (flat_map nodes_of_page (drop (i + 1) pages))
next_page numbers pages i below =
    let parted : drop i pages ≡ get_or pages i 0 ∷ drop (i + 1) pages = rw (add-one, drop-cons pages i 0) in
    ap (λ left. with_all numbers (flat_map nodes_of_page left)) parted ∙ with_all-append numbers (nodes_of_page (get_or pages i 0)) (flat_map nodes_of_page (drop (i + 1) pages))

pub root_stays : (numbers : FinSet nat_cmp) (more : List ℕ) → set.contains numbers 0 ≡ true → set.contains (with_all numbers more) 0 ≡ true
root_stays numbers more there = contains-with_all numbers more 0 ∙ ap (λ b. b || list_any (eq_by_cmp nat_cmp 0) more) there

-- the inode alone
abbrev pub of_inode : FinSet nat_cmp
of_inode = set.insert set.empty 0

-- the inode and the nodes of pages, put one after another, are the nodes of a file with these pages
pub counted : (pages : List ℕ) → with_all of_inode (flat_map nodes_of_page pages) ≡ nodes_over pages
unfolding nodes_over
counted pages = set.same_set nat_cmp_total nat_cmp-IsAntisymmetric _ _ (λ q.
    contains-with_all of_inode (flat_map nodes_of_page pages) q
    ∙ ap (λ b. b || list_any (eq_by_cmp nat_cmp q) (flat_map nodes_of_page pages)) (set.contains-insert nat_cmp_total set.empty 0 q ∙ ap (λ b. eq_by_cmp nat_cmp q 0 || b) (set.contains-empty nat_cmp q) ∙ sym (or_false _))
    ∙ sym (set.contains-from_list nat_cmp_total (0 ∷ flat_map nodes_of_page pages) q))

pub root_in : set.contains of_inode 0 ≡ true
root_in = set.contains-insert nat_cmp_total set.empty 0 0
