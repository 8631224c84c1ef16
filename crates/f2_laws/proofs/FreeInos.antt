-- The numbers that are taken are fewer than the numbers that there are.
use Rattle.std.proofs.Common.{◌≡◌, ◌≢◌, ◌⊎◌, inl, inr, ◌-◌, ℕ, zero, suc, ◌+◌, ◌<◌, ◌≤◌, Bool, true, false, cond, ◌||◌, List, [], ◌∷◌, ◌++◌, length, refl, sym, ap, ◌∙◌, arith, length-append, true≢false}
use Rattle.std.proofs.lemmas.List.{length-map}
use Rattle.std.proofs.lemmas.Bool.Decides.{leb_tells}
use Rattle.std.proofs.Math.Dec.{leb}
use Rattle.std.specs.Prelude.{Option, Some, None, is_some}
use Rattle.std.specs.List.{sum_by, flat_map}
use Rattle.std.proofs.lemmas.List.Folds.{list_any-append}
use Rattle.std.proofs.lemmas.List.Sums.{sum_by-cons}
use Rattle.std.specs.Ordering.{nat_cmp, eq_by_cmp}
use Rattle.std.specs.Cmp.{nat_cmp_total}
use Rattle.std.specs.FinMap as map
use Rattle.std.specs.FinSet as set
use Rattle.f2_format.specs.Offsets.{nodes_over, node_count, nodes_of_page}
use Rattle.f2_model.specs.Tree.{ROOT}
use Rattle.f2_model.specs.Count.{nodes_of_tree, nodes_of_row, page_numbers}
use Rattle.f2_model.specs.declared.bounds.Limits.{Limits}
use Rattle.f2_model.specs.State.{State}
use Rattle.f2_model.specs.declared.rows.Row.{Row}
use Rattle.f2_laws.specs.Room.{RowsTakeNodes, IsWithinLimits, FreeInoIsThere}
use Rattle.f2_laws.proofs.Missing.{has, IsMissing, least_missing, listed}

-- each file has a node, its inode
some_len : (b : Bool) (n : ℕ) → (b ≡ true → 1 ≤ n) → 1 ≤ cond b n (n + 1)
some_len true n h = h refl
some_len false n h = omega arith

none_empty : (s : set.FinSet nat_cmp) (k : ℕ) → set.contains s k ≡ true → 1 ≤ set.len s
none_empty s k h = by_len (set.len s) refl
  where
    by_len : (n : ℕ) → set.len s ≡ n → 1 ≤ n
    by_len zero e =
        let empty : set.contains s k ≡ false = ap (λ t. set.contains t k) (set.empty_of_len s e) ∙ set.contains-empty nat_cmp k in cc
    by_len (suc n) e = omega arith

node_count-some : (pages : List ℕ) → 1 ≤ node_count pages
unfolding nodes_over
node_count-some pages =
    let rest = set.from_list {R = nat_cmp} (flat_map nodes_of_page pages) in
    let len : set.len (set.insert rest 0) ≡ cond (set.contains rest 0) (set.len rest) (set.len rest + 1) = set.len-insert nat_cmp_total rest 0 in
    let some : 1 ≤ cond (set.contains rest 0) (set.len rest) (set.len rest + 1) = some_len (set.contains rest 0) (set.len rest) (none_empty rest 0) in
    omega arith

sum_by-some : {A : Type 0} (f : A → ℕ) → ((a : A) → 1 ≤ f a) → (xs : List A) → length xs ≤ sum_by f xs
sum_by-some f h [] = omega arith
sum_by-some f h (x ∷ xs) = omega (arith, sum_by-cons f x xs, h x, sum_by-some f h xs)

pub rows_take_nodes : RowsTakeNodes
rows_take_nodes tree =
    let each = λ (row : Row). node_count-some (page_numbers row.kind (map.values tree) row) in
    let sum : length (map.values tree) ≤ nodes_of_tree tree = sum_by-some (nodes_of_row (map.values tree)) each (map.values tree) in
    let values : length (map.values tree) ≡ length (map.entries tree) = length-map _ _ in
    omega (arith, map.len-entries tree)

-- the numbers that a new row can't get
abbrev taken : State → List ℕ
taken state = map.keys state.live ++ (map.keys state.base ++ (listed state.logged).0)

has-append : (k : ℕ) (xs ys : List ℕ) → has k (xs ++ ys) ≡ (has k xs || has k ys)
has-append k xs ys = list_any-append (eq_by_cmp nat_cmp k) xs ys

-- what is false of a whole disjunction is false of each
neither : (a b c : Bool) → (a || (b || c)) ≡ false → (a ≡ false) × (b ≡ false) × (c ≡ false)
neither false false false e = (refl, refl, refl)
neither true b c e = absurd (cc)
neither false true c e = absurd (cc)
neither false false true e = absurd (cc)

all_three : (a b c : Bool) → a ≡ false → b ≡ false → c ≡ false → (a || (b || c)) ≡ false
all_three false false false p q r = refl
all_three true b c p q r = absurd (cc)
all_three false true c p q r = absurd (cc)
all_three false false true p q r = absurd (cc)

is_none : {X : Type 0} (o : Option X) → is_some o ≡ false → o ≡ None
is_none None e = refl
is_none (Some x) e = absurd (cc)

module _ (state : State) (k : ℕ) where
  has_taken : has k (taken state) ≡ (has k (map.keys state.live) || (has k (map.keys state.base) || has k (listed state.logged).0))
  has_taken = has-append k (map.keys state.live) _ ∙ ap (λ b. has k (map.keys state.live) || b) (has-append k (map.keys state.base) _)

  not_taken : has k (taken state) ≡ false → (map.get state.live k ≡ None) × (map.get state.base k ≡ None) × (set.contains state.logged k ≡ false)
  not_taken e =
      let parts = neither _ _ _ (sym has_taken ∙ e) in
      (is_none _ (map.contains_key-keys state.live k ∙ parts.0), is_none _ (map.contains_key-keys state.base k ∙ parts.1), (listed state.logged).1.members k ∙ parts.2)

  is_not_taken : map.get state.live k ≡ None → map.get state.base k ≡ None → set.contains state.logged k ≡ false → has k (taken state) ≡ false
  is_not_taken live base logged =
      has_taken ∙ all_three _ _ _
      (sym (map.contains_key-keys state.live k) ∙ ap (λ o. is_some o) live)
      (sym (map.contains_key-keys state.base k) ∙ ap (λ o. is_some o) base)
      (sym ((listed state.logged).1.members k) ∙ logged)

-- what is taken is no more than three times what is granted, and the root is taken
few_taken : (limits : Limits) (state : State) → IsWithinLimits limits state → length (taken state) < limits.nids - 3
few_taken limits state within =
    let live : length (map.keys state.live) ≡ map.len state.live = length-map _ _ ∙ sym (map.len-entries state.live) in
    let base : length (map.keys state.base) ≡ map.len state.base = length-map _ _ ∙ sym (map.len-entries state.base) in
    let logged : length (listed state.logged).0 ≡ set.len state.logged = (listed state.logged).1.length_is in
    let whole : length (taken state) ≡ length (map.keys state.live) + length (map.keys state.base ++ (listed state.logged).0) = length-append _ _ in
    let part : length (map.keys state.base ++ (listed state.logged).0) ≡ length (map.keys state.base) + length (listed state.logged).0 = length-append _ _ in
    omega (arith, within.numbers, within.live, within.base, within.logged)

pub free_ino_found : FreeInoIsThere
free_ino_found limits state within =
    let found = least_missing (limits.nids - 3) 3 (taken state) (few_taken limits state within) in
    let k = found.0 in
    let m = found.1 in
    let from : 3 ≤ k = m.above in
    let to : k < 3 + (limits.nids - 3) = m.below in
    let free = not_taken state k m.missing in
    let other : k ≢ ROOT = λ same. root_missing k same free.0 in (
      k,
      record {
        free = record { above = omega arith; below = omega arith; no_row = free.0; no_base_row = free.1; not_logged = free.2 };
        least = λ j is. at_least k j m (is.above) (is_not_taken state j is.no_row is.no_base_row is.not_logged);
      },
    )
  where
    root_missing : (k : ℕ) → k ≡ ROOT → map.get state.live k ≡ None → ⊥
    root_missing k same none =
        let there : map.get state.live ROOT ≡ Some within.root.0 = within.root.1 in
        let gone : map.get state.live ROOT ≡ None = sym (ap (λ i. map.get state.live i) same) ∙ none in cc

    at_least : (k j : ℕ) → IsMissing 3 (limits.nids - 3) (taken state) k → 4 ≤ j → has j (taken state) ≡ false → k ≤ j
    at_least k j m from free = by_order (leb_tells k j)
      where
        by_order : ((leb k j ≡ true) × (k ≤ j)) ⊎ ((leb k j ≡ false) × (j < k)) → k ≤ j
        by_order (inl le) = le.1
        by_order (inr lt) = absurd (true≢false (sym (m.least j (omega arith) lt.1) ∙ free))
