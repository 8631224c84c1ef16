-- Names in order, and how far they fill a directory.
use Rattle.std.proofs.Common.{◌≡◌, inl, inr, ℕ, zero, suc, Bool, true, false, cond, ◌&&◌, ◌^◌, ◌<◌, ◌≤◌, List, [], ◌∷◌, ◌++◌, map as map_list, length, take, drop, get_or, refl, sym, ap, subst, ◌∙◌, arith, Some, None, Option, Ok, Err}
use Rattle.std.specs.Prelude.{T, is_some}
use Rattle.std.specs.List.{AllByRecursion, HoldsAt, remove}
use Rattle.std.specs.List.Sorted.{IsStrictlySortedBy, IsBinarySearchResult, IsNonDecreasingBy, IsPartitionPoint}
use Rattle.std.specs.Ordering.{nat_cmp, eq_by_cmp, is_eq, is_lt, ordering_index, ordering_reverse}
use Rattle.std.specs.Cmp.{alike_right}
use Rattle.std.proofs.lemmas.Bool.{cases_lt}
use Rattle.std.proofs.lemmas.List.{take_all, drop_all}
use Rattle.std.proofs.lemmas.List.Elements.{All-from_recursion, recursion_from_All}
use Rattle.std.proofs.lemmas.Map.Keys.{Less-from_sorted}
use Rattle.std.specs.Cmp.Lexicographic.{slice_cmp, nat_list_cmp_total}
use Rattle.std.specs.declared.cmp.Ordering.{Ordering}
use Rattle.std.specs.declared.cmp.Ordering.TheVariants.{Less, Equal, Greater}
use Rattle.std.specs.FinMap as map
use Rattle.std.specs.FinMap.{entries, entries-insert, same_entries_map, put, find, is_sorted, nat_cmp-IsAntisymmetric, slice_cmp-IsAntisymmetric}
use Rattle.std.specs.FinMap.Entries.{by_order, below_all}
use Rattle.f2_format.specs.Packing.{IsSublist, none, kept, left_out, Reach, nothing_packed, place_after, place_after_all, place_reached, blocks_of_names}
use Rattle.f2_format.proofs.PackingLemmas.{sublist_no_further}
use Rattle.f2_held.specs.Taken.{Names, names_from, and_name, without_name, of_names}
use Rattle.f2_held.specs.Sums.{IsNameSet, IsPlaceFor, IsPlaceOf, with_at, of_blocks}

pub place_after_all-append : (reach : Reach) (xs ys : List (List ℕ)) → place_after_all reach (xs ++ ys) ≡ place_after_all (place_after_all reach xs) ys
place_after_all-append reach [] ys = refl
place_after_all-append reach (x ∷ xs) ys = place_after_all-append (place_after reach x) xs ys

-- how far names fill a directory with one more at a place
pub reached-with_at : (names : List (List ℕ)) (at : ℕ) (name : List ℕ) (start : Reach) → place_after_all (place_after (place_after_all start (take at names)) name) (drop at names) ≡ place_after_all start (with_at names at name)
reached-with_at names at name start = sym (place_after_all-append start (take at names) (name ∷ drop at names))

abbrev pairs : List (List ℕ) → List (List ℕ × Unit {0})
pairs names = map_list (λ name. (name, tt)) names

pub keys_of_pairs : (names : List (List ℕ)) → map_list (λ e. e.0) (pairs names) ≡ names
keys_of_pairs [] = refl
keys_of_pairs (x ∷ xs) = ap (λ ys. x ∷ ys) (keys_of_pairs xs)

both_true : (a b : Bool) → T a → T b → T (a && b)
both_true true b p q = q
both_true false b p q = p

below_pairs : (x : List ℕ) (names : List (List ℕ)) → AllByRecursion (λ y. slice_cmp nat_cmp x y ≡ Less) names → T (below_all (slice_cmp nat_cmp) x (pairs names))
below_pairs x [] h = tt
below_pairs x (y ∷ ys) h = both_true _ _ (subst (λ o. T (is_lt o)) (sym h.0) tt) (below_pairs x ys h.1)

sorted_pairs : (names : List (List ℕ)) → IsStrictlySortedBy (slice_cmp nat_cmp) names → T (is_sorted (slice_cmp nat_cmp) (pairs names))
unfolding IsStrictlySortedBy
sorted_pairs [] h = tt
sorted_pairs (x ∷ xs) h = both_true _ _ (below_pairs x xs h.0) (sorted_pairs xs h.1)

-- the set of names in order has them as its entries
entries_are : (names : List (List ℕ)) → IsStrictlySortedBy (slice_cmp nat_cmp) names → entries (names_from names) ≡ pairs names
entries_are names h =
    let sorted = sorted_pairs names h in
    let same = map.same_map nat_list_cmp_total (slice_cmp-IsAntisymmetric nat_cmp-IsAntisymmetric) (names_from names) (map.from_sorted (pairs names)) (λ q. map.get-from_entries nat_list_cmp_total (pairs names) q ∙ sym (map.get-from_sorted (slice_cmp nat_cmp) (pairs names) q sorted)) in
    ap entries same ∙ map.entries-from_sorted (slice_cmp nat_cmp) (pairs names) sorted

pub keys_are : (names : List (List ℕ)) → IsStrictlySortedBy (slice_cmp nat_cmp) names → map.keys (names_from names) ≡ names
keys_are names h = ap (map_list (λ e. e.0)) (entries_are names h) ∙ keys_of_pairs names

module _ (name : List ℕ) where
  abbrev cmp : List ℕ → List ℕ → Ordering
  cmp = slice_cmp nat_cmp

  less_back : (x : List ℕ) → cmp x name ≡ Greater → cmp name x ≡ Less
  less_back x h = nat_list_cmp_total.antisymm name x ∙ ap ordering_reverse h

  greater_back : (x : List ℕ) → cmp x name ≡ Less → cmp name x ≡ Greater
  greater_back x h = nat_list_cmp_total.antisymm name x ∙ ap ordering_reverse h

  -- with each before the place less and each from it on greater, a name at the place keeps the order
  all_with : (P : List ℕ → Type 0) (names : List (List ℕ)) (at : ℕ) → P name → AllByRecursion P names → AllByRecursion P (with_at names at name)
  all_with P names zero p all = (p, all)
  all_with P [] (suc at) p all = (p, tt)
  all_with P (x ∷ xs) (suc at) p all = (all.0, all_with P xs at p all.1)

  all_later : (x : List ℕ) (ys : List (List ℕ)) → cmp name x ≡ Less → AllByRecursion (λ y. cmp x y ≡ Less) ys → AllByRecursion (λ y. cmp name y ≡ Less) ys
  all_later x [] h all = tt
  all_later x (y ∷ ys) h all = (nat_list_cmp_total.trans name x y h all.0, all_later x ys h all.1)

  pub placed : (names : List (List ℕ)) (at : ℕ) → at ≤ length names → IsStrictlySortedBy cmp names → IsPartitionPoint (λ y. cmp y name ≡ Less) (λ y. cmp y name ≡ Greater) names at → IsStrictlySortedBy cmp (with_at names at name)
  unfolding IsStrictlySortedBy
  placed [] zero within sorted split = (tt, tt)
  placed [] (suc at) within sorted split = absurd (omega arith)
  placed (x ∷ xs) zero within sorted split =
      let here = less_back x (split.1 0 x (omega arith) (omega arith)) in
      ((here, all_later x xs here sorted.0), sorted)
  placed (x ∷ xs) (suc at) within sorted split =
      let here : cmp x name ≡ Less = split.0 0 x (omega arith) (omega arith) in (
        all_with (λ y. cmp x y ≡ Less) xs at here sorted.0,
        placed xs at (omega arith) sorted.1 (λ k d a b. split.0 (suc k) d (omega arith) (omega arith), λ k d a b. split.1 (suc k) d (omega arith) (omega arith)),
      )

  rises : (x y : List ℕ) → cmp x y ≡ Less → ordering_index (cmp x name) ≤ ordering_index (cmp y name)
  rises x y less = go (cmp y name) refl
    where
      below : (o : Ordering) → cmp x name ≡ Less → ordering_index (cmp x name) ≤ ordering_index o
      below o e = rw e (omega arith)

      top : (o : Ordering) → ordering_index o ≤ ordering_index Greater
      top Less = omega arith
      top Equal = omega arith
      top Greater = omega arith

      go : (o : Ordering) → cmp y name ≡ o → ordering_index (cmp x name) ≤ ordering_index o
      go Less e = below Less (nat_list_cmp_total.trans x y name less e)
      go Equal e = below Equal (sym (alike_right nat_list_cmp_total y name x e) ∙ less)
      go Greater e = top (cmp x name)

  -- the comparisons with a name rise along names in order
  pub comparisons_rise : (names : List (List ℕ)) → IsStrictlySortedBy cmp names → IsNonDecreasingBy (λ y. ordering_index (cmp y name)) names
  comparisons_rise names sorted i j d le within = elim (cases_lt i j) [
    | inl lt ↦ rises (get_or names i d) (get_or names j d) (Less-from_sorted cmp names i j d sorted lt within)
    | inr ge ↦ let same : i ≡ j = omega arith in let still : ordering_index (cmp (get_or names i d) name) ≡ ordering_index (cmp (get_or names j d) name) = ap (λ k. ordering_index (cmp (get_or names k d) name)) same in omega arith
  ]

  -- a name put among names in order stands at the place for it
  put_at : (names : List (List ℕ)) (at : ℕ) → at ≤ length names → IsPartitionPoint (λ y. cmp y name ≡ Less) (λ y. cmp y name ≡ Greater) names at → put cmp name tt (pairs names) ≡ pairs (with_at names at name)
  put_at [] zero within split = refl
  put_at [] (suc at) within split = absurd (omega arith)
  put_at (x ∷ xs) zero within split =
      ap (λ o. by_order o ((name, tt) ∷ (x, tt) ∷ pairs xs) ((x, tt) ∷ pairs xs) ((x, tt) ∷ put cmp name tt (pairs xs))) (less_back x (split.1 0 x (omega arith) (omega arith)))
  put_at (x ∷ xs) (suc at) within split =
      ap (λ o. by_order o ((name, tt) ∷ (x, tt) ∷ pairs xs) ((x, tt) ∷ pairs xs) ((x, tt) ∷ put cmp name tt (pairs xs))) (greater_back x (split.0 0 x (omega arith) (omega arith)))
      ∙ ap (λ es. (x, tt) ∷ es) (put_at xs at (omega arith) (λ k d a b. split.0 (suc k) d (omega arith) (omega arith), λ k d a b. split.1 (suc k) d (omega arith) (omega arith)))

  pub seen_with : (names : List (List ℕ)) (at : ℕ) → at ≤ length names → IsStrictlySortedBy cmp names → IsPartitionPoint (λ y. cmp y name ≡ Less) (λ y. cmp y name ≡ Greater) names at → names_from (with_at names at name) ≡ and_name (names_from names) name
  seen_with names at within sorted split =
      same_entries_map _ _ (
      entries_are (with_at names at name) (placed names at within sorted split)
      ∙ sym (put_at names at within split)
      ∙ ap (put cmp name tt) (sym (entries_are names sorted))
      ∙ sym (entries-insert nat_list_cmp_total (names_from names) name tt))

  -- a binary search ends at the name, or at the place for it
  pub place_found : (names : List (List ℕ)) (at : ℕ) → at ≤ length names → IsStrictlySortedBy cmp names → IsBinarySearchResult (λ y. cmp y name) names (Err at) → IsPlaceFor name names at
  place_found names at within sorted found = record { within = within; seen = seen_with names at within sorted (found (comparisons_rise names sorted)); sorted = placed names at within sorted (found (comparisons_rise names sorted)) }

  equal_of : (o : Ordering) → is_eq o ≡ true → o ≡ Equal
  equal_of Less e = absurd (cc)
  equal_of Equal e = refl
  equal_of Greater e = absurd (cc)

  pub name_found : (names : List (List ℕ)) (at : ℕ) → at < length names → IsBinarySearchResult (λ y. cmp y name) names (Ok at) → map.contains_key (names_from names) name ≡ true
  name_found names at within found = ap is_some (map.get-from_entries nat_list_cmp_total (pairs names) name) ∙ go names at within found
    where
      tied : (y : List ℕ) → cmp y name ≡ Equal → cmp name y ≡ Equal
      tied y h = nat_list_cmp_total.antisymm name y ∙ ap ordering_reverse h

      is_some_cond : (b : Bool) (o : Option (Unit {0})) → is_some o ≡ true → is_some (cond b (Some tt) o) ≡ true
      is_some_cond true o e = refl
      is_some_cond false o e = e

      go : (names : List (List ℕ)) (at : ℕ) → at < length names → HoldsAt (λ y. cmp y name ≡ Equal) names at → is_some (find cmp name (pairs names)) ≡ true
      go [] at within found = absurd (omega arith)
      go (x ∷ xs) zero within found = ap (λ o. is_some (cond (is_eq o) (Some tt) (find cmp name (pairs xs)))) (tied x (found x))
      go (x ∷ xs) (suc at) within found = is_some_cond (is_eq (cmp name x)) _ (go xs at (omega arith) (λ d. found d))

  -- where it is there, the set stays
  pub seen_already : (names : Names) → map.contains_key names name ≡ true → and_name names name ≡ names
  seen_already names there = map.same_map nat_list_cmp_total (slice_cmp-IsAntisymmetric nat_cmp-IsAntisymmetric) _ _ (λ q. map.get-insert nat_list_cmp_total names name tt q ∙ go q (eq_by_cmp cmp q name) refl)
    where
      it_is : (o : Option (Unit {0})) → is_some o ≡ true → o ≡ Some tt
      it_is None e = absurd (cc)
      it_is (Some tt) e = refl

      go : (q : List ℕ) (b : Bool) → eq_by_cmp cmp q name ≡ b → cond b (Some tt) (map.get names q) ≡ map.get names q
      go q true e = sym (it_is (map.get names name) there) ∙ map.get_tied nat_list_cmp_total names q name (equal_of (cmp q name) e)
      go q false e = refl

-- what a directory with names in order takes
pub size_is : (names : List (List ℕ)) (reach : Reach) → IsNameSet names reach → of_blocks reach.0 ≡ of_names (names_from names)
size_is names reach is = ap of_blocks (ap (λ r. r.0) is.reached ∙ sym (ap blocks_of_names (keys_are names is.sorted)))

-- a name more, in its place
module _ (names : List (List ℕ)) (reach after : Reach) (name : List ℕ) (at : ℕ) (is : IsNameSet names reach) (place : IsPlaceFor name names at) (short : length name ≤ 255) (reached : after ≡ place_reached (with_at names at name)) where
  all_short : (names : List (List ℕ)) (at : ℕ) → AllByRecursion (λ name. length name ≤ 255) names → AllByRecursion (λ name. length name ≤ 255) (with_at names at name)
  all_short names at all = all_with name (λ name. length name ≤ 255) names at short all

  pub size_with_is : of_blocks after.0 ≡ of_names (and_name (names_from names) name)
  size_with_is = ap of_blocks (ap (λ r. r.0) reached ∙ sym (ap blocks_of_names (keys_are (with_at names at name) place.sorted))) ∙ ap of_names place.seen

  pub IsNameSet-with : after.0 ≤ 2 ^ 29 → after.1 ≤ 214 → IsNameSet (with_at names at name) after
  IsNameSet-with few slots = record {
    sorted = place.sorted;
    short = All-from_recursion (λ name. length name ≤ 255) (with_at names at name) (all_short names at (recursion_from_All (λ name. length name ≤ 255) names is.short));
    reached = reached;
    few = few;
    slots = slots;
  }

pub IsNameSet-none : IsNameSet [] nothing_packed
unfolding IsStrictlySortedBy
IsNameSet-none = record { sorted = tt; short = λ k d lt. absurd (omega arith); reached = refl; few = omega arith; slots = omega arith }

-- a name behind all others reaches from where they reach
pub reached-behind : (names : List (List ℕ)) (reach : Reach) (at : ℕ) (name : List ℕ) → IsNameSet names reach → at ≡ length names → place_after reach name ≡ place_reached (with_at names at name)
reached-behind names reach at name is end =
    let front : take at names ≡ names = take_all at names (omega (arith, end)) in
    let back : drop at names ≡ [] = drop_all at names (omega (arith, end)) in
    ap (λ r. place_after r name) is.reached
    ∙ sym (place_after_all-append nothing_packed names (name ∷ []))
    ∙ sym (λ i. place_reached (front i ++ name ∷ back i))

-- a list without the name at a place
all_removed : (P : List ℕ → Type 0) (names : List (List ℕ)) (at : ℕ) → AllByRecursion P names → AllByRecursion P (remove names at)
all_removed P [] zero all = tt
all_removed P [] (suc at) all = tt
all_removed P (x ∷ xs) zero all = all.1
all_removed P (x ∷ xs) (suc at) all = (all.0, all_removed P xs at all.1)

sorted_without : (names : List (List ℕ)) (at : ℕ) → IsStrictlySortedBy (slice_cmp nat_cmp) names → IsStrictlySortedBy (slice_cmp nat_cmp) (remove names at)
unfolding IsStrictlySortedBy
sorted_without [] zero sorted = tt
sorted_without [] (suc at) sorted = tt
sorted_without (x ∷ xs) zero sorted = sorted.1
sorted_without (x ∷ xs) (suc at) sorted = (all_removed (λ y. slice_cmp nat_cmp x y ≡ Less) xs at sorted.0, sorted_without xs at sorted.1)

sublist_itself : (names : List (List ℕ)) → IsSublist names names
sublist_itself [] = none
sublist_itself (x ∷ xs) = kept x (sublist_itself xs)

sublist_without : (names : List (List ℕ)) (at : ℕ) → IsSublist (remove names at) names
sublist_without [] zero = none
sublist_without [] (suc at) = none
sublist_without (x ∷ xs) zero = left_out x (sublist_itself xs)
sublist_without (x ∷ xs) (suc at) = kept x (sublist_without xs at)

-- how far names fill a directory without the one at a place
pub reached-without : (names : List (List ℕ)) (at : ℕ) → place_after_all (place_after_all nothing_packed (take at names)) (drop (suc at) names) ≡ place_reached (remove names at)
reached-without names at = sym (place_after_all-append nothing_packed (take at names) (drop (suc at) names))

module _ (name : List ℕ) where
  -- a name that all are above isn't found
  find_above : (q : List ℕ) (names : List (List ℕ)) → AllByRecursion (λ y. slice_cmp nat_cmp q y ≡ Less) names → find (slice_cmp nat_cmp) q (pairs names) ≡ None
  find_above q [] all = refl
  find_above q (y ∷ ys) all = ap (λ o. cond (is_eq o) (Some tt) (find (slice_cmp nat_cmp) q (pairs ys))) all.0 ∙ find_above q ys all.1

  same_here : (q x : List ℕ) → is_eq (slice_cmp nat_cmp q x) ≡ true → q ≡ x
  same_here q x e = slice_cmp-IsAntisymmetric nat_cmp-IsAntisymmetric q x (equal_of name (slice_cmp nat_cmp q x) e)

  less_than : (names : List (List ℕ)) (at : ℕ) (x : List ℕ) → at < length names → HoldsAt (λ y. cmp name y name ≡ Equal) names at → AllByRecursion (λ y. cmp name x y ≡ Less) names → cmp name x name ≡ Less
  less_than [] at x within found all = absurd (omega arith)
  less_than (y ∷ ys) zero x within found all = subst (λ z. cmp name x z ≡ Less) (slice_cmp-IsAntisymmetric nat_cmp-IsAntisymmetric y name (found y)) all.0
  less_than (y ∷ ys) (suc at) x within found all = less_than ys at x (omega arith) (λ d. found d) all.1

  find_without : (names : List (List ℕ)) (at : ℕ) → at < length names → IsStrictlySortedBy (cmp name) names → HoldsAt (λ y. cmp name y name ≡ Equal) names at → (q : List ℕ) → find (cmp name) q (pairs (remove names at)) ≡ cond (is_eq (cmp name q name)) None (find (cmp name) q (pairs names))
  unfolding IsStrictlySortedBy
  find_without [] at within sorted found q = absurd (omega arith)
  find_without (x ∷ xs) zero within sorted found q = go (is_eq (cmp name q name)) refl
    where
      same : x ≡ name
      same = slice_cmp-IsAntisymmetric nat_cmp-IsAntisymmetric x name (found x)

      go : (b : Bool) → is_eq (cmp name q name) ≡ b → find (cmp name) q (pairs xs) ≡ cond b None (cond (is_eq (cmp name q x)) (Some tt) (find (cmp name) q (pairs xs)))
      go true e = find_above q xs (subst (λ z. AllByRecursion (λ y. cmp name z y ≡ Less) xs) (same ∙ sym (same_here q name e)) sorted.0)
      go false e = sym (ap (λ b. cond b (Some tt) (find (cmp name) q (pairs xs))) (ap (λ z. is_eq (cmp name q z)) same ∙ e))
  find_without (x ∷ xs) (suc at) within sorted found q = go (find_without xs at (omega arith) sorted.1 (λ d. found d) q) (is_eq (cmp name q x)) refl
    where
      go : find (cmp name) q (pairs (remove xs at)) ≡ cond (is_eq (cmp name q name)) None (find (cmp name) q (pairs xs)) → (b : Bool) → is_eq (cmp name q x) ≡ b → cond b (Some tt) (find (cmp name) q (pairs (remove xs at))) ≡ cond (is_eq (cmp name q name)) None (cond b (Some tt) (find (cmp name) q (pairs xs)))
      go rest true e =
          let less : cmp name q name ≡ Less = subst (λ z. cmp name z name ≡ Less) (sym (same_here q x e)) (less_than xs at x (omega arith) (λ d. found d) sorted.0) in
          sym (ap (λ o. cond (is_eq o) None (Some tt)) less)
      go rest false e = rest

  pub place_of_found : (names : List (List ℕ)) (at : ℕ) → at < length names → IsStrictlySortedBy (cmp name) names → IsBinarySearchResult (λ y. cmp name y name) names (Ok at) → IsPlaceOf name names at
  place_of_found names at within sorted found = record {
    within = within;
    seen = map.same_map nat_list_cmp_total (slice_cmp-IsAntisymmetric nat_cmp-IsAntisymmetric) _ _ (λ q.
        map.get-from_entries nat_list_cmp_total (pairs (remove names at)) q
        ∙ find_without names at within sorted found q
        ∙ ap (cond (is_eq (cmp name q name)) None) (sym (map.get-from_entries nat_list_cmp_total (pairs names) q))
        ∙ sym (map.get-remove nat_list_cmp_total (names_from names) name q));
    sorted = sorted_without names at sorted;
  }

  -- a binary search that ends at a place for the name hasn't found it
  pub name_not_found : (names : List (List ℕ)) (at : ℕ) → IsStrictlySortedBy (cmp name) names → IsBinarySearchResult (λ y. cmp name y name) names (Err at) → map.contains_key (names_from names) name ≡ false
  name_not_found names at sorted found = ap is_some (map.get-from_entries nat_list_cmp_total (pairs names) name ∙ go names at (found (comparisons_rise name names sorted)))
    where
      go : (names : List (List ℕ)) (at : ℕ) → IsPartitionPoint (λ y. cmp name y name ≡ Less) (λ y. cmp name y name ≡ Greater) names at → find (cmp name) name (pairs names) ≡ None
      go [] at split = refl
      go (x ∷ xs) zero split =
          ap (λ o. cond (is_eq o) (Some tt) (find (cmp name) name (pairs xs))) (less_back name x (split.1 0 x (omega arith) (omega arith)))
          ∙ go xs zero (λ k d a b. absurd (omega arith), λ k d a b. split.1 (suc k) d (omega arith) (omega arith))
      go (x ∷ xs) (suc at) split =
          ap (λ o. cond (is_eq o) (Some tt) (find (cmp name) name (pairs xs))) (greater_back name x (split.0 0 x (omega arith) (omega arith)))
          ∙ go xs at (λ k d a b. split.0 (suc k) d (omega arith) (omega arith), λ k d a b. split.1 (suc k) d (omega arith) (omega arith))

  -- where it isn't there, nothing is taken out
  pub absent_already : (names : Names) → map.contains_key names name ≡ false → without_name names name ≡ names
  absent_already names absent = map.same_map nat_list_cmp_total (slice_cmp-IsAntisymmetric nat_cmp-IsAntisymmetric) _ _ (λ q. map.get-remove nat_list_cmp_total names name q ∙ go q (eq_by_cmp (cmp name) q name) refl)
    where
      it_is : (o : Option (Unit {0})) → is_some o ≡ false → o ≡ None
      it_is None e = refl
      it_is (Some tt) e = absurd (cc)

      go : (q : List ℕ) (b : Bool) → eq_by_cmp (cmp name) q name ≡ b → cond b None (map.get names q) ≡ map.get names q
      go q true e = sym (it_is (map.get names name) absent) ∙ map.get_tied nat_list_cmp_total names q name (equal_of name (cmp name q name) e)
      go q false e = refl

  -- names in order without one of them
  pub IsNameSet-without : (names : List (List ℕ)) (reach after : Reach) (at : ℕ) → IsNameSet names reach → IsPlaceOf name names at → after ≡ place_reached (remove names at) → after.1 ≤ 214 → IsNameSet (remove names at) after
  IsNameSet-without names reach after at is place reached slots =
      let nearer = (sublist_no_further nothing_packed nothing_packed (sublist_without names at) record { blocks = omega arith; slots = λ _. omega arith }).blocks in
      record {
        sorted = place.sorted;
        short = All-from_recursion (λ name. length name ≤ 255) (remove names at) (all_removed (λ name. length name ≤ 255) names at (recursion_from_All (λ name. length name ≤ 255) names is.short));
        reached = reached;
        few = omega (arith, nearer, is.few, ap (λ r. r.0) is.reached, ap (λ r. r.0) reached);
        slots = slots;
      }
