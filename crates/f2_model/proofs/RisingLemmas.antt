-- The members of a set in their order: they rise, they are all, and only one list is so.
use Rattle.std.proofs.Common.{◌≡◌, Bool, true, false, T, ◌&&◌, List, [], ◌∷◌, map as map_list, is_some, refl, sym, ap, ◌∙◌, subst}
use Rattle.std.specs.Prelude.{Option, Some, None}
use Rattle.std.specs.List.{list_any, AllByRecursion}
use Rattle.std.specs.List.Sorted.{IsStrictlySortedBy}
use Rattle.std.specs.Ordering.{eq_by_cmp, is_lt}
use Rattle.std.specs.Cmp.{IsTotalOrder}
use Rattle.std.specs.declared.cmp.Ordering.{Ordering}
use Rattle.std.specs.declared.cmp.Ordering.TheVariants.{Less, Equal, Greater}
use Rattle.std.specs.FinMap as map
use Rattle.std.specs.FinMap.{IsAntisymmetric}
use Rattle.std.specs.FinMap.Entries.{is_some-find, below_all, is_sorted}
use Rattle.std.specs.FinSet as set
use Rattle.f2_model.specs.Rising.{map_of, rising}

-- a set's map, and its entries
abbrev pairs : {K : Type 0} → List K → List (K × Unit {0})
pairs ks = map_list (λ k. (k, tt {0})) ks

keys_of_pairs : {K : Type 0} (ks : List K) → map_list (λ e. e.0) (pairs ks) ≡ ks
keys_of_pairs [] = refl
keys_of_pairs (k ∷ ks) = ap (λ l. k ∷ l) (keys_of_pairs ks)

first : (a b : Bool) → T (a && b) → T a
first true b h = tt
first false b h = absurd h

second : (a b : Bool) → T (a && b) → T b
second true b h = h
second false b h = absurd h

both : (a b : Bool) → T a → T b → T (a && b)
both true b p q = q
both false b p q = absurd p

less : (o : Ordering) → T (is_lt o) → o ≡ Less
less Less h = refl
less Equal h = absurd h
less Greater h = absurd h

same_marks : (a b : Option (Unit {0})) → is_some a ≡ is_some b → a ≡ b
same_marks None None e = refl
same_marks None (Some y) e = absurd (subst T (sym e) tt)
same_marks (Some x) None e = absurd (subst T e tt)
same_marks (Some x) (Some y) e = refl

module _ {K : Type 0} (R : K → K → Ordering) where
  keys_below : (x : K) (es : List (K × Unit {0})) → T (below_all R x es) → AllByRecursion (λ y. R x y ≡ Less) (map_list (λ e. e.0) es)
  keys_below x [] h = tt
  keys_below x (e ∷ es) h = (less _ (first _ _ h), keys_below x es (second _ _ h))

  keys_rise : (es : List (K × Unit {0})) → T (is_sorted R es) → IsStrictlySortedBy R (map_list (λ e. e.0) es)
  unfolding IsStrictlySortedBy
  keys_rise [] h = tt
  keys_rise (e ∷ es) h = (keys_below e.0 es (first _ _ h), keys_rise es (second _ _ h))

  pairs_below : (x : K) (ks : List K) → AllByRecursion (λ y. R x y ≡ Less) ks → T (below_all R x (pairs ks))
  pairs_below x [] h = tt
  pairs_below x (k ∷ ks) h = both _ _ (subst (λ o. T (is_lt o)) (sym h.0) tt) (pairs_below x ks h.1)

  pairs_sorted : (ks : List K) → IsStrictlySortedBy R ks → T (is_sorted R (pairs ks))
  unfolding IsStrictlySortedBy
  pairs_sorted [] h = tt
  pairs_sorted (k ∷ ks) h = both _ _ (pairs_below k ks h.0) (pairs_sorted ks h.1)

module _ {K : Type 0} {R : K → K → Ordering} where
  -- the members rise
  pub rises : (s : set.FinSet R) → IsStrictlySortedBy R (rising s)
  rises s = keys_rise R (map.entries (map_of s)) (map.entries_sorted (map_of s))

  module _ (o : IsTotalOrder R) where
    -- the map has the members as its keys
    pub contains-map_of : (s : set.FinSet R) (q : K) → map.contains_key (map_of s) q ≡ set.contains s q
    contains-map_of s q =
        ap is_some (map.get-from_entries o (pairs (set.items s)) q)
        ∙ is_some-find R q (pairs (set.items s))
        ∙ ap (list_any (eq_by_cmp R q)) (keys_of_pairs (set.items s))
        ∙ sym (set.contains-items s q)

    -- each member is among them, and nothing else
    pub contains-rising : (s : set.FinSet R) (q : K) → set.contains s q ≡ list_any (eq_by_cmp R q) (rising s)
    contains-rising s q = sym (contains-map_of s q) ∙ map.contains_key-keys (map_of s) q

    -- a map that has the members as its keys has them in the same order
    pub rising-keys : IsAntisymmetric R → (s : set.FinSet R) (m : map.FinMap R (Unit {0})) → ((q : K) → set.contains s q ≡ map.contains_key m q) → rising s ≡ map.keys m
    rising-keys anti s m same = ap map.keys (map.same_map o anti (map_of s) m (λ q. same_marks _ _ (contains-map_of s q ∙ same q)))

    -- a list that rises and has the members is this list
    pub rising-is : IsAntisymmetric R → (s : set.FinSet R) (ks : List K) → IsStrictlySortedBy R ks → ((q : K) → set.contains s q ≡ list_any (eq_by_cmp R q) ks) → rising s ≡ ks
    rising-is anti s ks h same =
        let sorted = pairs_sorted R ks h in
        let m = map.from_sorted {R = R} (pairs ks) in
        rising-keys anti s m (λ q. same q
        ∙ ap (list_any (eq_by_cmp R q)) (sym (keys_of_pairs ks))
        ∙ sym (is_some-find R q (pairs ks))
        ∙ ap is_some (sym (map.get-from_sorted R (pairs ks) q sorted)))
        ∙ ap (map_list (λ e. e.0)) (map.entries-from_sorted R (pairs ks) sorted)
        ∙ keys_of_pairs ks
