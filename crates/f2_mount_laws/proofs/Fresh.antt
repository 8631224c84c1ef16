-- Numbers that no thing has yet, one for each of some keys.
use Rattle.std.proofs.Common.{◌≡◌, ◌≢◌, ◌⊎◌, ◌||◌, inl, inr, ℕ, zero, suc, ◌+◌, ◌<◌, ◌≤◌, ◌==◌, not, Bool, true, false, cond, List, [], ◌∷◌, ◌++◌, length, filter, IsSome, is_some, refl, sym, ap, ◌∙◌, subst, arith, true≢false}
use Rattle.std.specs.Prelude.{Some}
use Rattle.std.specs.List.{AllByRecursion, list_any, range_with_len}
use Rattle.std.specs.FinMap as map
use Rattle.std.specs.FinMap.{get-from_entries}
use Rattle.std.proofs.lemmas.Bool.{not-true}
use Rattle.std.proofs.lemmas.List.{length-append}
use Rattle.f2_model.specs.State.{pair_cmp}
use Rattle.f2_image.specs.Reached.{AllDiffer}
use Rattle.f2_image_laws.proofs.Numbers.{same_of, test_same}
use Rattle.f2_place_laws.proofs.FoundEntries.{found_in, some_found}
use Rattle.f2_place_laws.proofs.Lists.{IsIn, in_filter, from_filter, from_range, each_in, one_in, no_more}
use Rattle.f2_place_laws.proofs.Pairs.{pair_cmp_total}

-- a number is among others
abbrev among : List ℕ → ℕ → Bool
among ks n = list_any (λ k. k == n) ks

is_among : (n : ℕ) (ks : List ℕ) → IsIn n ks → among ks n ≡ true
is_among n [] h = absurd h
is_among n (k ∷ ks) (inl e) = ap (λ b. (b || among ks n)) (test_same k n (sym e))
is_among n (k ∷ ks) (inr h) = by_first (k == n) (is_among n ks h)
  where
    by_first : (b : Bool) → among ks n ≡ true → (b || among ks n) ≡ true
    by_first true rest = refl
    by_first false rest = rest

among_is : (n : ℕ) (ks : List ℕ) → among ks n ≡ true → IsIn n ks
among_is n [] h = absurd (true≢false (sym h))
among_is n (k ∷ ks) h = by_first (among_is n ks) (k == n) refl h
  where
    by_first : (among ks n ≡ true → IsIn n ks) → (b : Bool) → (k == n) ≡ b → (b || among ks n) ≡ true → (n ≡ k) ⊎ IsIn n ks
    by_first rest true e h = inl (sym (same_of k n e))
    by_first rest false e h = inr (rest h)

-- numbers of a range differ, and so do those that pass a test
range_above : (low a n : ℕ) → low < a → AllByRecursion (λ y. low ≢ y) (range_with_len a n)
range_above low a n less = each_in (λ y. low ≢ y) (range_with_len a n) (λ y there same. (let from = (from_range a n y there).0 in omega (arith, from, less, same)))

range_differ : (a n : ℕ) → AllDiffer (range_with_len a n)
range_differ a zero = tt
range_differ a (suc n) = (range_above a (a + 1) n (omega arith), range_differ (a + 1) n)

filter_differ : (p : ℕ → Bool) (ks : List ℕ) → AllDiffer ks → AllDiffer (filter p ks)
filter_differ p [] differ = tt
filter_differ p (k ∷ ks) differ = by_test (p k) (filter_differ p ks differ.1)
  where
    others : AllByRecursion (λ y. k ≢ y) (filter p ks)
    others = each_in (λ y. k ≢ y) (filter p ks) (λ y there. one_in (λ z. k ≢ z) ks y differ.0 (from_filter p y ks there).1)

    by_test : (b : Bool) → AllDiffer (filter p ks) → AllDiffer (cond b (k ∷ filter p ks) (filter p ks))
    by_test true rest = (others, rest)
    by_test false rest = rest

module _ (used : List ℕ) (from most : ℕ) where
  abbrev is_free : ℕ → Bool
  is_free n = not (among used n)

  pub free : List ℕ
  free = filter is_free (range_with_len from most)

  pub free_differ : AllDiffer free
  unfolding free
  free_differ = filter_differ is_free (range_with_len from most) (range_differ from most)

  pub free_is : (n : ℕ) → IsIn n free → (from ≤ n) × (n < from + most) × ¬ (IsIn n used)
  unfolding free
  free_is n there =
      let passes = from_filter is_free n (range_with_len from most) there in
      let range = from_range from most n passes.1 in
      (range.0, range.1, λ taken. true≢false (sym (is_among n used taken) ∙ not-true (among used n) passes.0))

  in_either : (n : ℕ) → IsIn n (range_with_len from most) → IsIn n (free ++ used)
  unfolding free
  in_either n there = by_test (among used n) refl
    where
      front : (xs : List ℕ) → IsIn n xs → IsIn n (xs ++ used)
      front [] h = absurd h
      front (x ∷ xs) (inl e) = inl e
      front (x ∷ xs) (inr h) = inr (front xs h)

      back : (xs : List ℕ) → IsIn n used → IsIn n (xs ++ used)
      back [] h = h
      back (x ∷ xs) h = inr (back xs h)

      by_test : (b : Bool) → among used n ≡ b → IsIn n (free ++ used)
      by_test true e = back free (among_is n used e)
      by_test false e = front free (in_filter is_free n (range_with_len from most) (ap not e) there)

  range_long : (a n : ℕ) → length (range_with_len a n) ≡ n
  range_long a zero = refl
  range_long a (suc n) = ap suc (range_long (a + 1) n)

  -- so many are free
  pub free_long : most ≤ length free + length used
  free_long =
      let fits = no_more (range_with_len from most) (free ++ used) (range_differ from most) (each_in (λ n. IsIn n (free ++ used)) (range_with_len from most) in_either) in
      let long = range_long from most in
      let both = length-append free used in
      omega (arith, fits, long, both)

-- one of them for each key
pairs_of : List (ℕ × ℕ) → List ℕ → List ((ℕ × ℕ) × ℕ)
pairs_of [] numbers = []
pairs_of (k ∷ keys) [] = []
pairs_of (k ∷ keys) (n ∷ numbers) = (k, n) ∷ pairs_of keys numbers

from_pairs : (keys : List (ℕ × ℕ)) (numbers : List ℕ) (e : (ℕ × ℕ) × ℕ) → IsIn e (pairs_of keys numbers) → IsIn e.0 keys × IsIn e.1 numbers
unfolding pairs_of
from_pairs [] numbers e h = absurd h
from_pairs (k ∷ keys) [] e h = absurd h
from_pairs (k ∷ keys) (n ∷ numbers) e (inl same) = (inl (ap (λ (f : (ℕ × ℕ) × ℕ). f.0) same), inl (ap (λ (f : (ℕ × ℕ) × ℕ). f.1) same))
from_pairs (k ∷ keys) (n ∷ numbers) e (inr h) = let rest = from_pairs keys numbers e h in (inr rest.0, inr rest.1)

one_key : (keys : List (ℕ × ℕ)) (numbers : List ℕ) → AllDiffer numbers → (e f : (ℕ × ℕ) × ℕ) → IsIn e (pairs_of keys numbers) → IsIn f (pairs_of keys numbers) → e.1 ≡ f.1 → e.0 ≡ f.0
unfolding pairs_of
one_key [] numbers differ e f p q same = absurd p
one_key (k ∷ keys) [] differ e f p q same = absurd p
one_key (k ∷ keys) (n ∷ numbers) differ e f (inl a) (inl b) same = ap (λ (g : (ℕ × ℕ) × ℕ). g.0) a ∙ sym (ap (λ (g : (ℕ × ℕ) × ℕ). g.0) b)
one_key (k ∷ keys) (n ∷ numbers) differ e f (inl a) (inr q) same =
    absurd (one_in (λ m. n ≢ m) numbers f.1 differ.0 (from_pairs keys numbers f q).1 (sym (ap (λ (g : (ℕ × ℕ) × ℕ). g.1) a) ∙ same))
one_key (k ∷ keys) (n ∷ numbers) differ e f (inr p) (inl b) same =
    absurd (one_in (λ m. n ≢ m) numbers e.1 differ.0 (from_pairs keys numbers e p).1 (sym (ap (λ (g : (ℕ × ℕ) × ℕ). g.1) b) ∙ sym same))
one_key (k ∷ keys) (n ∷ numbers) differ e f (inr p) (inr q) same = one_key keys numbers differ.1 e f p q same

some_pair : (keys : List (ℕ × ℕ)) (numbers : List ℕ) → length keys ≤ length numbers → (k : ℕ × ℕ) → IsIn k keys → (n : ℕ) × IsIn (k, n) (pairs_of keys numbers)
unfolding pairs_of
some_pair [] numbers fits k h = absurd h
some_pair (j ∷ keys) [] fits k h = absurd (omega (arith, fits))
some_pair (j ∷ keys) (n ∷ numbers) fits k (inl e) = (n, inl (λ i. (e i, n)))
some_pair (j ∷ keys) (n ∷ numbers) fits k (inr h) = let rest = some_pair keys numbers (omega (arith, fits)) k h in (rest.0, inr rest.1)

module _ (keys : List (ℕ × ℕ)) (numbers : List ℕ) where
  pub numbered : map.FinMap pair_cmp ℕ
  numbered = map.from_entries (pairs_of keys numbers)

  pub number_is : (k : ℕ × ℕ) (n : ℕ) → map.get numbered k ≡ Some n → IsIn k keys × IsIn n numbers
  unfolding numbered
  number_is k n there =
      let found = found_in k n (pairs_of keys numbers) (sym (get-from_entries pair_cmp_total (pairs_of keys numbers) k) ∙ there) in
      let own = from_pairs keys numbers found.0 found.1 in
      (subst (λ j. IsIn j keys) (sym found.2) own.0, subst (λ m. IsIn m numbers) (sym found.3) own.1)

  pub number_some : length keys ≤ length numbers → (k : ℕ × ℕ) → IsIn k keys → IsSome (map.get numbered k)
  unfolding numbered
  number_some fits k there =
      let pair = some_pair keys numbers fits k there in
      ap is_some (get-from_entries pair_cmp_total (pairs_of keys numbers) k) ∙ some_found (k, pair.0) (pairs_of keys numbers) pair.1

  pub numbers_apart : AllDiffer numbers → (k j : ℕ × ℕ) (n m : ℕ) → map.get numbered k ≡ Some n → map.get numbered j ≡ Some m → n ≡ m → k ≡ j
  unfolding numbered
  numbers_apart differ k j n m there too same =
      let one = found_in k n (pairs_of keys numbers) (sym (get-from_entries pair_cmp_total (pairs_of keys numbers) k) ∙ there) in
      let other = found_in j m (pairs_of keys numbers) (sym (get-from_entries pair_cmp_total (pairs_of keys numbers) j) ∙ too) in
      one.2 ∙ one_key keys numbers differ one.0 other.0 one.1 other.1 (sym one.3 ∙ same ∙ other.3) ∙ sym other.2
