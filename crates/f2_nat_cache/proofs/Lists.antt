-- Tests over a range of numbers.
use Rattle.std.proofs.Common.{◌≡◌, ℕ, zero, suc, ◌+◌, ◌<◌, ◌≤◌, Bool, true, false, cond, List, [], ◌∷◌, ◌++◌, length, get_or, replicate, refl, ap, sym, ◌∙◌, inl, inr, arith, length-append}
use Rattle.std.specs.Prelude.{filter, fold, map, nat_lt}
use Rattle.std.specs.List.{range_with_len}
use Rattle.std.proofs.lemmas.Bool.{cases_lt}
use Rattle.std.proofs.lemmas.Bool.Decides.{nat_tests}
use Rattle.std.proofs.lemmas.List.{get_or-replicate, get_or_past, length-replicate, replicate-append-replicate, append-nil}
use Rattle.std.proofs.lemmas.List.Sums.{fold-append}
use Rattle.std.proofs.lemmas.List.FromFn.{filter_of_map_range_with_len_more}

-- a range is itself
map-range : (a n : ℕ) → map (λ x. x) (range_with_len a n) ≡ range_with_len a n
map-range a zero = refl
map-range a (suc n) = ap (λ rest. a ∷ rest) (map-range (a + 1) n)

-- one number more
pub filter-range_more : (p : ℕ → Bool) (n : ℕ) → filter p (range_with_len 0 (n + 1)) ≡ filter p (range_with_len 0 n) ++ cond (p n) (n ∷ []) []
filter-range_more p n =
    ap (filter p) (sym (map-range 0 (n + 1))) ∙ filter_of_map_range_with_len_more p (λ x. x) 0 n n (omega arith)
    ∙ ap (λ xs. filter p xs ++ cond (p n) (n ∷ []) []) (map-range 0 n)

length-cond : (b : Bool) (n : ℕ) → length (cond b (n ∷ []) []) ≤ 1
length-cond true n = omega arith
length-cond false n = omega arith

-- no more pass than there are
pub length-filter-range : (p : ℕ → Bool) (n : ℕ) → length (filter p (range_with_len 0 n)) ≤ n
length-filter-range p zero = omega arith
length-filter-range p (suc n) =
    let next : suc n ≡ n + 1 = omega arith in
    let e = ap (λ m. length (filter p (range_with_len 0 m))) next ∙ ap (λ (xs : List ℕ). length xs) (filter-range_more p n) in
    omega (arith, e, length-append (filter p (range_with_len 0 n)) (cond (p n) (n ∷ []) []), length-cond (p n) n, length-filter-range p n)

-- every number of a list of zeros is 0
pub get_or-zeros : (n i : ℕ) → let none : ℕ = 0 in get_or (replicate n none) i none ≡ none
get_or-zeros n i = elim (cases_lt i n) [
  | inl within ↦ get_or-replicate n i 0 0 within
  | inr past ↦ get_or_past (replicate n 0) i 0 (omega (arith, length-replicate {A = ℕ} n 0))
]

-- one copy more
pub replicate_more : {A : Type 0} (n : ℕ) (a : A) → replicate n a ++ a ∷ [] ≡ replicate (n + 1) a
replicate_more n a = replicate-append-replicate n 1 a

-- a count of those that pass, after one number more
pub length-filter_more : (p : ℕ → Bool) (n count next : ℕ) (b : Bool) → count ≡ length (filter p (range_with_len 0 n)) → p n ≡ b → next ≡ cond b (count + 1) count → next ≡ length (filter p (range_with_len 0 (n + 1)))
length-filter_more p n count next b is pass more =
    let whole = ap (λ (xs : List ℕ). length xs) (filter-range_more p n ∙ ap (λ c. filter p (range_with_len 0 n) ++ cond c (n ∷ []) []) pass) in
    let long = length-append (filter p (range_with_len 0 n)) (cond b (n ∷ []) []) in
    at b more whole long
  where
    at : (c : Bool) → next ≡ cond c (count + 1) count → length (filter p (range_with_len 0 (n + 1))) ≡ length (filter p (range_with_len 0 n) ++ cond c (n ∷ []) []) → length (filter p (range_with_len 0 n) ++ cond c (n ∷ []) []) ≡ length (filter p (range_with_len 0 n)) + length (cond c (n ∷ []) []) → next ≡ length (filter p (range_with_len 0 (n + 1)))
    at true e w l = omega (arith, e, w, l, is)
    at false e w l = omega (arith, e, w, l, is)

-- pairs of a number and its count where the count isn't 0, after one number more
pub counted_more : (f : ℕ → ℕ) (n count : ℕ) (items next : List (ℕ × ℕ)) (b : Bool) → items ≡ filter (λ s. nat_lt 0 s.1) (map (λ k. (k, f k)) (range_with_len 0 n)) → count ≡ f n → nat_lt 0 count ≡ b → next ≡ cond b (items ++ (n, count) ∷ []) items
    → next ≡ filter (λ s. nat_lt 0 s.1) (map (λ k. (k, f k)) (range_with_len 0 (n + 1)))
counted_more f n count items next b is counts pass more =
    more
    ∙ at b
    ∙ ap (λ c. items ++ cond c ((n, count) ∷ []) []) (sym pass)
    ∙ ap (λ xs. xs ++ cond (nat_lt 0 count) ((n, count) ∷ []) []) is
    ∙ (λ i. filter (λ s. nat_lt 0 s.1) (map (λ k. (k, f k)) (range_with_len 0 n)) ++ cond (nat_lt 0 (counts i)) ((n, counts i) ∷ []) [])
    ∙ sym (filter_of_map_range_with_len_more (λ s. nat_lt 0 s.1) (λ k. (k, f k)) 0 n n (omega arith))
  where
    at : (c : Bool) → cond c (items ++ (n, count) ∷ []) items ≡ items ++ cond c ((n, count) ∷ []) []
    at true = refl
    at false = sym (append-nil items)

pub positive : (n : ℕ) → 0 < n → nat_lt 0 n ≡ true
positive n h = grind (arith, nat_tests)

pub not_positive : (n : ℕ) → n ≤ 0 → nat_lt 0 n ≡ false
not_positive n h = grind (arith, nat_tests)

-- a fold over those that pass, after one number more
pub fold-filter_more : {B : Type 0} (f : B → ℕ → B) (a : B) (p : ℕ → Bool) (n : ℕ) (now next : B) (b : Bool) → now ≡ fold f a (filter p (range_with_len 0 n)) → p n ≡ b → next ≡ cond b (f now n) now → next ≡ fold f a (filter p (range_with_len 0 (n + 1)))
fold-filter_more f a p n now next b is pass more =
    more ∙ at b is
    ∙ sym (ap (fold f a) (filter-range_more p n ∙ ap (λ c. filter p (range_with_len 0 n) ++ cond c (n ∷ []) []) pass) ∙ fold-append f a (filter p (range_with_len 0 n)) (cond b (n ∷ []) []))
  where
    at : (c : Bool) → now ≡ fold f a (filter p (range_with_len 0 n)) → cond c (f now n) now ≡ fold f (fold f a (filter p (range_with_len 0 n))) (cond c (n ∷ []) [])
    at true is = ap (λ x. f x n) is
    at false is = is
