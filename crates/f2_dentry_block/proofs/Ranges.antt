-- Ranges of numbers, and what a test, a search or a map makes of one.
use Rattle.std.proofs.Common.{◌≡◌, ℕ, zero, suc, ◌+◌, ◌<◌, ◌≤◌, Bool, true, false, ◌&&◌, List, [], ◌∷◌, ◌++◌, Some, None, map, refl, sym, ap, ◌∙◌, arith, inl, inr}
use Rattle.std.specs.List.{range_with_len, filter, find, list_all}
use Rattle.std.proofs.lemmas.Bool.{cases_Bool, cases_eq, cond-true, cond-false}

-- a range is its front and its rest
pub range-split : (a m n : ℕ) → range_with_len a (m + n) ≡ range_with_len a m ++ range_with_len (a + m) n
range-split a zero n =
    let count : zero + n ≡ n = omega arith in
    let start : a ≡ a + zero = omega arith in
    ap (range_with_len a) count ∙ ap (λ (b : ℕ). range_with_len b n) start
range-split a (suc m) n =
    let count : suc m + n ≡ suc (m + n) = omega arith in
    let start : a + 1 + m ≡ a + suc m = omega arith in
    ap (range_with_len a) count
    ∙ ap (λ (xs : List ℕ). a ∷ xs) (range-split (a + 1) m n ∙ ap (λ (b : ℕ). range_with_len (a + 1) m ++ range_with_len b n) start)

-- nothing passes where nothing in the range does
pub filter-none : (p : ℕ → Bool) (a n : ℕ) → ((k : ℕ) → a ≤ k → k < a + n → p k ≡ false) → filter p (range_with_len a n) ≡ []
filter-none p a zero none = refl
filter-none p a (suc n) none =
    cond-false (p a) (a ∷ filter p (range_with_len (a + 1) n)) (filter p (range_with_len (a + 1) n)) (none a (omega arith) (omega arith))
    ∙ filter-none p (a + 1) n (λ k low high. none k (omega arith) (omega arith))

-- nothing is found where nothing in the range passes
pub find-none : (p : ℕ → Bool) (a n : ℕ) → ((k : ℕ) → a ≤ k → k < a + n → p k ≡ false) → find p (range_with_len a n) ≡ None
find-none p a zero none = refl
find-none p a (suc n) none =
    cond-false (p a) (Some a) (find p (range_with_len (a + 1) n)) (none a (omega arith) (omega arith))
    ∙ find-none p (a + 1) n (λ k low high. none k (omega arith) (omega arith))

-- the first that passes is found
pub find-first : (p : ℕ → Bool) (a n k : ℕ) → a ≤ k → k < a + n → p k ≡ true → ((j : ℕ) → a ≤ j → j < k → p j ≡ false) → find p (range_with_len a n) ≡ Some k
find-first p a zero k low high here before = absurd (omega arith)
find-first p a (suc n) k low high here before = elim (cases_eq a k) [
  | inl same ↦ cond-true (p a) (Some a) (find p (range_with_len (a + 1) n)) (ap p same ∙ here) ∙ ap Some same
  | inr differ ↦
      cond-false (p a) (Some a) (find p (range_with_len (a + 1) n)) (before a (omega arith) (omega arith))
      ∙ find-first p (a + 1) n k (omega arith) (omega arith) here (λ j l h. before j (omega arith) (omega arith))
]

-- tests that agree on the range keep the same, and maps that agree on what is kept make the same of it
pub kept-same : {X : Type 0} (p q : ℕ → Bool) (f g : ℕ → X) (a n : ℕ) → ((k : ℕ) → a ≤ k → k < a + n → p k ≡ q k)
    → ((k : ℕ) → a ≤ k → k < a + n → q k ≡ true → f k ≡ g k) → map f (filter p (range_with_len a n)) ≡ map g (filter q (range_with_len a n))
kept-same p q f g a zero same value = refl
kept-same {X} p q f g a (suc n) same value =
    let more = range_with_len (a + 1) n in
    let rest = kept-same p q f g (a + 1) n (λ k low high. same k (omega arith) (omega arith)) (λ k low high passes. value k (omega arith) (omega arith) passes) in
    let here = same a (omega arith) (omega arith) in
    elim (cases_Bool (q a)) [
      | inl passes ↦
          ap (map f) (cond-true (p a) (a ∷ filter p more) (filter p more) (here ∙ passes))
          ∙ ap (λ (x : X). x ∷ map f (filter p more)) (value a (omega arith) (omega arith) passes)
          ∙ ap (λ (xs : List X). g a ∷ xs) rest
          ∙ sym (ap (map g) (cond-true (q a) (a ∷ filter q more) (filter q more) passes))
      | inr fails ↦
          ap (map f) (cond-false (p a) (a ∷ filter p more) (filter p more) (here ∙ fails))
          ∙ rest
          ∙ sym (ap (map g) (cond-false (q a) (a ∷ filter q more) (filter q more) fails))
    ]

-- tests that agree on the range both pass all of it, or neither does
pub list_all-same : (p q : ℕ → Bool) (a n : ℕ) → ((k : ℕ) → a ≤ k → k < a + n → p k ≡ q k) → list_all p (range_with_len a n) ≡ list_all q (range_with_len a n)
list_all-same p q a zero same = refl
list_all-same p q a (suc n) same =
    ap (λ (b : Bool). b && list_all p (range_with_len (a + 1) n)) (same a (omega arith) (omega arith))
    ∙ ap (λ (b : Bool). q a && b) (list_all-same p q (a + 1) n (λ k low high. same k (omega arith) (omega arith)))

-- a range all of which passes
pub list_all-true : (p : ℕ → Bool) (a n : ℕ) → ((k : ℕ) → a ≤ k → k < a + n → p k ≡ true) → list_all p (range_with_len a n) ≡ true
list_all-true p a zero pass = refl
list_all-true p a (suc n) pass =
    ap (λ (b : Bool). b && list_all p (range_with_len (a + 1) n)) (pass a (omega arith) (omega arith))
    ∙ list_all-true p (a + 1) n (λ k low high. pass k (omega arith) (omega arith))
