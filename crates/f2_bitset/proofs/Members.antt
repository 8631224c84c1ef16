-- What a set made by a test over a range contains, and how many.
use Rattle.std.proofs.Common.{◌≡◌, ℕ, zero, suc, ◌+◌, ◌-◌, ◌<◌, ◌≤◌, Bool, true, false, cond, inl, inr, refl, sym, ap, ◌∙◌, subst, arith, nat_cmp, ◌≢◌}
use Rattle.std.specs.FinSet as set
use Rattle.std.specs.FinSet.{nat_cmp-IsAntisymmetric, same_set, contains-insert, contains-remove, len-insert, len-empty, contains-empty}
use Rattle.std.specs.Cmp.{nat_cmp_total, unsigned_tied}
use Rattle.std.proofs.lemmas.Bool.{cases_lt, cases_eq, false≢true}
use Rattle.std.proofs.lemmas.Bool.Decides.{nat_tests}
use Rattle.f2_bitset.specs.Words.{numbers_where}

-- what one more step over the range adds
pub where-suc : (first k : ℕ) (test : ℕ → Bool) → numbers_where first (suc k) test ≡ cond (test k) (set.insert (numbers_where first k test) (first + k)) (numbers_where first k test)
unfolding numbers_where
where-suc first k test = refl

-- a number that is inserted is there
pub contains-insert_same : (s : set.FinSet nat_cmp) (n : ℕ) → set.contains (set.insert s n) n ≡ true
contains-insert_same s n = grind (arith, nat_tests, contains-insert nat_cmp_total s n n, unsigned_tied n n)

-- another is there as before
pub contains-insert_other : (s : set.FinSet nat_cmp) (n q : ℕ) → q ≢ n → set.contains (set.insert s n) q ≡ set.contains s q
contains-insert_other s n q ne = grind (arith, nat_tests, contains-insert nat_cmp_total s n q, unsigned_tied q n)

pub contains-remove_same : (s : set.FinSet nat_cmp) (n : ℕ) → set.contains (set.remove s n) n ≡ false
contains-remove_same s n = grind (arith, nat_tests, contains-remove nat_cmp_total s n n, unsigned_tied n n)

pub contains-remove_other : (s : set.FinSet nat_cmp) (n q : ℕ) → q ≢ n → set.contains (set.remove s n) q ≡ set.contains s q
contains-remove_other s n q ne = grind (arith, nat_tests, contains-remove nat_cmp_total s n q, unsigned_tied n q)

-- a step over the number n leaves each other number as it was
where_other : (b : Bool) (s : set.FinSet nat_cmp) (n q : ℕ) → q ≢ n → set.contains (cond b (set.insert s n) s) q ≡ set.contains s q
where_other true s n q ne = contains-insert_other s n q ne
where_other false s n q ne = refl

-- and n itself is there where the test says so
where_same : (b : Bool) (s : set.FinSet nat_cmp) (n : ℕ) → set.contains s n ≡ false → set.contains (cond b (set.insert s n) s) n ≡ b
where_same true s n absent = contains-insert_same s n
where_same false s n absent = absent

-- below the range nothing is there
pub contains-where_below : (first count : ℕ) (test : ℕ → Bool) (q : ℕ) → q < first → set.contains (numbers_where first count test) q ≡ false
unfolding numbers_where
contains-where_below first zero test q h = contains-empty nat_cmp q
contains-where_below first (suc k) test q h =
    let ne : q ≢ first + k = omega arith in where_other (test k) _ _ q ne ∙ contains-where_below first k test q h

-- nor above it
pub contains-where_above : (first count : ℕ) (test : ℕ → Bool) (q : ℕ) → first + count ≤ q → set.contains (numbers_where first count test) q ≡ false
unfolding numbers_where
contains-where_above first zero test q h = contains-empty nat_cmp q
contains-where_above first (suc k) test q h =
    let ne : q ≢ first + k = omega arith in where_other (test k) _ _ q ne ∙ contains-where_above first k test q (omega arith)

-- within the range the test decides
pub contains-where_in : (first count : ℕ) (test : ℕ → Bool) (j : ℕ) → j < count → set.contains (numbers_where first count test) (first + j) ≡ test j
unfolding numbers_where
contains-where_in first zero test j h = absurd (omega arith)
contains-where_in first (suc k) test j h =
    elim (cases_eq j k) as (λ _. set.contains (cond (test k) (set.insert (numbers_where first k test) (first + k)) (numbers_where first k test)) (first + j) ≡ test j) [
      | inl same ↦
          subst (λ x. set.contains (cond (test k) (set.insert (numbers_where first k test) (first + k)) (numbers_where first k test)) (first + x) ≡ test x) (sym same)
          (where_same (test k) _ _ (contains-where_above first k test (first + k) (omega arith)))
      | inr other ↦
          let ne : first + j ≢ first + k = omega arith in
          where_other (test k) _ _ _ ne ∙ contains-where_in first k test j (omega arith)
    ]

-- a number is below a range, above it or in it
range_cases : (first count : ℕ) (P : ℕ → Type 0) → ((q : ℕ) → q < first → P q) → ((q : ℕ) → first + count ≤ q → P q) → ((k : ℕ) → k < count → P (first + k)) → (q : ℕ) → P q
range_cases first count P below above inside q =
    elim (cases_lt q first) as (λ _. P q) [
      | inl low ↦ below q low
      | inr high ↦
          elim (cases_lt q (first + count)) as (λ _. P q) [
            | inl within ↦
                let e : first + (q - first) ≡ q = omega arith in subst P e (inside (q - first) (omega arith))
            | inr past ↦ above q past
          ]
    ]

-- where one more number passes the test, it is inserted
pub where-insert : (first count : ℕ) (test wider : ℕ → Bool) (j : ℕ) → j < count → wider j ≡ true → ((k : ℕ) → k < count → k ≢ j → wider k ≡ test k) → numbers_where first count wider ≡ set.insert (numbers_where first count test) (first + j)
where-insert first count test wider j within now others =
    same_set nat_cmp_total nat_cmp-IsAntisymmetric _ _ (range_cases first count _
    (λ q h. let ne : q ≢ first + j = omega arith in contains-where_below first count wider q h ∙ sym (contains-insert_other _ _ q ne ∙ contains-where_below first count test q h))
    (λ q h. let ne : q ≢ first + j = omega arith in contains-where_above first count wider q h ∙ sym (contains-insert_other _ _ q ne ∙ contains-where_above first count test q h))
    (λ k h. contains-where_in first count wider k h ∙ elim (cases_eq k j) as (λ _. wider k ≡ set.contains (set.insert (numbers_where first count test) (first + j)) (first + k)) [
      | inl same ↦ subst (λ x. wider x ≡ set.contains (set.insert (numbers_where first count test) (first + j)) (first + x)) (sym same) (now ∙ sym (contains-insert_same _ _))
      | inr other ↦
          let ne : first + k ≢ first + j = omega arith in
          others k h other ∙ sym (contains-insert_other _ _ _ ne ∙ contains-where_in first count test k h)
    ]))

-- where one number no longer passes the test, it is removed
pub where-remove : (first count : ℕ) (test narrower : ℕ → Bool) (j : ℕ) → j < count → narrower j ≡ false → ((k : ℕ) → k < count → k ≢ j → narrower k ≡ test k) → numbers_where first count narrower ≡ set.remove (numbers_where first count test) (first + j)
where-remove first count test narrower j within now others =
    same_set nat_cmp_total nat_cmp-IsAntisymmetric _ _ (range_cases first count _
    (λ q h. let ne : q ≢ first + j = omega arith in contains-where_below first count narrower q h ∙ sym (contains-remove_other _ _ q ne ∙ contains-where_below first count test q h))
    (λ q h. let ne : q ≢ first + j = omega arith in contains-where_above first count narrower q h ∙ sym (contains-remove_other _ _ q ne ∙ contains-where_above first count test q h))
    (λ k h. contains-where_in first count narrower k h ∙ elim (cases_eq k j) as (λ _. narrower k ≡ set.contains (set.remove (numbers_where first count test) (first + j)) (first + k)) [
      | inl same ↦ subst (λ x. narrower x ≡ set.contains (set.remove (numbers_where first count test) (first + j)) (first + x)) (sym same) (now ∙ sym (contains-remove_same _ _))
      | inr other ↦
          let ne : first + k ≢ first + j = omega arith in
          others k h other ∙ sym (contains-remove_other _ _ _ ne ∙ contains-where_in first count test k h)
    ]))

-- a set without the number is the same after its removal
pub remove-absent : (s : set.FinSet nat_cmp) (n : ℕ) → set.contains s n ≡ false → set.remove s n ≡ s
remove-absent s n absent =
    same_set nat_cmp_total nat_cmp-IsAntisymmetric _ _ (λ q. elim (cases_eq q n) as (λ _. set.contains (set.remove s n) q ≡ set.contains s q) [
      | inl same ↦ subst (λ x. set.contains (set.remove s n) x ≡ set.contains s x) (sym same) (contains-remove_same s n ∙ sym absent)
      | inr other ↦ contains-remove_other s n q other
    ])

-- a set with the number is the same after its insertion
pub insert-present : (s : set.FinSet nat_cmp) (n : ℕ) → set.contains s n ≡ true → set.insert s n ≡ s
insert-present s n present =
    same_set nat_cmp_total nat_cmp-IsAntisymmetric _ _ (λ q. elim (cases_eq q n) as (λ _. set.contains (set.insert s n) q ≡ set.contains s q) [
      | inl same ↦ subst (λ x. set.contains (set.insert s n) x ≡ set.contains s x) (sym same) (contains-insert_same s n ∙ sym present)
      | inr other ↦ contains-insert_other s n q other
    ])

-- where no number passes the test, the set is empty
pub where-none : (first count : ℕ) (test : ℕ → Bool) → ((k : ℕ) → k < count → test k ≡ false) → numbers_where first count test ≡ set.empty
where-none first count test none =
    same_set nat_cmp_total nat_cmp-IsAntisymmetric _ _ (range_cases first count _
    (λ q h. contains-where_below first count test q h ∙ sym (contains-empty nat_cmp q))
    (λ q h. contains-where_above first count test q h ∙ sym (contains-empty nat_cmp q))
    (λ k h. contains-where_in first count test k h ∙ none k h ∙ sym (contains-empty nat_cmp _)))

-- each number that passes the test counts once
len-where-suc : (first k : ℕ) (test : ℕ → Bool) → set.len (numbers_where first (suc k) test) ≡ cond (test k) (set.len (numbers_where first k test) + 1) (set.len (numbers_where first k test))
unfolding numbers_where
len-where-suc first k test =
    elim (test k) as (λ b. set.len (cond b (set.insert (numbers_where first k test) (first + k)) (numbers_where first k test)) ≡ cond b (set.len (numbers_where first k test) + 1) (set.len (numbers_where first k test))) [
      | true ↦ len-insert nat_cmp_total _ _ ∙ ap (λ b. cond b (set.len (numbers_where first k test)) (set.len (numbers_where first k test) + 1)) (contains-where_above first k test (first + k) (omega arith))
      | false ↦ refl
    ]

-- so there are no more than the range has
pub len-where-le : (first count : ℕ) (test : ℕ → Bool) → set.len (numbers_where first count test) ≤ count
unfolding numbers_where
len-where-le first zero test = omega (arith, len-empty nat_cmp)
len-where-le first (suc k) test = grind (arith, len-where-suc first k test, len-where-le first k test)

-- as many as the range has where all pass
pub len-where_all : (first count : ℕ) (test : ℕ → Bool) → ((k : ℕ) → k < count → test k ≡ true) → set.len (numbers_where first count test) ≡ count
unfolding numbers_where
len-where_all first zero test all = len-empty nat_cmp
len-where_all first (suc k) test all = grind (arith, len-where-suc first k test, all k (omega arith), len-where_all first k test (λ j h. all j (omega arith)))

-- and only there
pub all-of_len : (first count : ℕ) (test : ℕ → Bool) → set.len (numbers_where first count test) ≡ count → (k : ℕ) → k < count → test k ≡ true
all-of_len first zero test e k h = absurd (omega arith)
all-of_len first (suc c) test e k h =
    elim (test c) as (λ b. test c ≡ b → cond b (set.len (numbers_where first c test) + 1) (set.len (numbers_where first c test)) ≡ suc c → test k ≡ true) [
      | true ↦ λ now len. elim (cases_eq k c) as (λ _. test k ≡ true) [
        | inl same ↦ ap test same ∙ now
        | inr other ↦ all-of_len first c test (omega arith) k (omega arith)
      ]
      | false ↦ λ _ len. absurd (omega (arith, len-where-le first c test))
    ] refl (sym (len-where-suc first c test) ∙ e)

-- a set with a member has one at least
pub len-contained : (s : set.FinSet nat_cmp) (n : ℕ) → set.contains s n ≡ true → 0 < set.len s
len-contained s n there =
    elim (cases_eq (set.len s) 0) as (λ _. 0 < set.len s) [
      | inl none ↦ absurd (false≢true (sym (contains-empty nat_cmp n) ∙ ap (λ t. set.contains t n) (sym (set.empty_of_len s none)) ∙ there))
      | inr some ↦ omega arith
    ]
