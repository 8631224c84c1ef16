-- Lists that go together place by place, numbers that pass a test, and things that differ.
use Rattle.std.proofs.Common.{◌≡◌, ◌≢◌, ℕ, zero, suc, ◌+◌, ◌<◌, ◌≤◌, Bool, true, false, cond, IsTrue, List, [], ◌∷◌, ◌++◌, length, take, filter, Contains, slice_index_or, refl, sym, ap, ◌∙◌, subst, arith}
use Rattle.std.specs.List.{AllByRecursion, AllZip, range_with_len}
use native.Mathlib.Decide.{ℕ_discrete}

-- one more in front
pub Contains-later : {X : Type 0} (y x : X) (xs : List X) → Contains xs x → Contains (y ∷ xs) x
Contains-later y x xs (k, within, is) = (suc k, omega (arith, within), is)

-- the first part of lists that go together
pub zip_front : {X Y : Type 0} (R : X → Y → Type 0) (xs more : List X) (ys : List Y) → AllZip R (xs ++ more) ys → AllZip R xs (take (length xs) ys) × (length xs ≤ length ys)
zip_front R [] more [] zip = (tt, omega arith)
zip_front R [] more (y ∷ ys) zip = (tt, omega arith)
zip_front R (x ∷ xs) more [] zip = absurd zip
zip_front R (x ∷ xs) more (y ∷ ys) zip = let rest = zip_front R xs more ys zip.1 in let few = rest.1 in ((zip.0, rest.0), omega (arith, few))

-- a member of one of two lists that go together has one of the other
pub zip_member : {X Y : Type 0} (R : X → Y → Type 0) (xs : List X) (ys : List Y) (x : X) → AllZip R xs ys → Contains xs x → (y : Y) × Contains ys y × R x y
zip_member R [] ys x zip (k, within, is) = absurd (omega (arith, within))
zip_member R (a ∷ xs) [] x zip has = absurd zip
zip_member R (a ∷ xs) (b ∷ ys) x zip (zero, within, is) = (b, (0, omega arith, refl), subst (λ z. R z b) is zip.0)
zip_member R (a ∷ xs) (b ∷ ys) x zip (suc k, within, is) =
    let later = zip_member R xs ys x zip.1 (k, omega (arith, within), is) in
    (later.0, Contains-later b later.0 ys later.1, later.2)

-- lists that go together go together in another way too
pub zip_other : {X Y : Type 0} (P : X → Type 0) (R S : X → Y → Type 0) → ((x : X) (y : Y) → P x → R x y → S x y) → (xs : List X) (ys : List Y) → AllByRecursion P xs → AllZip R xs ys → AllZip S xs ys
zip_other P R S each [] [] all zip = tt
zip_other P R S each [] (y ∷ ys) all zip = absurd zip
zip_other P R S each (x ∷ xs) [] all zip = absurd zip
zip_other P R S each (x ∷ xs) (y ∷ ys) all zip = (each x y all.0 zip.0, zip_other P R S each xs ys all.1 zip.1)

-- what holds of each member of a list
pub at_place : {X : Type 0} (P : X → Type 0) (xs : List X) (k : ℕ) (d : X) → AllByRecursion P xs → k < length xs → P (slice_index_or xs k d)
at_place P [] k d all small = absurd (omega (arith, small))
at_place P (x ∷ xs) zero d all small = all.0
at_place P (x ∷ xs) (suc k) d all small = at_place P xs k d all.1 (omega (arith, small))

-- numbers one after another, in two parts
split_range : (from few more all : ℕ) → few + more ≡ all → range_with_len from all ≡ range_with_len from few ++ range_with_len (from + few) more
split_range from zero more all e =
    let first : from ≡ from + 0 = omega arith in
    let many : all ≡ more = omega (arith, e) in
    λ i. range_with_len (first i) (many i)
split_range from (suc few) more zero e = absurd (omega (arith, e))
split_range from (suc few) more (suc all) e =
    let next : from + 1 + few ≡ from + suc few = omega arith in
    ap (λ rest. from ∷ rest) (split_range (from + 1) few more all (omega (arith, e))) ∙ ap (λ n. from ∷ (range_with_len (from + 1) few ++ range_with_len n more)) next

filter_two : (p : ℕ → Bool) (xs ys : List ℕ) → filter p (xs ++ ys) ≡ filter p xs ++ filter p ys
filter_two p [] ys = refl
filter_two p (x ∷ xs) ys = by_test (filter_two p xs ys) (p x)
  where
    by_test : filter p (xs ++ ys) ≡ filter p xs ++ filter p ys → (b : Bool) → cond b (x ∷ filter p (xs ++ ys)) (filter p (xs ++ ys)) ≡ cond b (x ∷ filter p xs) (filter p xs) ++ filter p ys
    by_test rest true = ap (λ r. x ∷ r) rest
    by_test rest false = rest

-- the numbers that pass are in two parts too
pub filter_split : (p : ℕ → Bool) (few more all : ℕ) → few + more ≡ all → filter p (range_with_len 0 all) ≡ filter p (range_with_len 0 few) ++ filter p (range_with_len (0 + few) more)
filter_split p few more all e = ap (filter p) (split_range 0 few more all e) ∙ filter_two p (range_with_len 0 few) (range_with_len (0 + few) more)

-- two tests that agree on some numbers let the same ones pass
pub filter_same : (p q : ℕ → Bool) (from many limit : ℕ) → from + many ≡ limit → ((k : ℕ) → k < limit → p k ≡ q k) → filter p (range_with_len from many) ≡ filter q (range_with_len from many)
filter_same p q from zero limit e same = refl
filter_same p q from (suc many) limit e same =
    ap (λ b. cond b (from ∷ filter p (range_with_len (from + 1) many)) (filter p (range_with_len (from + 1) many))) (same from (omega (arith, e)))
    ∙ ap (λ rest. cond (q from) (from ∷ rest) rest) (filter_same p q (from + 1) many limit (omega (arith, e)) same)

-- the numbers that pass are in range and pass
pub filter_passes : (p : ℕ → Bool) (limit from many : ℕ) → from + many ≡ limit → AllByRecursion (λ k. (k < limit) × IsTrue (p k)) (filter p (range_with_len from many))
filter_passes p limit from zero all = tt
filter_passes p limit from (suc many) all = by_test (p from) refl (filter_passes p limit (from + 1) many (omega (arith, all)))
  where
    by_test : (b : Bool) → p from ≡ b → AllByRecursion (λ k. (k < limit) × IsTrue (p k)) (filter p (range_with_len (from + 1) many))
        → AllByRecursion (λ k. (k < limit) × IsTrue (p k)) (cond b (from ∷ filter p (range_with_len (from + 1) many)) (filter p (range_with_len (from + 1) many)))
    by_test false e rest = rest
    by_test true e rest = ((omega (arith, all), e), rest)

-- and a number that passes is among them
pub filter_has : (p : ℕ → Bool) (k from many : ℕ) → from ≤ k → k < from + many → IsTrue (p k) → Contains (filter p (range_with_len from many)) k
filter_has p k from zero low high pass = absurd (omega (arith, low, high))
filter_has p k from (suc many) low high pass = by_place (ℕ_discrete from k) (λ other. filter_has p k (from + 1) many (omega (arith, low, other)) (omega (arith, high)) pass)
  where
    rest : List ℕ
    rest = filter p (range_with_len (from + 1) many)

    skipped : (b : Bool) → Contains rest k → Contains (cond b (from ∷ rest) rest) k
    skipped true has = Contains-later from k rest has
    skipped false has = has

    by_place : Dec (from ≡ k) → (from ≢ k → Contains rest k) → Contains (cond (p from) (from ∷ rest) rest) k
    by_place (yes same) later = subst (λ b. Contains (cond b (from ∷ rest) rest) k) (sym (ap p same ∙ pass)) (0, omega arith, same)
    by_place (no other) later = skipped (p from) (later other)
