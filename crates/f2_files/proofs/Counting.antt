-- How many pairs of a file there are: as many as stand in a row from its ino on.
use Rattle.std.proofs.Common.{◌≡◌, ℕ, suc, ◌+◌, ◌<◌, Bool, true, false, cond, not, ◌==◌, List, [], ◌∷◌, length, refl, sym, ap, ◌∙◌, arith}
use Rattle.std.specs.Prelude.{Some, nat_lt}
use Rattle.std.specs.Option.{is_none}
use Rattle.std.specs.List.{find, filter, count_by, take_while, AllByRecursion}
use Rattle.std.specs.List.Sorted.{IsStrictlySortedBy}
use Rattle.std.specs.declared.cmp.Ordering.TheVariants.{Less}
use Rattle.std.proofs.lemmas.Bool.{ltb-true, ne_eqb}
use Rattle.std.proofs.lemmas.List.Sums.{sum_by-cons, take_while-cons}
use Rattle.f2_model.specs.Goes.{second_of}
use Rattle.f2_model.specs.State.{pair_cmp}
use Rattle.f2_files.proofs.PairOrder.{Pair, from_ino, not_less}

-- whether a pair is one of a file
abbrev pub own : ℕ → Pair → Bool
own ino pair = pair.0 == ino

-- the count of a list with a pair before it
abbrev counting : Bool → ℕ → ℕ
counting b rest = cond b 1 0 + rest

counts : (ino : ℕ) (x : Pair) (xs : List Pair) → count_by (own ino) (x ∷ xs) ≡ counting (x.0 == ino) (count_by (own ino) xs)
counts ino x xs = sum_by-cons (λ (p : Pair). cond (own ino p) 1 0) x xs

not_counted : (n : ℕ) → counting false n ≡ n
not_counted n = omega arith

one_more : (n : ℕ) → suc n ≡ counting true n
one_more n = omega arith

none_counted : (ino : ℕ) (x : Pair) (ys : List Pair) → ino < x.0 → AllByRecursion (λ y. pair_cmp x y ≡ Less) ys → count_by (own ino) ys ≡ 0
none_counted ino x [] above behind = refl
none_counted ino x (y ∷ ys) above behind =
    let less = not_less x y behind.0 in
    counts ino y ys ∙ ap (λ b. counting b (count_by (own ino) ys)) (ne_eqb y.0 ino (λ same. omega (arith, above, less, same)))
    ∙ not_counted (count_by (own ino) ys) ∙ none_counted ino x ys above behind.1

pub counted : (ino : ℕ) (xs : List Pair) → IsStrictlySortedBy pair_cmp xs → length (take_while (own ino) (filter (from_ino ino) xs)) ≡ count_by (own ino) xs
unfolding IsStrictlySortedBy
counted ino [] sorted = refl
counted ino (x ∷ xs) sorted = by_below (counted ino xs sorted.1) (nat_lt x.0 ino) refl ∙ sym (counts ino x xs)
  where
    rest : List Pair
    rest = filter (from_ino ino) xs

    above : nat_lt x.0 ino ≡ false → (x.0 == ino) ≡ false → ino < x.0
    above low apart = grind arith

    by_own : length (take_while (own ino) rest) ≡ count_by (own ino) xs → (b : Bool) → (x.0 == ino) ≡ b → nat_lt x.0 ino ≡ false → length (cond b (x ∷ take_while (own ino) rest) []) ≡ counting b (count_by (own ino) xs)
    by_own h true is low = ap (λ n. suc n) h ∙ one_more (count_by (own ino) xs)
    by_own h false is low = sym (not_counted (count_by (own ino) xs) ∙ none_counted ino x xs (above low is) sorted.0)

    by_below : length (take_while (own ino) rest) ≡ count_by (own ino) xs → (b : Bool) → nat_lt x.0 ino ≡ b → length (take_while (own ino) (cond (not b) (x ∷ rest) rest)) ≡ counting (x.0 == ino) (count_by (own ino) xs)
    by_below h true is =
        let under = ltb-true x.0 ino is in
        h ∙ sym (not_counted (count_by (own ino) xs)) ∙ ap (λ b. counting b (count_by (own ino) xs)) (sym (ne_eqb x.0 ino (λ same. omega (arith, under, same))))
    by_below h false is = ap length (take_while-cons (own ino) x rest) ∙ by_own h (x.0 == ino) refl is

-- a file has no least pair exactly where it has none
pub none_least : (ino : ℕ) (xs : List Pair) → is_none (second_of (find (own ino) xs)) ≡ (count_by (own ino) xs == 0)
none_least ino [] = refl
none_least ino (x ∷ xs) = by_test (none_least ino xs) (x.0 == ino) ∙ ap (λ n. n == 0) (sym (counts ino x xs))
  where
    by_test : is_none (second_of (find (own ino) xs)) ≡ (count_by (own ino) xs == 0) → (b : Bool) → is_none (second_of (cond b (Some x) (find (own ino) xs))) ≡ (counting b (count_by (own ino) xs) == 0)
    by_test h true = sym (ne_eqb (counting true (count_by (own ino) xs)) 0 (λ same. omega (arith, same)))
    by_test h false = h ∙ ap (λ n. n == 0) (sym (not_counted (count_by (own ino) xs)))

pub turned : (a b : Bool) → a ≡ not b → b ≡ not a
turned a true h = ap not (sym h)
turned a false h = ap not (sym h)
