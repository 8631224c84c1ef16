-- How many pairs of a set an ino has, as pairs come and go.
use Rattle.std.proofs.Common.{◌≡◌, ℕ, ◌+◌, ◌≤◌, Bool, true, false, cond, not, ◌&&◌, ◌||◌, List, [], ◌∷◌, filter, find, count_by, length, refl, sym, ap, subst, ◌∙◌, arith, true≢false}
use Rattle.std.specs.Prelude.{Option, Some, None, ◌==◌}
use Rattle.std.specs.List.{list_any}
use Rattle.std.specs.Ordering.{eq_by_cmp, is_eq}
use Rattle.std.specs.declared.cmp.Ordering.{Ordering}
use Rattle.std.specs.declared.cmp.Ordering.TheVariants.{Less, Equal, Greater}
use Rattle.std.specs.Cmp.{tied_itself}
use Rattle.std.specs.FinSet as set
use Rattle.std.proofs.lemmas.Bool.{eqb-true, eq-eqb}
use Rattle.std.proofs.lemmas.List.Kept.{IsStrictlySortedBy-filter}
use Rattle.std.proofs.lemmas.List.Sums.{sum_by-cons, length-filter}
use Rattle.f2_model.specs.Rising.{rising}
use Rattle.f2_model.specs.State.{Pairs, pair_cmp}
use Rattle.f2_model.specs.Fallback.{pairs_of}
use Rattle.f2_model.specs.Goes.{second_of, least_of}
use Rattle.f2_model.proofs.RisingLemmas.{rises, contains-rising, rising-is}
use Rattle.f2_laws.proofs.Walks.{some_same}
use Rattle.f2_laws.proofs.Orders.{pair_cmp_total, pair_cmp-IsAntisymmetric}

abbrev tied : ℕ × ℕ → ℕ × ℕ → Bool
tied = eq_by_cmp pair_cmp

tied_pairs : (a b : ℕ × ℕ) → tied a b ≡ true → a ≡ b
tied_pairs a b e = pair_cmp-IsAntisymmetric a b (by_order (pair_cmp a b) e)
  where
    by_order : (o : Ordering) → is_eq o ≡ true → o ≡ Equal
    by_order Less e = absurd (true≢false (sym e))
    by_order Equal e = refl
    by_order Greater e = absurd (true≢false (sym e))

self_tied : (a : ℕ × ℕ) → tied a a ≡ true
self_tied a = ap is_eq (tied_itself pair_cmp_total a)

-- a pair is one of those that pass a test where it is one of all, and passes
any_filtered : (test : ℕ × ℕ → Bool) (q : ℕ × ℕ) (xs : List (ℕ × ℕ)) → list_any (tied q) (filter test xs) ≡ (list_any (tied q) xs && test q)
any_filtered test q [] = refl
any_filtered test q (x ∷ xs) = by_test (any_filtered test q xs) (test x) refl (tied q x) refl
  where
    absorbed : (a : Bool) → a ≡ (true && a)
    absorbed true = refl
    absorbed false = refl

    none_left : (a b : Bool) → b ≡ false → (a && b) ≡ b
    none_left true b e = refl
    none_left false b e = sym e

    by_test : list_any (tied q) (filter test xs) ≡ (list_any (tied q) xs && test q) → (b : Bool) → test x ≡ b → (t : Bool) → tied q x ≡ t → list_any (tied q) (cond b (x ∷ filter test xs) (filter test xs)) ≡ ((tied q x || list_any (tied q) xs) && test q)
    by_test rest true e true t =
        let passes : test q ≡ true = ap test (tied_pairs q x t) ∙ e in
        ap (λ s. s || list_any (tied q) (filter test xs)) t ∙ sym (ap (λ s. (s || list_any (tied q) xs) && test q) t ∙ passes)
    by_test rest true e false t = ap (λ s. s || list_any (tied q) (filter test xs)) t ∙ rest ∙ ap (λ s. (s || list_any (tied q) xs) && test q) (sym t)
    by_test rest false e true t =
        let fails : test q ≡ false = ap test (tied_pairs q x t) ∙ e in
        rest ∙ none_left (list_any (tied q) xs) (test q) fails ∙ ap (λ s. (s || list_any (tied q) xs) && test q) (sym t)
    by_test rest false e false t = rest ∙ ap (λ s. (s || list_any (tied q) xs) && test q) (sym t)

-- the pairs of an ino, in order
abbrev mine : ℕ → Pairs → List (ℕ × ℕ)
mine ino pairs = filter (λ pair. pair.0 == ino) (rising pairs)

mine_has : (ino : ℕ) (pairs : Pairs) (q : ℕ × ℕ) → list_any (tied q) (mine ino pairs) ≡ (set.contains pairs q && (q.0 == ino))
mine_has ino pairs q = any_filtered (λ pair. pair.0 == ino) q (rising pairs) ∙ ap (λ b. b && (q.0 == ino)) (sym (contains-rising pair_cmp_total pairs q))

-- sets that have the same pairs of an ino have as many
pub same_pairs : (ino : ℕ) (before after : Pairs) → ((number : ℕ) → set.contains after (ino, number) ≡ set.contains before (ino, number)) → pairs_of ino after ≡ pairs_of ino before
same_pairs ino before after same =
    sym (length-filter (λ (pair : ℕ × ℕ). pair.0 == ino) (rising after)) ∙ ap length lists ∙ length-filter (λ (pair : ℕ × ℕ). pair.0 == ino) (rising before)
  where
    agree : (q : ℕ × ℕ) → (set.contains after q && (q.0 == ino)) ≡ (set.contains before q && (q.0 == ino))
    agree q = by_test (q.0 == ino) refl
      where
        at_ino : q.0 ≡ ino → set.contains after q ≡ set.contains before q
        at_ino e = ap (λ i. set.contains after (i, q.1)) e ∙ same q.1 ∙ ap (λ i. set.contains before (i, q.1)) (sym e)

        neither : (a b : Bool) → (a && false) ≡ (b && false)
        neither true true = refl
        neither true false = refl
        neither false true = refl
        neither false false = refl

        by_test : (b : Bool) → (q.0 == ino) ≡ b → (set.contains after q && (q.0 == ino)) ≡ (set.contains before q && (q.0 == ino))
        by_test true e = ap (λ b. b && (q.0 == ino)) (at_ino (eqb-true q.0 ino e))
        by_test false e = ap (λ b. set.contains after q && b) e ∙ neither (set.contains after q) (set.contains before q) ∙ ap (λ b. set.contains before q && b) (sym e)

    lists : mine ino after ≡ mine ino before
    lists =
        sym (rising-is pair_cmp_total pair_cmp-IsAntisymmetric (set.from_list (mine ino after)) (mine ino after) (IsStrictlySortedBy-filter pair_cmp (λ pair. pair.0 == ino) (rising after) (rises after)) (λ q. set.contains-from_list pair_cmp_total (mine ino after) q))
        ∙ rising-is pair_cmp_total pair_cmp-IsAntisymmetric (set.from_list (mine ino after)) (mine ino before) (IsStrictlySortedBy-filter pair_cmp (λ pair. pair.0 == ino) (rising before) (rises before)) (λ q. set.contains-from_list pair_cmp_total (mine ino after) q ∙ mine_has ino after q ∙ agree q ∙ sym (mine_has ino before q))

-- fewer of a list pass a test among those that pass another one
count_filtered : (p keep : ℕ × ℕ → Bool) (xs : List (ℕ × ℕ)) → count_by p (filter keep xs) ≤ count_by p xs
count_filtered p keep [] = omega arith
count_filtered p keep (x ∷ xs) = by_test (count_filtered p keep xs) (keep x)
  where
    by_test : count_by p (filter keep xs) ≤ count_by p xs → (b : Bool) → count_by p (cond b (x ∷ filter keep xs) (filter keep xs)) ≤ count_by p (x ∷ xs)
    by_test rest true = omega (arith, sum_by-cons (λ (y : ℕ × ℕ). cond (p y) 1 0) x (filter keep xs), sum_by-cons (λ (y : ℕ × ℕ). cond (p y) 1 0) x xs, rest)
    by_test rest false = omega (arith, sum_by-cons (λ (y : ℕ × ℕ). cond (p y) 1 0) x xs, rest)

-- and one fewer where one that passes is left out
count_without : (p keep : ℕ × ℕ → Bool) (q : ℕ × ℕ) → p q ≡ true → keep q ≡ false → (xs : List (ℕ × ℕ)) → list_any (tied q) xs ≡ true → count_by p (filter keep xs) + 1 ≤ count_by p xs
count_without p keep q passes goes [] there = absurd (true≢false (sym there))
count_without p keep q passes goes (x ∷ xs) there = by_tie (count_without p keep q passes goes xs) (tied q x) refl there
  where
    count_one : (b : Bool) → b ≡ true → ◌≡◌ {A = ℕ} (cond b 1 0) 1
    count_one true e = refl
    count_one false e = absurd (true≢false (sym e))

    here : q ≡ x → count_by p (filter keep (x ∷ xs)) + 1 ≤ count_by p (x ∷ xs)
    here same =
        let left : count_by p (filter keep (x ∷ xs)) ≡ count_by p (filter keep xs) = ap (λ b. count_by p (cond b (x ∷ filter keep xs) (filter keep xs))) (ap keep (sym same) ∙ goes) in
        let counts = count_one (p x) (ap p (sym same) ∙ passes) in
        omega (arith, left, counts, count_filtered p keep xs, sum_by-cons (λ (y : ℕ × ℕ). cond (p y) 1 0) x xs)

    by_test : count_by p (filter keep xs) + 1 ≤ count_by p xs → (b : Bool) → count_by p (cond b (x ∷ filter keep xs) (filter keep xs)) + 1 ≤ count_by p (x ∷ xs)
    by_test rest true = omega (arith, sum_by-cons (λ (y : ℕ × ℕ). cond (p y) 1 0) x (filter keep xs), sum_by-cons (λ (y : ℕ × ℕ). cond (p y) 1 0) x xs, rest)
    by_test rest false = omega (arith, sum_by-cons (λ (y : ℕ × ℕ). cond (p y) 1 0) x xs, rest)

    by_tie : (list_any (tied q) xs ≡ true → count_by p (filter keep xs) + 1 ≤ count_by p xs) → (b : Bool) → tied q x ≡ b → (b || list_any (tied q) xs) ≡ true → count_by p (filter keep (x ∷ xs)) + 1 ≤ count_by p (x ∷ xs)
    by_tie rest true e there = here (tied_pairs q x e)
    by_tie rest false e there = by_test (rest there) (keep x)

module _ (ino : ℕ) (pairs : Pairs) (gone : ℕ × ℕ) where
  abbrev stays : ℕ × ℕ → Bool
  stays pair = not (tied pair gone)

  -- a set without a pair, in order
  rising_without : rising (set.remove pairs gone) ≡ filter stays (rising pairs)
  rising_without =
      rising-is pair_cmp_total pair_cmp-IsAntisymmetric (set.remove pairs gone) (filter stays (rising pairs)) (IsStrictlySortedBy-filter pair_cmp stays (rising pairs) (rises pairs))
      (λ q. set.contains-remove pair_cmp_total pairs gone q ∙ swapped (stays q) (set.contains pairs q) ∙ ap (λ b. b && stays q) (contains-rising pair_cmp_total pairs q) ∙ sym (any_filtered stays q (rising pairs)))
    where
      swapped : (a b : Bool) → (a && b) ≡ (b && a)
      swapped true true = refl
      swapped true false = refl
      swapped false true = refl
      swapped false false = refl

  pub fewer_pairs : pairs_of ino (set.remove pairs gone) ≤ pairs_of ino pairs
  fewer_pairs = subst (λ (xs : List (ℕ × ℕ)). count_by (λ pair. pair.0 == ino) xs ≤ pairs_of ino pairs) (sym rising_without) (count_filtered (λ pair. pair.0 == ino) stays (rising pairs))

-- one pair less, where it was there
pub one_pair_less : (ino number : ℕ) (pairs : Pairs) → set.contains pairs (ino, number) ≡ true → pairs_of ino (set.remove pairs (ino, number)) + 1 ≤ pairs_of ino pairs
one_pair_less ino number pairs there =
    subst (λ (xs : List (ℕ × ℕ)). count_by (λ pair. pair.0 == ino) xs + 1 ≤ pairs_of ino pairs) (sym (rising_without ino pairs (ino, number)))
    (count_without (λ pair. pair.0 == ino) (λ pair. not (tied pair (ino, number))) (ino, number) (eq-eqb ino ino refl) (ap not (self_tied (ino, number))) (rising pairs) (sym (contains-rising pair_cmp_total pairs (ino, number)) ∙ there))

-- the least page or node of a file is there
pub least_there : (pairs : Pairs) (ino number : ℕ) → least_of pairs ino ≡ Some number → set.contains pairs (ino, number) ≡ true
least_there pairs ino number least = contains-rising pair_cmp_total pairs (ino, number) ∙ by_found (find (λ pair. pair.0 == ino) (rising pairs)) refl least
  where
    either : (a b : Bool) → b ≡ true → (a || b) ≡ true
    either true b e = refl
    either false b e = e

    listed : (xs : List (ℕ × ℕ)) (pair : ℕ × ℕ) → find (λ pair. pair.0 == ino) xs ≡ Some pair → ((pair.0 == ino) ≡ true) × (list_any (tied pair) xs ≡ true)
    listed [] pair h = absurd (cc)
    listed (x ∷ xs) pair h = by_test (listed xs pair) (x.0 == ino) refl h
      where
        by_test : (find (λ pair. pair.0 == ino) xs ≡ Some pair → ((pair.0 == ino) ≡ true) × (list_any (tied pair) xs ≡ true)) → (b : Bool) → (x.0 == ino) ≡ b → cond b (Some x) (find (λ pair. pair.0 == ino) xs) ≡ Some pair → ((pair.0 == ino) ≡ true) × ((tied pair x || list_any (tied pair) xs) ≡ true)
        by_test rest true e h =
            let same : x ≡ pair = some_same h in
            (ap (λ (p : ℕ × ℕ). p.0 == ino) (sym same) ∙ e, ap (λ b. b || list_any (tied pair) xs) (ap (tied pair) same ∙ self_tied pair))
        by_test rest false e h = let more = rest h in (more.0, either (tied pair x) (list_any (tied pair) xs) more.1)

    by_found : (o : Option (ℕ × ℕ)) → find (λ pair. pair.0 == ino) (rising pairs) ≡ o → second_of o ≡ Some number → list_any (tied (ino, number)) (rising pairs) ≡ true
    by_found None e h = absurd (cc)
    by_found (Some pair) e h =
        let parts = listed (rising pairs) pair e in
        let same : pair ≡ (ino, number) = pair_is pair (eqb-true pair.0 ino parts.0) (some_same h) in
        subst (λ (p : ℕ × ℕ). list_any (tied p) (rising pairs) ≡ true) same parts.1
      where
        pair_is : (pair : ℕ × ℕ) → pair.0 ≡ ino → pair.1 ≡ number → pair ≡ (ino, number)
        pair_is pair a b = λ i. (a i, b i)
