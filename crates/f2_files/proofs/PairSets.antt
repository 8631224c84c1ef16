-- Sets of pairs with numbers of a file put in or taken out.
use Rattle.std.proofs.Common.{◌≡◌, ◌≢◌, ℕ, ◌-◌, ◌<◌, Bool, true, false, cond, not, ◌&&◌, ◌||◌, ◌==◌, List, [], ◌∷◌, ◌++◌, refl, sym, ap, ◌∙◌, arith, true≢false}
use Rattle.std.specs.Prelude.{Some, None}
use Rattle.std.specs.List.{find, list_any}
use Rattle.std.specs.Ordering.{eq_by_cmp, is_eq}
use Rattle.std.specs.declared.cmp.Ordering.TheVariants.{Equal}
use Rattle.std.specs.Cmp.{Equal-is, tied_itself}
use Rattle.std.specs.FinSet as set
use Rattle.std.specs.FinSet.{contains-insert, contains-remove, contains-retain, same_set}
use Rattle.std.proofs.lemmas.Bool.{eqb-true, eq-eqb}
use Rattle.f2_model.proofs.RisingLemmas.{contains-rising}
use Rattle.f2_model.specs.Goes.{least_of, second_of}
use Rattle.f2_model.specs.Rising.{rising}
use Rattle.f2_model.specs.State.{Pairs, pair_cmp, with_pairs, without_pairs, without_ino}
use Rattle.f2_flights.proofs.SetViews.{pair_cmp_total, pair_cmp-IsAntisymmetric}
use Rattle.f2_files.proofs.PairOrder.{Pair}

-- whether two pairs are the same
abbrev pub is_pair : Pair → Pair → Bool
is_pair = eq_by_cmp pair_cmp

pub pair_same : (p q : Pair) → is_pair p q ≡ true → p ≡ q
pair_same p q h = pair_cmp-IsAntisymmetric p q ((Equal-is (pair_cmp p q)).0 h)

pub pair_itself : (p : Pair) → is_pair p p ≡ true
pair_itself p = ap is_eq (tied_itself pair_cmp_total p)

pub same_pairs : (s t : Pairs) → ((q : Pair) → set.contains s q ≡ set.contains t q) → s ≡ t
same_pairs = same_set pair_cmp_total pair_cmp-IsAntisymmetric

-- whether a pair is one of a file and some numbers
abbrev pub has : ℕ → List ℕ → Pair → Bool
has ino [] q = false
has ino (number ∷ numbers) q = is_pair q (ino, number) || has ino numbers q

one_more : (a b c : Bool) → (b || (a || c)) ≡ ((a || b) || c)
one_more true true c = refl
one_more true false c = refl
one_more false b c = refl

one_less : (a b c : Bool) → ((not a && c) && not b) ≡ (c && not (a || b))
one_less true true true = refl
one_less true true false = refl
one_less true false true = refl
one_less true false false = refl
one_less false true true = refl
one_less false true false = refl
one_less false false true = refl
one_less false false false = refl

all_left : (c : Bool) → c ≡ (c && true)
all_left true = refl
all_left false = refl

module _ (ino : ℕ) where
  pub contains-with : (numbers : List ℕ) (s : Pairs) (q : Pair) → set.contains (with_pairs ino s numbers) q ≡ (has ino numbers q || set.contains s q)
  contains-with [] s q = refl
  contains-with (number ∷ numbers) s q =
      contains-with numbers (set.insert s (ino, number)) q
      ∙ ap (λ b. has ino numbers q || b) (contains-insert pair_cmp_total s (ino, number) q)
      ∙ one_more (is_pair q (ino, number)) (has ino numbers q) (set.contains s q)

  pub contains-without : (numbers : List ℕ) (s : Pairs) (q : Pair) → set.contains (without_pairs ino s numbers) q ≡ (set.contains s q && not (has ino numbers q))
  contains-without [] s q = all_left (set.contains s q)
  contains-without (number ∷ numbers) s q =
      contains-without numbers (set.remove s (ino, number)) q
      ∙ ap (λ b. b && not (has ino numbers q)) (contains-remove pair_cmp_total s (ino, number) q)
      ∙ one_less (is_pair q (ino, number)) (has ino numbers q) (set.contains s q)

  pub has-append : (numbers more : List ℕ) (q : Pair) → has ino (numbers ++ more) q ≡ (has ino numbers q || has ino more q)
  has-append [] more q = refl
  has-append (number ∷ numbers) more q = ap (λ b. is_pair q (ino, number) || b) (has-append numbers more q) ∙ either (is_pair q (ino, number)) (has ino numbers q) (has ino more q)
    where
      either : (a b c : Bool) → (a || (b || c)) ≡ ((a || b) || c)
      either true b c = refl
      either false b c = refl

  -- a number that was there already
  pub with_there : (s : Pairs) (number : ℕ) → set.contains s (ino, number) ≡ true → set.insert s (ino, number) ≡ s
  with_there s number there = same_pairs _ _ (λ q. contains-insert pair_cmp_total s (ino, number) q ∙ by_pair q (is_pair q (ino, number)) refl)
    where
      by_pair : (q : Pair) (b : Bool) → is_pair q (ino, number) ≡ b → (b || set.contains s q) ≡ set.contains s q
      by_pair q false is = refl
      by_pair q true is = sym (ap (set.contains s) (pair_same q (ino, number) is) ∙ there)

  -- a number that wasn't, put and taken out again
  pub undone_more : (s : Pairs) (added : List ℕ) (number : ℕ) → set.contains s (ino, number) ≡ false → without_pairs ino (set.insert s (ino, number)) (added ++ number ∷ []) ≡ without_pairs ino s added
  undone_more s added number free = same_pairs _ _ (λ q.
      contains-without (added ++ number ∷ []) (set.insert s (ino, number)) q
      ∙ ap (λ b. b && not (has ino (added ++ number ∷ []) q)) (contains-insert pair_cmp_total s (ino, number) q)
      ∙ ap (λ b. (is_pair q (ino, number) || set.contains s q) && not b) (has-append added (number ∷ []) q)
      ∙ by_pair q (is_pair q (ino, number)) refl
      ∙ sym (contains-without added s q))
    where
      gone : (a c : Bool) → c ≡ false → (not (a || true)) ≡ (c && not a)
      gone true c none = ap (λ b. b && false) (sym none)
      gone false c none = ap (λ b. b && true) (sym none)

      or_false : (a c : Bool) → (c && not (a || false)) ≡ (c && not a)
      or_false true c = refl
      or_false false c = refl

      by_pair : (q : Pair) (b : Bool) → is_pair q (ino, number) ≡ b → ((b || set.contains s q) && not (has ino added q || (b || false))) ≡ (set.contains s q && not (has ino added q))
      by_pair q false is = or_false (has ino added q) (set.contains s q)
      by_pair q true is = gone (has ino added q) (set.contains s q) (ap (set.contains s) (pair_same q (ino, number) is) ∙ free)

  pub undone_none : (s : Pairs) → without_pairs ino s [] ≡ s
  undone_none s = refl

  -- one number more
  pub with_more : (s : Pairs) (numbers : List ℕ) (number : ℕ) → with_pairs ino s (numbers ++ number ∷ []) ≡ set.insert (with_pairs ino s numbers) (ino, number)
  with_more s [] number = refl
  with_more s (first ∷ numbers) number = with_more (set.insert s (ino, first)) numbers number

  -- where a file has a least number it is there, and where it has none none is
  found_there : (xs : List Pair) (n : ℕ) → second_of (find (λ (pair : Pair). pair.0 == ino) xs) ≡ Some n → list_any (is_pair (ino, n)) xs ≡ true
  found_there [] n h = absurd (cc)
  found_there (x ∷ xs) n h = by_test (found_there xs n) (x.0 == ino) refl h
    where
      or_true : (a : Bool) → (a || true) ≡ true
      or_true true = refl
      or_true false = refl

      by_test : (second_of (find (λ (pair : Pair). pair.0 == ino) xs) ≡ Some n → list_any (is_pair (ino, n)) xs ≡ true) → (b : Bool) → (x.0 == ino) ≡ b → second_of (cond b (Some x) (find (λ (pair : Pair). pair.0 == ino) xs)) ≡ Some n → (is_pair (ino, n) x || list_any (is_pair (ino, n)) xs) ≡ true
      by_test rest false is h = ap (λ b. is_pair (ino, n) x || b) (rest h) ∙ or_true (is_pair (ino, n) x)
      by_test rest true is h =
          let number : x.1 ≡ n = cc in
          let at : x.0 ≡ ino = eqb-true x.0 ino is in
          let same : x ≡ (ino, n) = (λ i. (at i, number i)) in
          ap (λ b. b || list_any (is_pair (ino, n)) xs) (ap (is_pair (ino, n)) same ∙ pair_itself (ino, n))

  pub least_there : (s : Pairs) (n : ℕ) → least_of s ino ≡ Some n → set.contains s (ino, n) ≡ true
  least_there s n h = contains-rising pair_cmp_total s (ino, n) ∙ found_there (rising s) n h

  missing : (xs : List Pair) → second_of (find (λ (pair : Pair). pair.0 == ino) xs) ≡ None → (q : Pair) → list_any (is_pair q) xs ≡ true → (q.0 == ino) ≡ false
  missing [] h q there = absurd (true≢false (sym there))
  missing (x ∷ xs) h q there = by_test (missing xs) (x.0 == ino) refl h (is_pair q x) refl there
    where
      by_test : (second_of (find (λ (pair : Pair). pair.0 == ino) xs) ≡ None → (q : Pair) → list_any (is_pair q) xs ≡ true → (q.0 == ino) ≡ false) → (b : Bool) → (x.0 == ino) ≡ b → second_of (cond b (Some x) (find (λ (pair : Pair). pair.0 == ino) xs)) ≡ None → (p : Bool) → is_pair q x ≡ p → (p || list_any (is_pair q) xs) ≡ true → (q.0 == ino) ≡ false
      by_test rest true is h p tie there = absurd (cc)
      by_test rest false is h true tie there = ap (λ (one : Pair). one.0 == ino) (pair_same q x tie) ∙ is
      by_test rest false is h false tie there = rest h q there

  alike : (q x : Pair) → pair_cmp q x ≡ Equal → not (x.0 == ino) ≡ not (q.0 == ino)
  alike q x tie = ap (λ (one : Pair). not (one.0 == ino)) (sym (pair_cmp-IsAntisymmetric q x tie))

  pub none_left : (s : Pairs) → least_of s ino ≡ None → without_ino ino s ≡ s
  none_left s h = same_pairs _ _ (λ q. contains-retain s (λ (pair : Pair). not (pair.0 == ino)) q (λ x tie. alike q x tie) ∙ by_there q (set.contains s q) refl)
    where
      by_there : (q : Pair) (b : Bool) → set.contains s q ≡ b → (b && not (q.0 == ino)) ≡ b
      by_there q false is = refl
      by_there q true is = ap not (missing (rising s) h q (sym (contains-rising pair_cmp_total s q) ∙ is))

  pub one_out : (s : Pairs) (n : ℕ) → without_ino ino (set.remove s (ino, n)) ≡ without_ino ino s
  one_out s n = same_pairs _ _ (λ q.
      contains-retain (set.remove s (ino, n)) (λ (pair : Pair). not (pair.0 == ino)) q (λ x tie. alike q x tie)
      ∙ ap (λ b. b && not (q.0 == ino)) (contains-remove pair_cmp_total s (ino, n) q)
      ∙ by_pair q (is_pair q (ino, n)) refl
      ∙ sym (contains-retain s (λ (pair : Pair). not (pair.0 == ino)) q (λ x tie. alike q x tie)))
    where
      none : (c : Bool) → false ≡ (c && false)
      none true = refl
      none false = refl

      by_pair : (q : Pair) (b : Bool) → is_pair q (ino, n) ≡ b → ((not b && set.contains s q) && not (q.0 == ino)) ≡ (set.contains s q && not (q.0 == ino))
      by_pair q false is = refl
      by_pair q true is =
          let own : (q.0 == ino) ≡ true = eq-eqb q.0 ino (ap (λ (p : Pair). p.0) (pair_same q (ino, n) is)) in
          none (set.contains s q) ∙ ap (λ b. set.contains s q && not b) (sym own)

  pub fewer : (s : Pairs) (n : ℕ) → set.contains s (ino, n) ≡ true → set.len (set.remove s (ino, n)) < set.len s
  fewer s n there =
      let less : set.len (set.remove s (ino, n)) ≡ set.len s - 1 = set.len-remove pair_cmp_total s (ino, n) ∙ ap (λ b. cond b (set.len s - 1) (set.len s)) there in
      let some : set.len s ≢ 0 = λ none. true≢false (sym there ∙ ap (λ t. set.contains t (ino, n)) (set.empty_of_len s none) ∙ set.contains-empty pair_cmp (ino, n)) in
      omega (arith, less, some)
