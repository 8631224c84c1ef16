-- Numbers of a file put into a set of pairs before others are taken out, or after it.
use Rattle.std.proofs.Common.{◌≡◌, ℕ, Bool, true, false, true≢false, cond, not, ◌&&◌, ◌||◌, List, [], ◌∷◌, ◌++◌, refl, sym, ap, ◌∙◌}
use Rattle.std.specs.List.{filter}
use Rattle.std.specs.FinSet as set
use Rattle.f2_model.specs.State.{Pairs, with_pairs, without_pairs}
use Rattle.f2_files.proofs.PairOrder.{Pair}
use Rattle.f2_files.proofs.PairSets.{is_pair, pair_same, same_pairs, has, contains-with, contains-without, has-append}

module _ (ino : ℕ) where
  pub has-filter : (test : ℕ → Bool) (numbers : List ℕ) (q : Pair) → has ino (filter test numbers) q ≡ (has ino numbers q && test q.1)
  has-filter test [] q = refl
  has-filter test (number ∷ numbers) q = by_test (has-filter test numbers q) (test number) refl (is_pair q (ino, number)) refl
    where
      by_test : has ino (filter test numbers) q ≡ (has ino numbers q && test q.1) → (b : Bool) → test number ≡ b → (p : Bool) → is_pair q (ino, number) ≡ p → has ino (cond b (number ∷ filter test numbers) (filter test numbers)) q ≡ ((p || has ino numbers q) && test q.1)
      by_test rest true is true tie =
          ap (λ b. b || has ino (filter test numbers) q) tie ∙ sym (ap test (ap (λ (one : Pair). one.1) (pair_same q (ino, number) tie)) ∙ is)
      by_test rest true is false tie = ap (λ b. b || has ino (filter test numbers) q) tie ∙ rest
      by_test rest false is true tie =
          let fails : test q.1 ≡ false = ap test (ap (λ (one : Pair). one.1) (pair_same q (ino, number) tie)) ∙ is in
          rest ∙ ap (λ b. has ino numbers q && b) fails ∙ none (has ino numbers q) ∙ sym fails
        where
          none : (a : Bool) → (a && false) ≡ false
          none true = refl
          none false = refl
      by_test rest false is false tie = rest

  -- what is put in isn't among what is taken out
  pub apart : (s : Pairs) (lost more : List ℕ) → ((q : Pair) → has ino more q ≡ true → has ino lost q ≡ false) → without_pairs ino (with_pairs ino s more) lost ≡ with_pairs ino (without_pairs ino s lost) more
  apart s lost more differ = same_pairs _ _ (λ q.
      contains-without ino lost (with_pairs ino s more) q
      ∙ ap (λ b. b && not (has ino lost q)) (contains-with ino more s q)
      ∙ by_more (has ino more q) (has ino lost q) (set.contains s q) (differ q)
      ∙ sym (contains-with ino more (without_pairs ino s lost) q ∙ ap (λ b. has ino more q || b) (contains-without ino lost s q)))
    where
      by_more : (m l c : Bool) → (m ≡ true → l ≡ false) → ((m || c) && not l) ≡ (m || (c && not l))
      by_more false l c out = refl
      by_more true false c out = refl
      by_more true true c out = absurd (true≢false (out refl))

  -- of numbers that are lost those that pass a test come back, with more that pass it: the others alone may be taken out, once all these are in
  pub back : (s : Pairs) (lost more : List ℕ) (test : ℕ → Bool) → ((q : Pair) → has ino more q ≡ true → test q.1 ≡ true)
      → without_pairs ino (with_pairs ino s (filter test lost ++ more)) (filter (λ n. not (test n)) lost) ≡ with_pairs ino (without_pairs ino s lost) (filter test lost ++ more)
  back s lost more test passes = same_pairs _ _ (λ q.
      contains-without ino (filter (λ n. not (test n)) lost) (with_pairs ino s (filter test lost ++ more)) q
      ∙ ap (λ b. b && not (has ino (filter (λ n. not (test n)) lost) q)) (contains-with ino (filter test lost ++ more) s q ∙ ap (λ b. b || set.contains s q) (in_more q))
      ∙ ap (λ b. (((has ino lost q && test q.1) || has ino more q) || set.contains s q) && not b) (has-filter (λ n. not (test n)) lost q)
      ∙ by_test (has ino lost q) (test q.1) (has ino more q) (set.contains s q) (passes q)
      ∙ sym (contains-with ino (filter test lost ++ more) (without_pairs ino s lost) q ∙ (λ i. in_more q i || contains-without ino lost s q i)))
    where
      in_more : (q : Pair) → has ino (filter test lost ++ more) q ≡ ((has ino lost q && test q.1) || has ino more q)
      in_more q = has-append ino (filter test lost) more q ∙ ap (λ b. b || has ino more q) (has-filter test lost q)

      by_test : (l p m c : Bool) → (m ≡ true → p ≡ true) → ((((l && p) || m) || c) && not (l && not p)) ≡ (((l && p) || m) || (c && not l))
      by_test true true m c h = refl
      by_test true false true c h = absurd (true≢false (sym (h refl)))
      by_test true false false true h = refl
      by_test true false false false h = refl
      by_test false p true c h = refl
      by_test false p false true h = refl
      by_test false p false false h = refl
