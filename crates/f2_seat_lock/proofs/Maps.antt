-- Which parts a map has after a change.
use Rattle.std.proofs.Common.{◌≡◌, ◌≢◌, ◌⊎◌, ℕ, zero, suc, ◌+◌, ◌<◌, List, [], ◌∷◌, map, length, get_or, set, drop, replicate, true, ◌||◌, is_some, inl, inr, ⊎_elim, refl, sym, ap, ◌∙◌, arith, length-set}
use Rattle.std.specs.Prelude.{Option, Some, None, unwrap_or, All, IsSome}
use Rattle.std.specs.List.{range_with_len}
use Rattle.std.specs.Option.{option_or}
use Rattle.std.proofs.lemmas.List.{length-replicate}
use Rattle.std.proofs.lemmas.List.Elements.{All-get_or, All-nil, All-cons}
use Rattle.f2_seat_lock.specs.Map.{part_of, with_part, without, only, together, all_parts, places, either_place}

module _ {P : Type 0} where
  pub some_same : (p q : P) → Some p ≡ Some q → p ≡ q
  some_same p q e = ap (λ (o : Option P). unwrap_or o p) e

  pub none_some : (p : P) → None ≡ Some p → ⊥
  none_some p e = cc

  pub in_range : (parts : List (Option P)) (k : ℕ) (p : P) → part_of parts k ≡ Some p → k < length parts
  in_range [] k p e = absurd (none_some p e)
  in_range (x ∷ xs) zero p e = omega arith
  in_range (x ∷ xs) (suc k) p e = let h = in_range xs k p e in omega arith

  pub set_cases : (parts : List (Option P)) (s : ℕ) (x : Option P) (k : ℕ) (p : P) → part_of (set parts s x) k ≡ Some p → ((k ≡ s) × (x ≡ Some p)) ⊎ ((k ≢ s) × (part_of parts k ≡ Some p))
  set_cases [] s x k p e = absurd (none_some p e)
  set_cases (y ∷ ys) zero x zero p e = inl (refl, e)
  set_cases (y ∷ ys) zero x (suc k) p e = inr ((λ h. omega arith), e)
  set_cases (y ∷ ys) (suc s) x zero p e = inr ((λ h. omega arith), e)
  set_cases (y ∷ ys) (suc s) x (suc k) p e = ⊎_elim (λ t. inl (ap suc t.0, t.1)) (λ t. let n = t.0 in inr ((λ h. n (omega arith)), t.1)) (set_cases ys s x k p e)

  pub set_here : (parts : List (Option P)) (s : ℕ) (x : Option P) → s < length parts → part_of (set parts s x) s ≡ x
  set_here [] s x h = absurd (omega arith)
  set_here (y ∷ ys) zero x h = refl
  set_here (y ∷ ys) (suc s) x h = set_here ys s x (omega arith)

  pub set_else : (parts : List (Option P)) (s : ℕ) (x : Option P) (k : ℕ) → k ≢ s → part_of (set parts s x) k ≡ part_of parts k
  set_else [] s x k n = refl
  set_else (y ∷ ys) zero x zero n = absurd (n refl)
  set_else (y ∷ ys) zero x (suc k) n = refl
  set_else (y ∷ ys) (suc s) x zero n = refl
  set_else (y ∷ ys) (suc s) x (suc k) n = set_else ys s x k (λ e. n (ap suc e))

  nothing_there : (n k : ℕ) → part_of (replicate n (let x : Option P = None in x)) k ≡ None
  nothing_there zero k = refl
  nothing_there (suc n) zero = refl
  nothing_there (suc n) (suc k) = nothing_there n k

  pub only_cases : (parts : List (Option P)) (s k : ℕ) (p : P) → part_of (only parts s) k ≡ Some p → (k ≡ s) × (part_of parts k ≡ Some p)
  only_cases parts s k p e =
      ⊎_elim
      (λ (t : (k ≡ s) × (part_of parts s ≡ Some p)). (t.0, ap (part_of parts) t.0 ∙ t.1))
      (λ (t : (k ≢ s) × (part_of (replicate (length parts) None) k ≡ Some p)). absurd (none_some p (sym (nothing_there (length parts) k) ∙ t.1)))
      (set_cases (replicate (length parts) None) s (part_of parts s) k p e)

  pub length-only : (parts : List (Option P)) (s : ℕ) → length (only parts s) ≡ length parts
  length-only parts s = length-set (replicate (length parts) None) s (part_of parts s) ∙ length-replicate (length parts) None

  pub without_cases : (parts : List (Option P)) (s k : ℕ) (p : P) → part_of (without parts s) k ≡ Some p → (k ≢ s) × (part_of parts k ≡ Some p)
  without_cases parts s k p e =
      ⊎_elim (λ (t : (k ≡ s) × (None ≡ Some p)). absurd (none_some p t.1)) (λ (t : (k ≢ s) × (part_of parts k ≡ Some p)). t) (set_cases parts s None k p e)

  or_cases : (x y : Option P) (p : P) → option_or x y ≡ Some p → (x ≡ Some p) ⊎ (y ≡ Some p)
  or_cases None y p e = inr e
  or_cases (Some x) y p e = inl e

  pub together_cases : (xs ys : List (Option P)) (k : ℕ) (p : P) → part_of (together xs ys) k ≡ Some p → (part_of xs k ≡ Some p) ⊎ (part_of ys k ≡ Some p)
  together_cases [] ys k p e = inr e
  together_cases (x ∷ xs) [] k p e = inl e
  together_cases (x ∷ xs) (y ∷ ys) zero p e = or_cases x y p e
  together_cases (x ∷ xs) (y ∷ ys) (suc k) p e = together_cases xs ys k p e

  pub together_left : (xs ys : List (Option P)) (k : ℕ) (p : P) → part_of xs k ≡ Some p → part_of (together xs ys) k ≡ Some p
  together_left [] ys k p e = absurd (none_some p e)
  together_left (x ∷ xs) [] k p e = e
  together_left (x ∷ xs) (y ∷ ys) zero p e = ap (λ (o : Option P). option_or o y) e
  together_left (x ∷ xs) (y ∷ ys) (suc k) p e = together_left xs ys k p e

  pub length-together : (xs ys : List (Option P)) → length xs ≡ length ys → length (together xs ys) ≡ length xs
  length-together [] ys e = sym e
  length-together (x ∷ xs) [] e = refl
  length-together (x ∷ xs) (y ∷ ys) e = ap suc (length-together xs ys (omega arith))

  parts_from : (part : ℕ → P) (a n k : ℕ) → k < n → part_of (map (λ seat. Some (part seat)) (range_with_len a n)) k ≡ Some (part (a + k))
  parts_from part a zero k h = absurd (omega arith)
  parts_from part a (suc n) zero h = ap (λ j. Some (part j)) (omega arith)
  parts_from part a (suc n) (suc k) h = parts_from part (a + 1) n k (omega arith) ∙ ap (λ j. Some (part j)) (omega arith)

  length_from : (part : ℕ → P) (a n : ℕ) → length (map (λ seat. Some (part seat)) (range_with_len a n)) ≡ n
  length_from part a zero = refl
  length_from part a (suc n) = ap suc (length_from part (a + 1) n)

  pub all_parts_there : (part : ℕ → P) (n k : ℕ) → k < n → part_of (all_parts part n) k ≡ Some (part k)
  all_parts_there part n k h = parts_from part 0 n k h ∙ ap (λ j. Some (part j)) (omega arith)

  pub length-all_parts : (part : ℕ → P) (n : ℕ) → length (all_parts part n) ≡ n
  length-all_parts part n = length_from part 0 n

  pub all_parts_cases : (part : ℕ → P) (n k : ℕ) (p : P) → part_of (all_parts part n) k ≡ Some p → part k ≡ p
  all_parts_cases part n k p e = let inside = in_range (all_parts part n) k p e in let long = length-all_parts part n in
      some_same (part k) p (sym (all_parts_there part n k (omega arith)) ∙ e)

  is_there : (o : Option P) → IsSome o → (p : P) × (o ≡ Some p)
  is_there None h = absurd (cc)
  is_there (Some p) h = (p, refl)

  pub whole_there : (parts : List (Option P)) (k : ℕ) → All IsSome parts → k < length parts → (p : P) × (part_of parts k ≡ Some p)
  whole_there parts k whole h = is_there (part_of parts k) (All-get_or IsSome parts k None h whole)

  whole_from : (part : ℕ → P) (a : ℕ) (parts : List (Option P)) → ((k : ℕ) → k < length parts → part_of parts k ≡ Some (part (a + k))) → parts ≡ map (λ seat. Some (part seat)) (range_with_len a (length parts))
  whole_from part a [] h = refl
  whole_from part a (x ∷ xs) h =
      let first : x ≡ Some (part a) = h 0 (omega arith) ∙ ap (λ j. Some (part j)) (omega arith) in
      let others = whole_from part (a + 1) xs (λ k l. h (suc k) (omega arith) ∙ ap (λ j. Some (part j)) (omega arith)) in
      λ i. first i ∷ others i

  -- a map that has every part of a value is the map of all its parts
  pub whole_is_all : (part : ℕ → P) (parts : List (Option P)) → All IsSome parts → ((k : ℕ) (p : P) → part_of parts k ≡ Some p → part k ≡ p) → parts ≡ all_parts part (length parts)
  whole_is_all part parts whole fits =
      whole_from part 0 parts (λ k l. let there = whole_there parts k whole l in there.1 ∙ ap (λ q. Some q) (sym (fits k there.0 there.1)) ∙ ap (λ j. Some (part j)) (omega arith))

  pub places-with_part : (parts : List (Option P)) (seat : ℕ) (p q : P) → part_of parts seat ≡ Some p → places (with_part parts seat q) ≡ places parts
  places-with_part [] seat p q e = refl
  places-with_part (x ∷ xs) zero p q e = ap (λ o. is_some o ∷ places xs) (sym e)
  places-with_part (x ∷ xs) (suc seat) p q e = ap (λ l. is_some x ∷ l) (places-with_part xs seat p q e)

  some_or : (x y : Option P) → is_some (option_or x y) ≡ (is_some x || is_some y)
  some_or None y = refl
  some_or (Some x) y = refl

  pub places-together : (xs ys : List (Option P)) → places (together xs ys) ≡ either_place (places xs) (places ys)
  places-together [] ys = refl
  places-together (x ∷ xs) [] = refl
  places-together (x ∷ xs) (y ∷ ys) = λ i. some_or x y i ∷ places-together xs ys i

  -- a map with a part at each place is whole
  pub whole_of_places : (parts : List (Option P)) (n : ℕ) → places parts ≡ replicate n true → All IsSome parts
  whole_of_places [] n e = All-nil IsSome
  whole_of_places (x ∷ xs) zero e = absurd (cc)
  whole_of_places (x ∷ xs) (suc n) e = All-cons IsSome x xs (ap (λ l. get_or l 0 true) e) (whole_of_places xs n (ap (drop 1) e))
