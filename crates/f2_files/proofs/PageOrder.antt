-- Pages in their order: those from a number on, and whether one is there between two.
use Rattle.std.proofs.Common.{◌≡◌, ℕ, ◌≤◌, Bool, true, false, cond, not, ◌&&◌, ◌||◌, List, [], ◌∷◌, refl, sym, ap, ◌∙◌, arith}
use Rattle.std.specs.Prelude.{Option, Some, None, MatchOption, is_some, nat_lt, map as list_map}
use Rattle.std.specs.List.{filter, list_any}
use Rattle.std.specs.Map.{keys_of}
use Rattle.std.specs.Ordering.{nat_cmp, is_le}
use Rattle.std.proofs.lemmas.Bool.Decides.{nat_tests}

none_any : {X : Type 0} (p : X → Bool) (xs : List X) → filter p xs ≡ [] → list_any p xs ≡ false
none_any p [] h = refl
none_any p (x ∷ xs) h = by_test (none_any p xs) (p x) h
  where
    by_test : (filter p xs ≡ [] → list_any p xs ≡ false) → (b : Bool) → cond b (x ∷ filter p xs) (filter p xs) ≡ [] → (b || list_any p xs) ≡ false
    by_test rest true h = absurd (cc)
    by_test rest false h = rest h

some_any : {X : Type 0} (p : X → Bool) (xs : List X) (y : X) (ys : List X) → filter p xs ≡ y ∷ ys → list_any p xs ≡ true
some_any p [] y ys h = absurd (cc)
some_any p (x ∷ xs) y ys h = by_test (some_any p xs y ys) (p x) h
  where
    by_test : (filter p xs ≡ y ∷ ys → list_any p xs ≡ true) → (b : Bool) → cond b (x ∷ filter p xs) (filter p xs) ≡ y ∷ ys → (b || list_any p xs) ≡ true
    by_test rest true h = refl
    by_test rest false h = rest h

-- a first item is there exactly where one passes
pub next_any : {A X : Type 0} (shows : A → X) (r : Option A) (s t : List X) → MatchOption r ((s ≡ []) × (t ≡ [])) (λ x. s ≡ shows x ∷ t) → (p : X → Bool) (xs : List X) → s ≡ filter p xs → is_some r ≡ list_any p xs
next_any shows None s t h p xs is = sym (none_any p xs (sym is ∙ h.0))
next_any shows (Some x) s t h p xs is = sym (some_any p xs (shows x) t (sym is ∙ h))

pub any_keys : {X : Type 0} (p : ℕ → Bool) (es : List (ℕ × X)) → list_any (λ (e : ℕ × X). p e.0) es ≡ list_any p (keys_of es)
any_keys p [] = refl
any_keys p (e ∷ es) = ap (λ b. p e.0 || b) (any_keys p es)

pub filter_keys : {X : Type 0} (p : ℕ → Bool) (es : List (ℕ × X)) → list_map (λ (e : ℕ × X). e.0) (filter (λ (e : ℕ × X). p e.0) es) ≡ filter p (keys_of es)
filter_keys p [] = refl
filter_keys {X = X} p (e ∷ es) = by_test (filter_keys p es) (p e.0)
  where
    by_test : list_map (λ (e : ℕ × X). e.0) (filter (λ (e : ℕ × X). p e.0) es) ≡ filter p (keys_of es) → (b : Bool) → list_map (λ (e : ℕ × X). e.0) (cond b (e ∷ filter (λ (e : ℕ × X). p e.0) es) (filter (λ (e : ℕ × X). p e.0) es)) ≡ cond b (e.0 ∷ filter p (keys_of es)) (filter p (keys_of es))
    by_test rest true = ap (λ ks. e.0 ∷ ks) rest
    by_test rest false = rest

-- what the bounds of a range test
pub from_bound : (from : ℕ) → ◌≡◌ {A = ℕ → Bool} (λ q. is_le (nat_cmp from q) && true) (λ q. not (nat_lt q from))
from_bound from i = λ q. one q i
  where
    one : (q : ℕ) → (is_le (nat_cmp from q) && true) ≡ not (nat_lt q from)
    one q = grind (arith, nat_tests)

pub both_bounds : (from to : ℕ) → ◌≡◌ {A = ℕ → Bool} (λ q. is_le (nat_cmp from q) && not (is_le (nat_cmp to q))) (λ q. not (nat_lt q from) && nat_lt q to)
both_bounds from to i = λ q. one q i
  where
    one : (q : ℕ) → (is_le (nat_cmp from q) && not (is_le (nat_cmp to q))) ≡ (not (nat_lt q from) && nat_lt q to)
    one q = grind (arith, nat_tests)

-- no number is from one on and below another that isn't past it
pub none_between : (from to : ℕ) → to ≤ from → (xs : List ℕ) → list_any (λ q. not (nat_lt q from) && nat_lt q to) xs ≡ false
none_between from to past [] = refl
none_between from to past (x ∷ xs) = (λ i. one i || none_between from to past xs i)
  where
    one : (not (nat_lt x from) && nat_lt x to) ≡ false
    one = grind (arith, nat_tests)
