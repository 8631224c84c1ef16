-- Lists that are joined of pieces: what they contain, and in which order.
use Rattle.std.proofs.Common.{◌≡◌, ◌⊎◌, inl, inr, ℕ, zero, suc, ◌<◌, Bool, true, false, cond, List, [], ◌∷◌, ◌++◌, length, get_or, map, refl, sym, ap, ◌∙◌, subst, arith}
use Rattle.std.specs.Prelude.{All, Contains}
use Rattle.std.specs.List.{AllPairs, filter, flat_map, range_with_len}
use Rattle.std.proofs.lemmas.List.{length-map, get_or-map, map-append, append_assoc}
use Rattle.std.proofs.lemmas.List.Elements.{All-append, All-map, Contains-get_or, Contains-append_left, Contains-append_right, Contains-append_cases, All-contains}
use Rattle.std.proofs.lemmas.List.FromFn.{length-range_with_len, get_or-range_with_len}
use Rattle.std.proofs.lemmas.List.Kept.{AllPairs-cons}

pub Contains-first : {X : Type 0} (x : X) (xs : List X) → Contains (x ∷ xs) x
Contains-first x xs = (0, omega arith, refl)

pub Contains-later : {X : Type 0} (x : X) (xs : List X) (y : X) → Contains xs y → Contains (x ∷ xs) y
Contains-later x xs y has = (suc has.0, omega (arith, has.1), has.2)

pub Contains-cons_cases : {X : Type 0} (x : X) (xs : List X) (y : X) → Contains (x ∷ xs) y → (x ≡ y) ⊎ Contains xs y
Contains-cons_cases x xs y has = cases has.0 has.1 has.2
  where
    cases : (k : ℕ) → k < length (x ∷ xs) → get_or (x ∷ xs) k y ≡ y → (x ≡ y) ⊎ Contains xs y
    cases zero small is = inl is
    cases (suc k) small is = inr (k, omega (arith, small), is)

-- a list that is taken element by element: the next one, and what was taken with it
pub next_of : {X : Type 0} (P : X → Type 0) (front : List X) (x : X) (rest whole : List X) → front ++ x ∷ rest ≡ whole → All P whole → P x
next_of P front x rest whole split all = All-contains P whole x all (subst (λ xs. Contains xs x) split (Contains-append_right front (x ∷ rest) x (Contains-first x rest)))

pub one_taken : {X : Type 0} (front : List X) (x : X) (rest left whole : List X) → left ≡ x ∷ rest → front ++ left ≡ whole → front ++ x ∷ rest ≡ whole
one_taken front x rest left whole next split = ap (λ xs. front ++ xs) (sym next) ∙ split

pub pushed : {X : Type 0} (old front : List X) (x : X) (before now : List X) → now ≡ before ++ x ∷ [] → before ≡ old ++ front → now ≡ old ++ (front ++ x ∷ [])
pushed old front x before now more same = more ∙ ap (λ xs. xs ++ x ∷ []) same ∙ append_assoc old front (x ∷ [])

module _ {X Y : Type 0} (f : X → Y) where
  pub Contains-map : (xs : List X) (x : X) → Contains xs x → Contains (map f xs) (f x)
  Contains-map xs x has = (has.0, subst (λ n. has.0 < n) (sym (length-map xs f)) has.1, get_or-map f xs has.0 x (f x) has.1 ∙ ap f has.2)

  pub Contains-from_map : (xs : List X) (y : Y) → Contains (map f xs) y → (x : X) × (Contains xs x × (f x ≡ y))
  Contains-from_map [] y has = absurd (omega (arith, has.1))
  Contains-from_map (x ∷ xs) y has = by (Contains-cons_cases (f x) (map f xs) y has) (λ rest. Contains-from_map xs y rest)
    where
      by : (f x ≡ y) ⊎ Contains (map f xs) y → (Contains (map f xs) y → (z : X) × (Contains xs z × (f z ≡ y))) → (z : X) × (Contains (x ∷ xs) z × (f z ≡ y))
      by (inl e) _ = (x, (Contains-first x xs, e))
      by (inr rest) behind =
          let found = behind rest in
          (found.0, (Contains-later x xs found.0 found.1.0, found.1.1))

  pub map-map : {Z : Type 0} (g : Y → Z) (xs : List X) → map g (map f xs) ≡ map (λ x. g (f x)) xs
  map-map g [] = refl
  map-map g (x ∷ xs) = ap (λ zs. g (f x) ∷ zs) (map-map g xs)

module _ {X Y : Type 0} (f : X → List Y) where
  pub Contains-flat_map : (xs : List X) (x : X) (y : Y) → Contains xs x → Contains (f x) y → Contains (flat_map f xs) y
  Contains-flat_map [] x y has piece = absurd (omega (arith, has.1))
  Contains-flat_map (z ∷ xs) x y has piece = by (Contains-cons_cases z xs x has) (λ rest. Contains-flat_map xs x y rest piece)
    where
      by : (z ≡ x) ⊎ Contains xs x → (Contains xs x → Contains (flat_map f xs) y) → Contains (f z ++ flat_map f xs) y
      by (inl e) _ = Contains-append_left (f z) (flat_map f xs) y (subst (λ w. Contains (f w) y) (sym e) piece)
      by (inr rest) behind = Contains-append_right (f z) (flat_map f xs) y (behind rest)

  pub Contains-from_flat_map : (xs : List X) (y : Y) → Contains (flat_map f xs) y → (x : X) × (Contains xs x × Contains (f x) y)
  Contains-from_flat_map [] y has = absurd (omega (arith, has.1))
  Contains-from_flat_map (z ∷ xs) y has = by (Contains-append_cases (f z) (flat_map f xs) y has) (λ rest. Contains-from_flat_map xs y rest)
    where
      by : Contains (f z) y ⊎ Contains (flat_map f xs) y → (Contains (flat_map f xs) y → (x : X) × (Contains xs x × Contains (f x) y)) → (x : X) × (Contains (z ∷ xs) x × Contains (f x) y)
      by (inl piece) _ = (z, (Contains-first z xs, piece))
      by (inr rest) behind =
          let found = behind rest in
          (found.0, (Contains-later z xs found.0 found.1.0, found.1.1))

  pub map-flat_map : {Z : Type 0} (g : Y → Z) (xs : List X) → map g (flat_map f xs) ≡ flat_map (λ x. map g (f x)) xs
  map-flat_map g [] = refl
  map-flat_map g (x ∷ xs) = map-append g (f x) (flat_map f xs) ∙ ap (λ zs. map g (f x) ++ zs) (map-flat_map g xs)

-- what holds of each element of a list and each later one
module _ {X : Type 0} (R : X → X → Type 0) where
  pub AllPairs-head : (x : X) (xs : List X) → AllPairs R (x ∷ xs) → All (R x) xs
  AllPairs-head x xs pairs k d small = pairs 0 (suc k) d (omega arith) (omega (arith, small))

  pub AllPairs-tail : (x : X) (xs : List X) → AllPairs R (x ∷ xs) → AllPairs R xs
  AllPairs-tail x xs pairs i j d lt small = pairs (suc i) (suc j) d (omega (arith, lt)) (omega (arith, small))

  pub AllPairs-nil : AllPairs R []
  AllPairs-nil i j d lt small = absurd (omega (arith, small))

  pub AllPairs-append : (xs ys : List X) → AllPairs R xs → AllPairs R ys → ((x y : X) → Contains xs x → Contains ys y → R x y) → AllPairs R (xs ++ ys)
  AllPairs-append [] ys first second across = second
  AllPairs-append (x ∷ xs) ys first second across =
      AllPairs-cons R x (xs ++ ys) (All-append (R x) xs ys (AllPairs-head x xs first) (λ k d small. across x (get_or ys k d) (Contains-first x xs) (Contains-get_or ys k d small)))
      (AllPairs-append xs ys (AllPairs-tail x xs first) second (λ z y has. across z y (Contains-later x xs z has)))

pub AllPairs-map : {X Y : Type 0} (R : Y → Y → Type 0) (f : X → Y) (xs : List X) → AllPairs (λ a b. R (f a) (f b)) xs → AllPairs R (map f xs)
AllPairs-map R f [] pairs = AllPairs-nil R
AllPairs-map R f (x ∷ xs) pairs =
    AllPairs-cons R (f x) (map f xs) (All-map (R (f x)) f xs (AllPairs-head (λ a b. R (f a) (f b)) x xs pairs)) (AllPairs-map R f xs (AllPairs-tail (λ a b. R (f a) (f b)) x xs pairs))

-- of pieces, where it holds within each and from each to each later one
module _ {X Y : Type 0} (S : X → X → Type 0) (R : Y → Y → Type 0) (f : X → List Y) (within : (x : X) → AllPairs R (f x)) (across : (x z : X) (a b : Y) → S x z → Contains (f x) a → Contains (f z) b → R a b) where
  pub AllPairs-flat_map : (xs : List X) → AllPairs S xs → AllPairs R (flat_map f xs)
  AllPairs-flat_map [] order = AllPairs-nil R
  AllPairs-flat_map (x ∷ xs) order = AllPairs-append R (f x) (flat_map f xs) (within x) (AllPairs-flat_map xs (AllPairs-tail S x xs order)) later
    where
      later : (a b : Y) → Contains (f x) a → Contains (flat_map f xs) b → R a b
      later a b in_first in_rest =
          let found = Contains-from_flat_map f xs b in_rest in
          across x found.0 a b (All-contains (S x) xs found.0 (AllPairs-head S x xs order) found.1.0) in_first found.1.1

pub rising_range : (a n : ℕ) → AllPairs ◌<◌ (range_with_len a n)
rising_range a n i j d lt small =
    let in_range : j < n = subst (λ m. j < m) (length-range_with_len a n) small in
    let first = get_or-range_with_len a n i d (omega (arith, lt, in_range)) in
    let second = get_or-range_with_len a n j d in_range in
    omega (arith, first, second, lt)

pub within_range : (n : ℕ) → All (λ x. x < n) (range_with_len 0 n)
within_range n k d small =
    let in_range : k < n = subst (λ m. k < m) (length-range_with_len 0 n) small in
    omega (arith, get_or-range_with_len 0 n k d in_range, in_range)

pub Contains-range : (n x : ℕ) → x < n → Contains (range_with_len 0 n) x
Contains-range n x small = (x, subst (λ m. x < m) (sym (length-range_with_len 0 n)) small, omega (arith, get_or-range_with_len 0 n x x small))

-- an element that passes is kept
pub Contains-filter : {X : Type 0} (p : X → Bool) (xs : List X) (x : X) → Contains xs x → p x ≡ true → Contains (filter p xs) x
Contains-filter p [] x has passes = absurd (omega (arith, has.1))
Contains-filter p (z ∷ xs) x has passes = by (Contains-cons_cases z xs x has) (λ rest. Contains-filter p xs x rest passes)
  where
    stays : (b : Bool) → Contains (filter p xs) x → Contains (cond b (z ∷ filter p xs) (filter p xs)) x
    stays true rest = Contains-later z (filter p xs) x rest
    stays false rest = rest

    by : (z ≡ x) ⊎ Contains xs x → (Contains xs x → Contains (filter p xs) x) → Contains (filter p (z ∷ xs)) x
    by (inl e) _ = subst (λ b. Contains (cond b (z ∷ filter p xs) (filter p xs)) x) (sym (ap p e ∙ passes)) (subst (λ w. Contains (w ∷ filter p xs) x) (sym e) (Contains-first x (filter p xs)))
    by (inr rest) behind = stays (p z) (behind rest)
