-- Lists of numbers that differ.
use Rattle.std.proofs.Common.{◌≡◌, ◌≢◌, ℕ, zero, suc, ◌<◌, ◌≤◌, List, [], ◌∷◌, ◌++◌, map as map_list, length, take, get_or, sym, subst, arith, All}
use Rattle.std.specs.List.{AllByRecursion}
use Rattle.std.proofs.lemmas.List.Elements.{All-from_recursion, recursion_from_All}
use Rattle.f2_image.specs.Reached.{AllDiffer}

pub each-push : {X : Type 0} (P : X → Type 0) (xs : List X) (y : X) → AllByRecursion P xs → P y → AllByRecursion P (xs ++ y ∷ [])
each-push P [] y a p = (p, tt)
each-push P (x ∷ xs) y a p = (a.0, each-push P xs y a.1 p)

pub each-append : {X : Type 0} (P : X → Type 0) (xs ys : List X) → AllByRecursion P xs → AllByRecursion P ys → AllByRecursion P (xs ++ ys)
each-append P [] ys a b = b
each-append P (x ∷ xs) ys a b = (a.0, each-append P xs ys a.1 b)

-- one number more, that none of the others is
pub differ-push : (xs : List ℕ) (y : ℕ) → AllDiffer xs → AllByRecursion (λ x. x ≢ y) xs → AllDiffer (xs ++ y ∷ [])
differ-push [] y d a = (tt, tt)
differ-push (x ∷ xs) y d a = (each-push (λ z. x ≢ z) xs y d.0 a.0, differ-push xs y d.1 a.1)

-- two lists of which no number is in both
pub differ-append : (xs ys : List ℕ) → AllDiffer xs → AllDiffer ys → AllByRecursion (λ x. AllByRecursion (λ y. x ≢ y) ys) xs → AllDiffer (xs ++ ys)
differ-append [] ys d e a = e
differ-append (x ∷ xs) ys d e a = (each-append (λ y. x ≢ y) xs ys d.0 a.0, differ-append xs ys d.1 e a.1)

pub each-weaker : {X : Type 0} (P Q : X → Type 0) → ((x : X) → P x → Q x) → (xs : List X) → AllByRecursion P xs → AllByRecursion Q xs
each-weaker P Q f [] h = tt
each-weaker P Q f (x ∷ xs) h = (f x h.0, each-weaker P Q f xs h.1)

pub each-map : {X Y : Type 0} (P : Y → Type 0) (f : X → Y) (xs : List X) → AllByRecursion (λ x. P (f x)) xs → AllByRecursion P (map_list f xs)
each-map P f [] h = tt
each-map P f (x ∷ xs) h = (h.0, each-map P f xs h.1)

pub each-unmap : {X Y : Type 0} (P : Y → Type 0) (f : X → Y) (xs : List X) → AllByRecursion P (map_list f xs) → AllByRecursion (λ x. P (f x)) xs
each-unmap P f [] h = tt
each-unmap P f (x ∷ xs) h = (h.0, each-unmap P f xs h.1)

-- two lists that show the same: what holds of what one shows holds of what the other shows
pub all_shown : {X Y Z : Type 0} (P : Z → Type 0) (f : X → Z) (g : Y → Z) (xs : List X) (ys : List Y) → map_list f xs ≡ map_list g ys → All (λ y. P (g y)) ys → All (λ x. P (f x)) xs
all_shown P f g xs ys same h =
    All-from_recursion (λ x. P (f x)) xs (each-unmap P f xs (subst (AllByRecursion P) (sym same) (each-map P g ys (recursion_from_All (λ y. P (g y)) ys h))))

-- numbers from a bound on differ from those below it
pub parted : (bound : ℕ) (xs ys : List ℕ) → AllByRecursion (λ x. bound ≤ x) xs → AllByRecursion (λ y. y < bound) ys → AllByRecursion (λ x. AllByRecursion (λ y. x ≢ y) ys) xs
parted bound xs ys from below_bound =
    each-weaker (λ x. bound ≤ x) (λ x. AllByRecursion (λ y. x ≢ y) ys) (λ x h. each-weaker (λ y. y < bound) (λ y. x ≢ y) (λ y l e. absurd (omega (arith, e))) ys below_bound) xs from

module _ {X : Type 0} (f g : X → ℕ) (P : X → Type 0) (alike : (x y : X) → P x → P y → g x ≡ g y → f x ≡ f y) where
  head_differs : (x : X) (xs : List X) → P x → AllByRecursion P xs → AllByRecursion (λ n. f x ≢ n) (map_list f xs) → AllByRecursion (λ n. g x ≢ n) (map_list g xs)
  head_differs x [] p all h = tt
  head_differs x (y ∷ ys) p all h = (λ e. h.0 (alike x y p all.0 e), head_differs x ys p all.1 h.1)

  -- what tells members apart does so as well where it tells no more of them alike
  pub differ-other : (xs : List X) → AllByRecursion P xs → AllDiffer (map_list f xs) → AllDiffer (map_list g xs)
  differ-other [] all h = tt
  differ-other (x ∷ xs) all h = (head_differs x xs all.0 all.1 h.0, differ-other xs all.1 h.1)

module _ {X : Type 0} (f : X → ℕ) where
  at_place : (n : ℕ) (xs : List X) (i : ℕ) (d : X) → i < length xs → AllByRecursion (λ m. n ≢ m) (map_list f xs) → n ≢ f (get_or xs i d)
  at_place n [] i d low h = absurd (omega arith)
  at_place n (x ∷ xs) zero d low h = h.0
  at_place n (x ∷ xs) (suc i) d low h = at_place n xs i d (omega arith) h.1

  -- a member differs from those before it
  pub differ-front : (xs : List X) (i : ℕ) (d : X) → i < length xs → AllDiffer (map_list f xs) → AllByRecursion (λ x. f x ≢ f (get_or xs i d)) (take i xs)
  differ-front [] i d low h = absurd (omega arith)
  differ-front (x ∷ xs) zero d low h = tt
  differ-front (x ∷ xs) (suc i) d low h = (at_place (f x) xs i d (omega arith) h.0, differ-front xs i d (omega arith) h.1)
