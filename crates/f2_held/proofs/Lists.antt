-- Sums over lists that have the same members, and rows among lists.
use Rattle.std.proofs.Common.{◌≡◌, ◌≢◌, ℕ, Bool, true, false, cond, ◌||◌, ◌+◌, ◌<◌, ◌≤◌, List, [], ◌∷◌, map as map_list, refl, sym, ap, subst, ◌∙◌, arith, true≢false}
use Rattle.std.specs.List.{list_any, sum_by, fold, AllByRecursion}
use Rattle.std.specs.Ordering.{nat_cmp, eq_by_cmp, is_eq}
use Rattle.std.specs.declared.cmp.Ordering.{Ordering}
use Rattle.std.specs.declared.cmp.Ordering.TheVariants.{Less, Equal, Greater}
use Rattle.std.proofs.lemmas.Cmp.{ranked}
use Rattle.std.proofs.lemmas.List.Sums.{sum_by-cons}
use Rattle.f2_model.specs.Fallback.{Both, sum_of, nothing}

-- a number is one of a list
abbrev pub has : ℕ → List ℕ → Bool
has k xs = list_any (eq_by_cmp nat_cmp k) xs

pub tied-true : (k x : ℕ) → eq_by_cmp nat_cmp k x ≡ true → k ≡ x
tied-true k x h = go (nat_cmp k x) refl h
  where
    go : (o : Ordering) → nat_cmp k x ≡ o → is_eq o ≡ true → k ≡ x
    go Less e t = absurd (cc)
    go Equal e t = ranked k x Equal (sym e)
    go Greater e t = absurd (cc)

pub tied-same : (k : ℕ) → eq_by_cmp nat_cmp k k ≡ true
tied-same k = go (nat_cmp k k) refl
  where
    go : (o : Ordering) → nat_cmp k k ≡ o → is_eq o ≡ true
    go Less e = absurd (let lt : k < k = ranked k k Less (sym e) in omega arith)
    go Equal e = refl
    go Greater e = absurd (let lt : k < k = ranked k k Greater (sym e) in omega arith)

pub or_right : (a b : Bool) → b ≡ true → (a || b) ≡ true
or_right true b e = refl
or_right false b e = e

pub or_left : (a b : Bool) → a ≡ true → (a || b) ≡ true
or_left a b e = ap (λ c. c || b) e

-- no number stands twice
abbrev pub Apart : List ℕ → Type 0
Apart [] = Unit {0}
Apart (x ∷ xs) = (has x xs ≡ false) × Apart xs

-- a list without the first place of a number
abbrev without : ℕ → List ℕ → List ℕ
without k [] = []
without k (x ∷ xs) = cond (eq_by_cmp nat_cmp k x) xs (x ∷ without k xs)

module _ (g : ℕ → ℕ) where
  sum_without : (k : ℕ) (xs : List ℕ) → has k xs ≡ true → sum_by g xs ≡ g k + sum_by g (without k xs)
  sum_without k [] h = absurd (cc)
  sum_without k (x ∷ xs) h = go (sum_without k xs) (eq_by_cmp nat_cmp k x) refl h
    where
      go : (has k xs ≡ true → sum_by g xs ≡ g k + sum_by g (without k xs)) → (b : Bool) → eq_by_cmp nat_cmp k x ≡ b → (b || has k xs) ≡ true → sum_by g (x ∷ xs) ≡ g k + sum_by g (cond b xs (x ∷ without k xs))
      go rest true e h = sum_by-cons g x xs ∙ ap (λ n. g n + sum_by g xs) (sym (tied-true k x e))
      go rest false e h = omega (arith, sum_by-cons g x xs, sum_by-cons g x (without k xs), rest h)

  has_without : (k q : ℕ) (xs : List ℕ) → q ≢ k → has q xs ≡ true → has q (without k xs) ≡ true
  has_without k q [] other h = h
  has_without k q (x ∷ xs) other h = go (has_without k q xs other) (eq_by_cmp nat_cmp k x) refl (eq_by_cmp nat_cmp q x) refl h
    where
      go : (has q xs ≡ true → has q (without k xs) ≡ true) → (b : Bool) → eq_by_cmp nat_cmp k x ≡ b → (t : Bool) → eq_by_cmp nat_cmp q x ≡ t → (t || has q xs) ≡ true → has q (cond b xs (x ∷ without k xs)) ≡ true
      go rest true e true t h = absurd (other (tied-true q x t ∙ sym (tied-true k x e)))
      go rest true e false t h = h
      go rest false e true t h = or_left (eq_by_cmp nat_cmp q x) _ t
      go rest false e false t h = or_right (eq_by_cmp nat_cmp q x) _ (rest h)

  -- numbers that all stand in another list add up to no more than that list
  pub sum_apart : (xs ys : List ℕ) → Apart xs → ((k : ℕ) → has k xs ≡ true → has k ys ≡ true) → sum_by g xs ≤ sum_by g ys
  sum_apart [] ys apart sub = omega arith
  sum_apart (x ∷ xs) ys apart sub =
      let here = sum_without x ys (sub x (or_left (eq_by_cmp nat_cmp x x) (has x xs) (tied-same x))) in
      let rest = sum_apart xs (without x ys) apart.1 (λ k h. has_without x k ys (other k h) (sub k (or_right (eq_by_cmp nat_cmp k x) (has k xs) h))) in
      omega (arith, sum_by-cons g x xs, here, rest)
    where
      other : (k : ℕ) → has k xs ≡ true → k ≢ x
      other k h same = true≢false (sym (subst (λ q. has q xs ≡ true) same h) ∙ apart.0)

-- sums of parts of numbers
fold_nodes : {X : Type 0} (f : X → Both) (a : Both) (xs : List X) → (fold (λ total x. sum_of total (f x)) a xs).nodes ≡ a.nodes + sum_by (λ x. (f x).nodes) xs
fold_nodes f a [] = omega arith
fold_nodes f a (x ∷ xs) = omega (arith, fold_nodes f (sum_of a (f x)) xs, sum_by-cons (λ x. (f x).nodes) x xs)

fold_pages : {X : Type 0} (f : X → Both) (a : Both) (xs : List X) → (fold (λ total x. sum_of total (f x)) a xs).pages ≡ a.pages + sum_by (λ x. (f x).pages) xs
fold_pages f a [] = omega arith
fold_pages f a (x ∷ xs) = omega (arith, fold_pages f (sum_of a (f x)) xs, sum_by-cons (λ x. (f x).pages) x xs)

pub sum_nodes : {X : Type 0} (f : X → Both) (xs : List X) → (fold (λ total x. sum_of total (f x)) nothing xs).nodes ≡ sum_by (λ x. (f x).nodes) xs
sum_nodes f xs = omega (arith, fold_nodes f nothing xs)

pub sum_pages : {X : Type 0} (f : X → Both) (xs : List X) → (fold (λ total x. sum_of total (f x)) nothing xs).pages ≡ sum_by (λ x. (f x).pages) xs
sum_pages f xs = omega (arith, fold_pages f nothing xs)

pub sum_mapped : {X : Type 0} (g : ℕ → ℕ) (f : X → ℕ) (xs : List X) → sum_by g (map_list f xs) ≡ sum_by (λ x. g (f x)) xs
sum_mapped g f [] = refl
sum_mapped g f (x ∷ xs) = sum_by-cons g (f x) (map_list f xs) ∙ ap (λ n. g (f x) + n) (sum_mapped g f xs) ∙ sym (sum_by-cons (λ x. g (f x)) x xs)

pub sum_each : {X : Type 0} (g h : X → ℕ) (xs : List X) → AllByRecursion (λ x. g x ≤ h x) xs → sum_by g xs ≤ sum_by h xs
sum_each g h [] all = omega arith
sum_each g h (x ∷ xs) all = omega (arith, sum_by-cons g x xs, sum_by-cons h x xs, all.0, sum_each g h xs all.1)
