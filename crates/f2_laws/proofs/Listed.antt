-- Members of lists, and of the values of a map.
use Rattle.std.proofs.Common.{◌≡◌, ◌⊎◌, inl, inr, ℕ, Bool, true, false, cond, List, [], ◌∷◌, ◌++◌, map as map_list, refl, sym, ap, ◌∙◌}
use Rattle.std.specs.Prelude.{Option, Some, None}
use Rattle.std.specs.List.{filter_map, cons_option}
use Rattle.std.specs.Ordering.{nat_cmp, eq_by_cmp}
use Rattle.std.specs.FinMap as finite

-- a value is one of a list
abbrev pub Has : {A : Type 0} → A → List A → Type 0
Has x [] = ⊥
Has x (y ∷ ys) = (x ≡ y) ⊎ Has x ys

pub has-left : {A : Type 0} (x : A) (xs ys : List A) → Has x xs → Has x (xs ++ ys)
has-left x [] ys h = absurd h
has-left x (z ∷ xs) ys (inl e) = inl e
has-left x (z ∷ xs) ys (inr h) = inr (has-left x xs ys h)

pub has-right : {A : Type 0} (x : A) (xs ys : List A) → Has x ys → Has x (xs ++ ys)
has-right x [] ys h = h
has-right x (z ∷ xs) ys h = inr (has-right x xs ys h)

some_is : {A : Type 0} (x y : A) → Some x ≡ Some y → x ≡ y
some_is x y e = cc

-- what a map has at a key is one of its values, and of its entries
module _ {X : Type 0} where
  found_entry : (k : ℕ) (x : X) (es : List (ℕ × X)) → finite.find nat_cmp k es ≡ Some x → (e : ℕ × X) × Has e es × (e.1 ≡ x)
  found_entry k x [] h = absurd (cc)
  found_entry k x (e ∷ es) h = by_test (found_entry k x es) (eq_by_cmp nat_cmp k e.0) h
    where
      by_test : (finite.find nat_cmp k es ≡ Some x → (e : ℕ × X) × Has e es × (e.1 ≡ x)) → (b : Bool) → cond b (Some e.1) (finite.find nat_cmp k es) ≡ Some x → (one : ℕ × X) × Has one (e ∷ es) × (one.1 ≡ x)
      by_test rest true h = (e, inl refl, some_is e.1 x h)
      by_test rest false h = let more = rest h in (more.0, inr more.1, more.2)

  pub entry_has : (m : finite.FinMap nat_cmp X) (k : ℕ) (x : X) → finite.get m k ≡ Some x → (e : ℕ × X) × Has e (finite.entries m) × (e.1 ≡ x)
  entry_has m k x h = found_entry k x (finite.entries m) (sym (finite.get-entries m k) ∙ h)

  found_has : (k : ℕ) (x : X) (es : List (ℕ × X)) → finite.find nat_cmp k es ≡ Some x → Has x (map_list (λ e. e.1) es)
  found_has k x [] h = absurd (cc)
  found_has k x (e ∷ es) h = by_test (found_has k x es) (eq_by_cmp nat_cmp k e.0) h
    where
      by_test : (finite.find nat_cmp k es ≡ Some x → Has x (map_list (λ e. e.1) es)) → (b : Bool) → cond b (Some e.1) (finite.find nat_cmp k es) ≡ Some x → Has x (e.1 ∷ map_list (λ e. e.1) es)
      by_test rest true h = inl (sym (some_is e.1 x h))
      by_test rest false h = inr (rest h)

  pub value_has : (m : finite.FinMap nat_cmp X) (k : ℕ) (x : X) → finite.get m k ≡ Some x → Has x (finite.values m)
  value_has m k x h = found_has k x (finite.entries m) (sym (finite.get-entries m k) ∙ h)

-- what a value is mapped to is one of what the list is mapped to
module _ {X Y : Type 0} (f : X → Option Y) where
  pub mapped_has : (x : X) (y : Y) (xs : List X) → Has x xs → f x ≡ Some y → Has y (filter_map f xs)
  mapped_has x y [] h e = absurd h
  mapped_has x y (z ∷ xs) (inl same) e = here (f z) (ap f (sym same) ∙ e)
    where
      here : (o : Option Y) → o ≡ Some y → Has y (cons_option o (filter_map f xs))
      here None e = absurd (cc)
      here (Some w) e = inl (sym (some_is w y e))
  mapped_has x y (z ∷ xs) (inr h) e = later (f z) (mapped_has x y xs h e)
    where
      later : (o : Option Y) → Has y (filter_map f xs) → Has y (cons_option o (filter_map f xs))
      later None h = h
      later (Some w) h = inr h
