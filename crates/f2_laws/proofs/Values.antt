-- The rows of a map and what is found among them.
use Rattle.std.proofs.Common.{◌≡◌, ℕ, Bool, true, false, cond, ◌||◌, ◌&&◌, List, [], ◌∷◌, map as map_list, refl, sym, ap, ◌∙◌, true≢false}
use Rattle.std.specs.Prelude.{T, Some, None}
use Rattle.std.specs.List.{list_any, find}
use Rattle.std.specs.Ordering.{nat_cmp, eq_by_cmp, is_eq, is_lt}
use Rattle.std.specs.declared.cmp.Ordering.{Ordering}
use Rattle.std.specs.declared.cmp.Ordering.TheVariants.{Less, Equal, Greater}
use Rattle.std.specs.FinMap as finite
use Rattle.std.specs.FinMap.{FinMap, is_sorted, entries, entries_sorted, get-entries}
use Rattle.std.specs.FinMap.Entries.{below_all}
use Rattle.f2_laws.proofs.Missing.{tied-true, tied-same}

first : (a b : Bool) → T (a && b) → T a
first true b p = tt
first false b p = p

second : (a b : Bool) → T (a && b) → T b
second true b p = p
second false b p = absurd p

not_tied : (o : Ordering) → T (is_lt o) → is_eq o ≡ false
not_tied Less p = refl
not_tied Equal p = absurd p
not_tied Greater p = absurd p

module _ {X : Type 0} where
  -- a key below all has no entry
  find_below : (q : ℕ) (es : List (ℕ × X)) → T (below_all nat_cmp q es) → finite.find nat_cmp q es ≡ None
  find_below q [] h = refl
  find_below q (e ∷ es) h = ap (λ b. cond b (Some e.1) (finite.find nat_cmp q es)) (not_tied (nat_cmp q e.0) (first _ _ h)) ∙ find_below q es (second _ _ h)

  -- an entry behind one whose key is below stays found
  later : (e : ℕ × X) (es : List (ℕ × X)) (x : X) (k : ℕ) → T (below_all nat_cmp e.0 es) → finite.find nat_cmp k es ≡ Some x → (b : Bool) → eq_by_cmp nat_cmp k e.0 ≡ b → cond b (Some e.1) (finite.find nat_cmp k es) ≡ Some x
  later e es x k below h false t = h
  later e es x k below h true t =
      let none : finite.find nat_cmp k es ≡ None = ap (λ i. finite.find nat_cmp i es) (tied-true k e.0 t) ∙ find_below e.0 es below in
      absurd (some_none (sym h ∙ none))
    where
      some_none : Some x ≡ None → ⊥
      some_none e = cc

  -- a value that passes is some key's
  found_value : (es : List (ℕ × X)) → T (is_sorted nat_cmp es) → (test : X → Bool) (x : X) → find test (map_list (λ e. e.1) es) ≡ Some x → (test x ≡ true) × ((k : ℕ) × (finite.find nat_cmp k es ≡ Some x))
  found_value [] sorted test x h = absurd (cc)
  found_value (e ∷ es) sorted test x h = by_test (λ left. found_value es (second _ _ sorted) test x left) (test e.1) refl h
    where
      by_test : (find test (map_list (λ e. e.1) es) ≡ Some x → (test x ≡ true) × ((k : ℕ) × (finite.find nat_cmp k es ≡ Some x))) → (b : Bool) → test e.1 ≡ b → cond b (Some e.1) (find test (map_list (λ e. e.1) es)) ≡ Some x → (test x ≡ true) × ((k : ℕ) × (finite.find nat_cmp k (e ∷ es) ≡ Some x))
      by_test rest true t h =
          let same : e.1 ≡ x = cc in
          (ap test (sym same) ∙ t, (e.0, ap (λ b. cond b (Some e.1) (finite.find nat_cmp e.0 es)) (tied-same e.0) ∙ h))
      by_test rest false t h =
          let more = rest h in
          (more.0, (more.1.0, later e es x more.1.0 (first _ _ sorted) more.1.1 (eq_by_cmp nat_cmp more.1.0 e.0) refl))

  -- where no value passes, the value of no key does
  missed_value : (es : List (ℕ × X)) (test : X → Bool) (k : ℕ) (x : X) → list_any test (map_list (λ e. e.1) es) ≡ false → finite.find nat_cmp k es ≡ Some x → test x ≡ false
  missed_value [] test k x none h = absurd (cc)
  missed_value (e ∷ es) test k x none h = by_test (λ left. missed_value es test k x left) (eq_by_cmp nat_cmp k e.0) h (test e.1) refl none
    where
      by_test : (list_any test (map_list (λ e. e.1) es) ≡ false → finite.find nat_cmp k es ≡ Some x → test x ≡ false) → (b : Bool) → cond b (Some e.1) (finite.find nat_cmp k es) ≡ Some x → (p : Bool) → test e.1 ≡ p → (p || list_any test (map_list (λ e. e.1) es)) ≡ false → test x ≡ false
      by_test rest b h true t none = absurd (true≢false none)
      by_test rest true h false t none = let same : e.1 ≡ x = cc in ap test (sym same) ∙ t
      by_test rest false h false t none = rest none h

  pub find_none : (test : X → Bool) (xs : List X) → find test xs ≡ None → list_any test xs ≡ false
  find_none test [] h = refl
  find_none test (x ∷ xs) h = by_test (find_none test xs) (test x) h
    where
      by_test : (find test xs ≡ None → list_any test xs ≡ false) → (b : Bool) → cond b (Some x) (find test xs) ≡ None → (b || list_any test xs) ≡ false
      by_test rest true h = absurd (cc)
      by_test rest false h = rest h

module _ {X : Type 0} (m : FinMap nat_cmp X) (test : X → Bool) where
  -- what is found among the values is some key's
  pub value_found : (x : X) → find test (finite.values m) ≡ Some x → (test x ≡ true) × ((k : ℕ) × (finite.get m k ≡ Some x))
  value_found x h =
      let found = found_value (entries m) (entries_sorted m) test x h in
      (found.0, (found.1.0, get-entries m found.1.0 ∙ found.1.1))

  -- where none of the values passes, no key's does
  pub no_value : (k : ℕ) (x : X) → list_any test (finite.values m) ≡ false → finite.get m k ≡ Some x → test x ≡ false
  no_value k x none h = missed_value (entries m) test k x none (sym (get-entries m k) ∙ h)

  pub none_found : (k : ℕ) (x : X) → find test (finite.values m) ≡ None → finite.get m k ≡ Some x → test x ≡ false
  none_found k x none h = no_value k x (find_none test (finite.values m) none) h
