-- The values of a map are those at its keys.
use Rattle.std.proofs.Common.{◌≡◌, Bool, true, false, cond, ◌||◌, ◌&&◌, List, [], ◌∷◌, map as map_list, refl, sym, ap, ◌∙◌, true≢false}
use Rattle.std.specs.Prelude.{T, Some, None}
use Rattle.std.specs.List.{list_any}
use Rattle.std.specs.Ordering.{eq_by_cmp, is_eq, is_lt}
use Rattle.std.specs.Cmp.{IsTotalOrder, Equal-is, tied_itself}
use Rattle.std.specs.declared.cmp.Ordering.{Ordering}
use Rattle.std.specs.declared.cmp.Ordering.TheVariants.{Less, Equal, Greater}
use Rattle.std.specs.FinMap as finite
use Rattle.std.specs.FinMap.{FinMap, IsAntisymmetric, is_sorted, entries, entries_sorted, get-entries}
use Rattle.std.specs.FinMap.Entries.{below_all}

first : (a b : Bool) → T (a && b) → T a
first true b p = tt
first false b p = p

second : (a b : Bool) → T (a && b) → T b
second true b p = p
second false b p = absurd p

not_tied : (o : Ordering) → T (is_lt o) → is_eq o ≡ false
not_tied Less p = refl
not_tied Equal p = absurd p
not_tied Greater p = absurd p

either : (a b : Bool) → (a || b) ≡ true → (a ≡ false → b ≡ true)
either true b e none = absurd (true≢false none)
either false b e none = e

module _ {K X : Type 0} (R : K → K → Ordering) (total : IsTotalOrder R) (same : IsAntisymmetric R) where
  -- a key below all has no entry
  find_below : (q : K) (es : List (K × X)) → T (below_all R q es) → finite.find R q es ≡ None
  find_below q [] h = refl
  find_below q (e ∷ es) h = ap (λ b. cond b (Some e.1) (finite.find R q es)) (not_tied (R q e.0) (first _ _ h)) ∙ find_below q es (second _ _ h)

  some_none : {x : X} → Some x ≡ None → ⊥
  some_none e = cc

  later : (e : K × X) (es : List (K × X)) (x : X) (k : K) → T (below_all R e.0 es) → finite.find R k es ≡ Some x → (b : Bool) → eq_by_cmp R k e.0 ≡ b → cond b (Some e.1) (finite.find R k es) ≡ Some x
  later e es x k below h false t = h
  later e es x k below h true t =
      let at : k ≡ e.0 = same k e.0 ((Equal-is (R k e.0)).0 t) in
      absurd (some_none (sym h ∙ ap (λ i. finite.find R i es) at ∙ find_below e.0 es below))

  -- where a value passes, it is one of some key's
  any_value : (es : List (K × X)) → T (is_sorted R es) → (test : X → Bool) → list_any test (map_list (λ (e : K × X). e.1) es) ≡ true → (k : K) × (x : X) × (test x ≡ true) × (finite.find R k es ≡ Some x)
  any_value [] sorted test h = absurd (true≢false (sym h))
  any_value (e ∷ es) sorted test h = by_test (λ left. any_value es (second _ _ sorted) test left) (test e.1) refl h
    where
      by_test : (list_any test (map_list (λ (e : K × X). e.1) es) ≡ true → (k : K) × (x : X) × (test x ≡ true) × (finite.find R k es ≡ Some x)) → (b : Bool) → test e.1 ≡ b → (b || list_any test (map_list (λ (e : K × X). e.1) es)) ≡ true → (k : K) × (x : X) × (test x ≡ true) × (finite.find R k (e ∷ es) ≡ Some x)
      by_test rest true t h = (e.0, e.1, t, ap (λ b. cond b (Some e.1) (finite.find R e.0 es)) (ap is_eq (tied_itself total e.0)))
      by_test rest false t h =
          let more = rest h in
          (more.0, more.1, more.2, later e es more.1 more.0 (first _ _ sorted) more.3 (eq_by_cmp R more.0 e.0) refl)

  pub value_passes : (m : FinMap R X) (test : X → Bool) → list_any test (finite.values m) ≡ true → (k : K) × (x : X) × (test x ≡ true) × (finite.get m k ≡ Some x)
  value_passes m test h =
      let found = any_value (entries m) (entries_sorted m) test h in
      (found.0, found.1, found.2, get-entries m found.0 ∙ found.3)

  found_any : (es : List (K × X)) (test : X → Bool) (k : K) (x : X) → finite.find R k es ≡ Some x → test x ≡ true → list_any test (map_list (λ (e : K × X). e.1) es) ≡ true
  found_any [] test k x h t = absurd (some_none (sym h))
  found_any (e ∷ es) test k x h t = by_key (λ left. found_any es test k x left t) (eq_by_cmp R k e.0) h
    where
      or_true : (a : Bool) → (a || true) ≡ true
      or_true true = refl
      or_true false = refl

      by_key : (finite.find R k es ≡ Some x → list_any test (map_list (λ (e : K × X). e.1) es) ≡ true) → (b : Bool) → cond b (Some e.1) (finite.find R k es) ≡ Some x → (test e.1 || list_any test (map_list (λ (e : K × X). e.1) es)) ≡ true
      by_key rest true h = let at : e.1 ≡ x = cc in ap (λ b. b || list_any test (map_list (λ (e : K × X). e.1) es)) (ap test at ∙ t)
      by_key rest false h = ap (λ b. test e.1 || b) (rest h) ∙ or_true (test e.1)

  -- and where some key's value passes, one does
  pub passes_value : (m : FinMap R X) (test : X → Bool) (k : K) (x : X) → finite.get m k ≡ Some x → test x ≡ true → list_any test (finite.values m) ≡ true
  passes_value m test k x there t = found_any (entries m) test k x (sym (get-entries m k) ∙ there) t

  -- a map with a key isn't empty, and one that isn't has a key
  pub some_entry : (es : List (K × X)) (k : K) (x : X) → finite.find R k es ≡ Some x → (e : K × X) × (rest : List (K × X)) × (es ≡ e ∷ rest)
  some_entry [] k x h = absurd (some_none (sym h))
  some_entry (e ∷ es) k x h = (e, es, refl)
