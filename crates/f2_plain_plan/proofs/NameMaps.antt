-- Maps from names: their keys rise, and each entry is found.
use Rattle.std.proofs.Common.{◌≡◌, ◌≢◌, ℕ, Bool, true, false, cond, ◌&&◌, List, [], ◌∷◌, map as map_list, length, refl, sym, ap, ◌∙◌, Some, None, arith}
use Rattle.std.specs.Prelude.{T}
use Rattle.std.specs.List.{AllByRecursion}
use Rattle.std.specs.List.Sorted.{IsStrictlySortedBy}
use Rattle.std.specs.Ordering.{nat_cmp, eq_by_cmp, is_eq, is_lt}
use Rattle.std.specs.Cmp.{eq_by_cmp_equiv}
use Rattle.std.specs.Cmp.Lexicographic.{slice_cmp, nat_list_cmp_total}
use Rattle.std.specs.declared.cmp.Ordering.{Ordering}
use Rattle.std.specs.declared.cmp.Ordering.TheVariants.{Less, Equal, Greater}
use Rattle.std.specs.FinMap as map
use Rattle.std.specs.FinMap.{FinMap, entries, entries_sorted, find, get-entries, is_sorted, len-entries, len-empty, nat_cmp-IsAntisymmetric, slice_cmp-IsAntisymmetric}
use Rattle.std.specs.FinMap.Entries.{below_all}

-- the order of names
abbrev pub name_cmp : List ℕ → List ℕ → Ordering
name_cmp = slice_cmp nat_cmp

equal_is : (o : Ordering) → is_eq o ≡ true → o ≡ Equal
equal_is Less e = cc
equal_is Equal e = refl
equal_is Greater e = cc

pub name_tied : (p q : List ℕ) → eq_by_cmp name_cmp p q ≡ true → p ≡ q
name_tied p q e = slice_cmp-IsAntisymmetric nat_cmp-IsAntisymmetric p q (equal_is (name_cmp p q) e)

pub name_same : (p : List ℕ) → eq_by_cmp name_cmp p p ≡ true
name_same p = (eq_by_cmp_equiv nat_list_cmp_total).refl p

pub name_apart : (p q : List ℕ) → p ≢ q → eq_by_cmp name_cmp p q ≡ false
name_apart p q ne = go (eq_by_cmp name_cmp p q) refl
  where
    go : (b : Bool) → eq_by_cmp name_cmp p q ≡ b → eq_by_cmp name_cmp p q ≡ false
    go true e = absurd (ne (name_tied p q e))
    go false e = e

first : (a b : Bool) → T (a && b) → T a
first true b p = tt
first false b p = p

second : (a b : Bool) → T (a && b) → T b
second true b p = p
second false b p = absurd p

less : (o : Ordering) → T (is_lt o) → o ≡ Less
less Less h = refl
less Equal h = absurd h
less Greater h = absurd h

not_tied : (o : Ordering) → T (is_lt o) → is_eq o ≡ false
not_tied Less p = refl
not_tied Equal p = absurd p
not_tied Greater p = absurd p

no_length : {A : Type 0} (xs : List A) → length xs ≡ 0 → xs ≡ []
no_length [] e = refl
no_length (x ∷ xs) e = absurd (omega arith)

module _ {X : Type 0} where
  keys_below : (x : List ℕ) (es : List (List ℕ × X)) → T (below_all name_cmp x es) → AllByRecursion (λ y. name_cmp x y ≡ Less) (map_list (λ e. e.0) es)
  keys_below x [] h = tt
  keys_below x (e ∷ es) h = (less _ (first _ _ h), keys_below x es (second _ _ h))

  keys_rise : (es : List (List ℕ × X)) → T (is_sorted name_cmp es) → IsStrictlySortedBy name_cmp (map_list (λ e. e.0) es)
  unfolding IsStrictlySortedBy
  keys_rise [] h = tt
  keys_rise (e ∷ es) h = (keys_below e.0 es (first _ _ h), keys_rise es (second _ _ h))

  pub names_rise : (m : FinMap name_cmp X) → IsStrictlySortedBy name_cmp (map.keys m)
  names_rise m = keys_rise (entries m) (entries_sorted m)

  find_below : (q : List ℕ) (es : List (List ℕ × X)) → T (below_all name_cmp q es) → find name_cmp q es ≡ None
  find_below q [] h = refl
  find_below q (e ∷ es) h = ap (λ b. cond b (Some e.1) (find name_cmp q es)) (not_tied (name_cmp q e.0) (first _ _ h)) ∙ find_below q es (second _ _ h)

  some_none : (v : X) → Some v ≡ None → ⊥
  some_none v e = cc

  -- what stands behind an entry is found behind it
  later : (e : List ℕ × X) (es : List (List ℕ × X)) (k : List ℕ) (v : X) → T (below_all name_cmp e.0 es) → find name_cmp k es ≡ Some v → find name_cmp k (e ∷ es) ≡ Some v
  later e es k v below h = go (eq_by_cmp name_cmp k e.0) refl
    where
      go : (b : Bool) → eq_by_cmp name_cmp k e.0 ≡ b → cond b (Some e.1) (find name_cmp k es) ≡ Some v
      go false t = h
      go true t = absurd (some_none v (sym h ∙ ap (λ q. find name_cmp q es) (name_tied k e.0 t) ∙ find_below e.0 es below))

  each : (P : List ℕ × X → Type 0) (es : List (List ℕ × X)) → T (is_sorted name_cmp es) → ((k : List ℕ) (v : X) → find name_cmp k es ≡ Some v → P (k, v)) → AllByRecursion P es
  each P [] sorted h = tt
  each P (e ∷ es) sorted h =
      (h e.0 e.1 (ap (λ b. cond b (Some e.1) (find name_cmp e.0 es)) (name_same e.0)), each P es (second _ _ sorted) (λ k v f. h k v (later e es k v (first _ _ sorted) f)))

  -- what holds of each name holds of each entry
  pub each_name : (P : List ℕ × X → Type 0) (m : FinMap name_cmp X) → ((k : List ℕ) (v : X) → map.get m k ≡ Some v → P (k, v)) → AllByRecursion P (entries m)
  each_name P m h = each P (entries m) (entries_sorted m) (λ k v f. h k v (get-entries m k ∙ f))

  pub no_entries : entries (map.empty {X = X} {R = name_cmp}) ≡ []
  no_entries = no_length (entries map.empty) (sym (len-entries map.empty) ∙ len-empty name_cmp X)
