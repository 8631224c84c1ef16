-- The values of a map, and rows under their inos.
use Rattle.std.proofs.Common.{◌≡◌, ◌≢◌, ℕ, Bool, true, false, cond, ◌&&◌, List, [], ◌∷◌, map as map_list, refl, sym, ap, subst, ◌∙◌, Some, None, All}
use Rattle.std.specs.Prelude.{T, Contains}
use Rattle.std.proofs.lemmas.Bool.{true≢false}
use Rattle.std.specs.List.{AllByRecursion}
use Rattle.std.specs.Ordering.{nat_cmp, eq_by_cmp, is_eq, is_lt}
use Rattle.std.specs.declared.cmp.Ordering.{Ordering}
use Rattle.std.specs.declared.cmp.Ordering.TheVariants.{Less, Equal, Greater}
use Rattle.std.specs.FinMap as map
use Rattle.std.specs.FinMap.{FinMap, entries, entries_sorted, find, get-entries, is_sorted}
use Rattle.std.specs.FinMap.Entries.{below_all}
use Rattle.std.proofs.lemmas.List.Elements.{All-from_recursion, recursion_from_All, All-contains, All-contains_itself}
use Rattle.f2_image.specs.Reached.{AllDiffer}
use Rattle.f2_held.proofs.Lists.{tied-same}
use Rattle.f2_held.proofs.MapSums.{each_entry}
use Rattle.f2_model.specs.Tree.{Rows}
use Rattle.f2_model.specs.declared.rows.Row.{Row}

each_mapped : {X : Type 0} (P : X → Type 0) (es : List (ℕ × X)) → AllByRecursion (λ e. P e.1) es → AllByRecursion P (map_list (λ e. e.1) es)
each_mapped P [] h = tt
each_mapped P (e ∷ es) h = (h.0, each_mapped P es h.1)

-- what holds at each key holds of each value
pub each_value : {X : Type 0} (P : X → Type 0) (m : FinMap nat_cmp X) → ((k : ℕ) (v : X) → map.get m k ≡ Some v → P v) → All P (map.values m)
each_value P m h = All-from_recursion P (map.values m) (each_mapped P (entries m) (each_entry (λ e. P e.1) (entries m) (entries_sorted m) (λ k v f. h k v (get-entries m k ∙ f))))

same_some : {X : Type 0} (a b : X) → Some a ≡ Some b → a ≡ b
same_some a b e = cc

no_some : {X : Type 0} (a : X) → None ≡ Some a → ⊥
no_some a e = cc

found_value : {X : Type 0} (P : X → Type 0) (es : List (ℕ × X)) (k : ℕ) (v : X) → AllByRecursion P (map_list (λ e. e.1) es) → find nat_cmp k es ≡ Some v → P v
found_value P [] k v h f = absurd (no_some v f)
found_value P (e ∷ es) k v h f = go (found_value P es k v h.1) (eq_by_cmp nat_cmp k e.0) f
  where
    go : (find nat_cmp k es ≡ Some v → P v) → (b : Bool) → cond b (Some e.1) (find nat_cmp k es) ≡ Some v → P v
    go rest true g = subst P (same_some e.1 v g) h.0
    go rest false g = rest g

-- what holds of each value holds at each key
pub value_each : {X : Type 0} (P : X → Type 0) (m : FinMap nat_cmp X) → All P (map.values m) → (k : ℕ) (v : X) → map.get m k ≡ Some v → P v
value_each P m h k v f = found_value P (entries m) k v (recursion_from_All P (map.values m) h) (sym (get-entries m k) ∙ f)

-- the value of a key is among the values, and each of them is some key's
pub value_there : {X : Type 0} (m : FinMap nat_cmp X) (k : ℕ) (v : X) → map.get m k ≡ Some v → Contains (map.values m) v
value_there m k v f = value_each (Contains (map.values m)) m (All-contains_itself (map.values m)) k v f

pub value_at : {X : Type 0} (m : FinMap nat_cmp X) (v : X) → Contains (map.values m) v → (k : ℕ) × (map.get m k ≡ Some v)
value_at {X} m v c = All-contains P (map.values m) v (each_value P m (λ k w f. (k, f))) c
  where
    P : X → Type 0
    P w = (k : ℕ) × (map.get m k ≡ Some w)

first : (a b : Bool) → T (a && b) → T a
first true b p = tt
first false b p = p

second : (a b : Bool) → T (a && b) → T b
second true b p = p
second false b p = absurd p

not_tied : (o : Ordering) → T (is_lt o) → is_eq o ≡ false
not_tied Less p = refl
not_tied Equal p = absurd p
not_tied Greater p = absurd p

module _ {X : Type 0} (number : X → ℕ) where
  behind : (k : ℕ) (es : List (ℕ × X)) → T (below_all nat_cmp k es) → AllByRecursion (λ e. number e.1 ≡ e.0) es → AllByRecursion (λ n. k ≢ n) (map_list number (map_list (λ e. e.1) es))
  behind k [] h all = tt
  behind k (e ∷ es) h all = (apart, behind k es (second _ _ h) all.1)
    where
      apart : k ≢ number e.1
      apart same = true≢false (sym (tied-same k) ∙ ap (eq_by_cmp nat_cmp k) (same ∙ all.0) ∙ not_tied (nat_cmp k e.0) (first _ _ h))

  differ : (es : List (ℕ × X)) → T (is_sorted nat_cmp es) → AllByRecursion (λ e. number e.1 ≡ e.0) es → AllDiffer (map_list number (map_list (λ e. e.1) es))
  differ [] h all = tt
  differ (e ∷ es) h all =
      (subst (λ k. AllByRecursion (λ n. k ≢ n) (map_list number (map_list (λ e. e.1) es))) (sym all.0) (behind e.0 es (first _ _ h) all.1), differ es (second _ _ h) all.1)

  -- values that tell their keys tell each once
  pub numbers_differ : (m : FinMap nat_cmp X) → ((k : ℕ) (v : X) → map.get m k ≡ Some v → number v ≡ k) → AllDiffer (map_list number (map.values m))
  numbers_differ m keyed =
      differ (entries m) (entries_sorted m) (each_entry (λ e. number e.1 ≡ e.0) (entries m) (entries_sorted m) (λ k v f. keyed k v (get-entries m k ∙ f)))

-- a row of a tree stands at its ino
pub row_at : (tree : Rows) (row : Row) → ((ino : ℕ) (other : Row) → map.get tree ino ≡ Some other → other.ino ≡ ino) → Contains (map.values tree) row → map.get tree row.ino ≡ Some row
row_at tree row keyed c = let at = value_at tree row c in subst (λ k. map.get tree k ≡ Some row) (sym (keyed at.0 row at.1)) at.1
