-- A tree's keys in their order.
use Rattle.std.proofs.Common.{◌≡◌, ℕ, Bool, true, false, ◌&&◌, T, List, [], ◌∷◌, length, ap, sym, subst, ◌∙◌}
use Rattle.std.specs.Prelude.{map as list_map}
use Rattle.std.specs.Ordering.{nat_cmp, is_lt}
use Rattle.std.specs.declared.cmp.Ordering.{Ordering}
use Rattle.std.specs.declared.cmp.Ordering.TheVariants.{Less}
use Rattle.std.specs.Cmp.{nat_cmp_total}
use Rattle.std.specs.List.{AllByRecursion}
use Rattle.std.specs.List.Sorted.{IsStrictlySortedBy}
use Rattle.std.specs.FinMap as map
use Rattle.std.specs.FinMap.{nat_cmp-IsAntisymmetric}
use Rattle.std.specs.FinMap.Entries.{is_sorted, below_all, same_entries}
use Rattle.f2_index.proofs.Tables.{view}

less_is : (o : Ordering) → o ≡ Less → T (is_lt o)
less_is o e = subst (λ p. T (is_lt p)) (sym e) tt

both_of : (a b : Bool) → T a → T b → T (a && b)
both_of true b p q = q
both_of false b p q = p

below_each : {X : Type 0} (k : ℕ) (es : List (ℕ × X)) → AllByRecursion (λ q. nat_cmp k q ≡ Less) (list_map (λ (e : ℕ × X). e.0) es) → T (below_all nat_cmp k es)
below_each k [] h = tt
below_each k (e ∷ es) h = both_of (is_lt (nat_cmp k e.0)) (below_all nat_cmp k es) (less_is (nat_cmp k e.0) h.0) (below_each k es h.1)

sorted_entries : {X : Type 0} (es : List (ℕ × X)) → IsStrictlySortedBy nat_cmp (list_map (λ (e : ℕ × X). e.0) es) → T (is_sorted nat_cmp es)
unfolding IsStrictlySortedBy
sorted_entries [] h = tt
sorted_entries (e ∷ es) h = both_of (below_all nat_cmp e.0 es) (is_sorted nat_cmp es) (below_each e.0 es h.0) (sorted_entries es h.1)

-- a map made of entries in order has these entries
entries-view : {X : Type 0} (es : List (ℕ × X)) → IsStrictlySortedBy nat_cmp (list_map (λ (e : ℕ × X). e.0) es) → map.entries (view es) ≡ es
entries-view es sorted =
    same_entries nat_cmp nat_cmp_total nat_cmp-IsAntisymmetric (map.entries (view es)) es (map.entries_sorted (view es)) (sorted_entries es sorted)
    (λ q. sym (map.get-entries (view es) q) ∙ map.get-from_entries nat_cmp_total es q)

pub len-view : {X : Type 0} (es : List (ℕ × X)) → IsStrictlySortedBy nat_cmp (list_map (λ (e : ℕ × X). e.0) es) → map.len (view es) ≡ length es
len-view es sorted = map.len-entries (view es) ∙ ap (λ xs. length xs) (entries-view es sorted)
