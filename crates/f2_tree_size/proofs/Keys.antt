-- The keys of a map rise, and two maps that have the same keys have them in one order.
use Rattle.std.proofs.Common.{◌≡◌, ℕ, Bool, true, false, ◌&&◌, T, List, [], ◌∷◌, refl, sym, ◌∙◌}
use Rattle.std.specs.Prelude.{map as map_list}
use Rattle.std.specs.List.{AllByRecursion}
use Rattle.std.specs.List.Sorted.{IsStrictlySortedBy}
use Rattle.std.specs.Ordering.{nat_cmp, is_lt}
use Rattle.std.specs.Cmp.{nat_cmp_total}
use Rattle.std.specs.declared.cmp.Ordering.{Ordering}
use Rattle.std.specs.declared.cmp.Ordering.TheVariants.{Less, Equal, Greater}
use Rattle.std.specs.FinMap as map
use Rattle.std.specs.FinMap.{FinMap, nat_cmp-IsAntisymmetric, is_sorted}
use Rattle.std.specs.FinMap.Entries.{below_all}
use Rattle.std.specs.FinSet as set
use Rattle.f2_model.proofs.RisingLemmas.{rising-is}

first : (a b : Bool) → T (a && b) → T a
first true b h = tt
first false b h = absurd h

second : (a b : Bool) → T (a && b) → T b
second true b h = h
second false b h = absurd h

less : (o : Ordering) → T (is_lt o) → o ≡ Less
less Less h = refl
less Equal h = absurd h
less Greater h = absurd h

module _ {K X : Type 0} (R : K → K → Ordering) where
  keys_below : (x : K) (es : List (K × X)) → T (below_all R x es) → AllByRecursion (λ y. R x y ≡ Less) (map_list (λ (e : K × X). e.0) es)
  keys_below x [] h = tt
  keys_below x (e ∷ es) h = (less _ (first _ _ h), keys_below x es (second _ _ h))

  sorted : (es : List (K × X)) → T (is_sorted R es) → IsStrictlySortedBy R (map_list (λ (e : K × X). e.0) es)
  unfolding IsStrictlySortedBy
  sorted [] h = tt
  sorted (e ∷ es) h = (keys_below e.0 es (first _ _ h), sorted es (second _ _ h))

  pub keys_rise : (m : FinMap R X) → IsStrictlySortedBy R (map.keys m)
  keys_rise m = sorted (map.entries m) (map.entries_sorted m)

pub same_keys : {X Y : Type 0} (m : FinMap nat_cmp X) (n : FinMap nat_cmp Y) → ((k : ℕ) → map.contains_key m k ≡ map.contains_key n k) → map.keys m ≡ map.keys n
same_keys m n same =
    let members = set.from_list {R = nat_cmp} (map.keys m) in
    let there = set.contains-from_list nat_cmp_total (map.keys m) in
    sym (rising-is nat_cmp_total nat_cmp-IsAntisymmetric members (map.keys m) (keys_rise nat_cmp m) there)
    ∙ rising-is nat_cmp_total nat_cmp-IsAntisymmetric members (map.keys n) (keys_rise nat_cmp n) (λ q. there q ∙ sym (map.contains_key-keys m q) ∙ same q ∙ map.contains_key-keys n q)
