-- The keys of maps: they differ, and are those at which something is found.
use Rattle.std.proofs.Common.{◌≡◌, Bool, true, false, T, ◌&&◌, List, [], ◌∷◌, map as map_list, refl, sym, ap, ◌∙◌, subst, true≢false}
use Rattle.std.specs.Prelude.{IsSome}
use Rattle.std.specs.List.{AllByRecursion}
use Rattle.std.specs.List.Sorted.{IsStrictlySortedBy}
use Rattle.std.specs.Ordering.{eq_by_cmp, is_eq, is_lt, ordering_then}
use Rattle.std.specs.Cmp.{IsTotalOrder, nat_cmp_total, on_total, then_total, tied_itself}
use Rattle.std.specs.declared.cmp.Ordering.{Ordering}
use Rattle.std.specs.declared.cmp.Ordering.TheVariants.{Less, Equal, Greater}
use Rattle.std.specs.FinMap as map
use Rattle.std.specs.FinMap.{IsAntisymmetric, nat_cmp-IsAntisymmetric}
use Rattle.std.specs.FinMap.Entries.{below_all, is_sorted}
use Rattle.f2_model.specs.State.{pair_cmp}
use Rattle.f2_image.specs.Reached.{AllDiffer}
use Rattle.f2_block_laws.proofs.Members.{IsIn, in_any, from_any}
use Rattle.f2_block_laws.proofs.Differ.{rising_differ}

first : (a b : Bool) → T (a && b) → T a
first true b h = tt
first false b h = absurd h

second : (a b : Bool) → T (a && b) → T b
second true b h = h
second false b h = absurd h

less : (o : Ordering) → T (is_lt o) → o ≡ Less
less Less h = refl
less Equal h = absurd h
less Greater h = absurd h

is_equal : (o : Ordering) → is_eq o ≡ true → o ≡ Equal
is_equal Less e = absurd (true≢false (sym e))
is_equal Equal e = refl
is_equal Greater e = absurd (true≢false (sym e))

module _ {K X : Type 0} (R : K → K → Ordering) where
  keys_below : (x : K) (es : List (K × X)) → T (below_all R x es) → AllByRecursion (λ y. R x y ≡ Less) (map_list (λ e. e.0) es)
  keys_below x [] h = tt
  keys_below x (e ∷ es) h = (less _ (first _ _ h), keys_below x es (second _ _ h))

  keys_rise : (es : List (K × X)) → T (is_sorted R es) → IsStrictlySortedBy R (map_list (λ e. e.0) es)
  unfolding IsStrictlySortedBy
  keys_rise [] h = tt
  keys_rise (e ∷ es) h = (keys_below e.0 es (first _ _ h), keys_rise es (second _ _ h))

module _ {K X : Type 0} {R : K → K → Ordering} (o : IsTotalOrder R) (m : map.FinMap R X) where
  pub keys_differ : AllDiffer (map.keys m)
  keys_differ = rising_differ o (map.keys m) (keys_rise R (map.entries m) (map.entries_sorted m))

  pub from_keys : (q : K) → IsIn q (map.keys m) → IsSome (map.get m q)
  from_keys q there =
      let tied : eq_by_cmp R q q ≡ true = ap is_eq (tied_itself o q) in
      map.contains_key-keys m q ∙ in_any (eq_by_cmp R q) q (map.keys m) tied there

-- a key that is found
module _ {K X : Type 0} {R : K → K → Ordering} (anti : IsAntisymmetric R) (m : map.FinMap R X) where
  pub key_of : (q : K) → IsSome (map.get m q) → IsIn q (map.keys m)
  key_of q there =
      let found = from_any (eq_by_cmp R q) (map.keys m) (sym (map.contains_key-keys m q) ∙ there) in
      subst (λ k. IsIn k (map.keys m)) (sym (anti q found.0 (is_equal (R q found.0) found.2))) found.1

-- pairs of numbers
pub pair_cmp_total : IsTotalOrder pair_cmp
pair_cmp_total = then_total (on_total (λ pair. pair.0) nat_cmp_total) (on_total (λ pair. pair.1) nat_cmp_total)

both_equal : (a b : Ordering) → ordering_then a b ≡ Equal → (a ≡ Equal) × (b ≡ Equal)
both_equal Less b e = absurd (cc)
both_equal Equal b e = (refl, e)
both_equal Greater b e = absurd (cc)

pub pair_cmp_equal : IsAntisymmetric pair_cmp
pair_cmp_equal x y e =
    let parts = both_equal _ _ e in
    let left : x.0 ≡ y.0 = nat_cmp-IsAntisymmetric x.0 y.0 parts.0 in
    let right : x.1 ≡ y.1 = nat_cmp-IsAntisymmetric x.1 y.1 parts.1 in
    λ i. (left i, right i)
