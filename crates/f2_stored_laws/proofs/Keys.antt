-- Numbers that differ and are all keys of a map are no more than it has.
use Rattle.std.proofs.Common.{◌≡◌, ◌≢◌, ℕ, ◌-◌, ◌≤◌, cond, List, [], ◌∷◌, length, sym, ap, ◌∙◌, arith}
use Rattle.std.specs.Prelude.{Some, None, is_some}
use Rattle.std.specs.List.{AllByRecursion}
use Rattle.std.specs.Ordering.{nat_cmp}
use Rattle.std.specs.Cmp.{nat_cmp_total, unsigned_tied}
use Rattle.std.specs.FinMap as map
use Rattle.std.proofs.lemmas.Bool.{ne_eqb}
use Rattle.std.proofs.lemmas.Option.{none-some}
use Rattle.f2_image.specs.Reached.{AllDiffer}

module _ {X : Type 0} where
  abbrev pub IsKey : map.FinMap nat_cmp X → ℕ → Type 0
  IsKey m k = (x : X) × (map.get m k ≡ Some x)

  some_key : (m : map.FinMap nat_cmp X) (k : ℕ) → IsKey m k → map.len m ≢ 0
  some_key m k has none = none-some has.0 (sym (map.get-empty nat_cmp k) ∙ ap (λ m. map.get m k) (sym (map.empty_of_len m none)) ∙ has.1)

  key_stays : (m : map.FinMap nat_cmp X) (k q : ℕ) → k ≢ q → IsKey m q → IsKey (map.remove m k) q
  key_stays m k q differ has = (has.0, map.get-remove nat_cmp_total m k q ∙ ap (λ b. cond b None (map.get m q)) (unsigned_tied q k ∙ ne_eqb q k (λ e. differ (sym e))) ∙ has.1)

  keys_stay : (m : map.FinMap nat_cmp X) (k : ℕ) (ks : List ℕ) → AllByRecursion (λ q. k ≢ q) ks → AllByRecursion (IsKey m) ks → AllByRecursion (IsKey (map.remove m k)) ks
  keys_stay m k [] differ all = tt
  keys_stay m k (q ∷ ks) differ all = (key_stays m k q differ.0 all.0, keys_stay m k ks differ.1 all.1)

  one_less : (m : map.FinMap nat_cmp X) (k : ℕ) → IsKey m k → map.len (map.remove m k) ≡ map.len m - 1
  one_less m k has = map.len-remove nat_cmp_total m k ∙ ap (λ o. cond (is_some o) (map.len m - 1) (map.len m)) has.1

  pub no_more_keys : (m : map.FinMap nat_cmp X) (ks : List ℕ) → AllDiffer ks → AllByRecursion (IsKey m) ks → length ks ≤ map.len m
  no_more_keys m [] differ all = omega arith
  no_more_keys m (k ∷ ks) differ all =
      let rest = no_more_keys (map.remove m k) ks differ.1 (keys_stay m k ks differ.0 all.1) in
      let less = one_less m k all.0 in
      let some = some_key m k all.0 in
      omega (arith, rest, less, some)
