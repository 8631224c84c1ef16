-- Names that come into a directory and go again.
use Rattle.std.proofs.Common.{◌≡◌, ℕ, Bool, true, false, cond, List, refl, sym, ap, ◌∙◌, Some, None, Option, true≢false}
use Rattle.std.specs.Prelude.{is_some}
use Rattle.std.specs.Option.{unwrap_or}
use Rattle.std.specs.Ordering.{nat_cmp, eq_by_cmp, is_eq}
use Rattle.std.specs.declared.cmp.Ordering.{Ordering}
use Rattle.std.specs.declared.cmp.Ordering.TheVariants.{Less, Equal, Greater}
use Rattle.std.specs.Cmp.{nat_cmp_total, IsTotalOrder}
use Rattle.std.specs.Cmp.Lexicographic.{nat_list_cmp_total}
use Rattle.std.specs.FinMap as map
use Rattle.std.specs.FinMap.{get-insert, get-remove, IsAntisymmetric, nat_cmp-IsAntisymmetric, slice_cmp-IsAntisymmetric}
use Rattle.f2_held.proofs.Lists.{tied-same}
use Rattle.f2_held.specs.Taken.{Names, names_of, bound, left}

module _ {K X : Type 0} {R : K → K → Ordering} (order : IsTotalOrder R) (anti : IsAntisymmetric R) (m : map.FinMap R X) (k : K) where
  pub tied : (q : K) → eq_by_cmp R q k ≡ true → q ≡ k
  tied q h = by_order (R q k) refl h
    where
      by_order : (o : Ordering) → R q k ≡ o → is_eq o ≡ true → q ≡ k
      by_order Less e h = absurd (true≢false (sym h))
      by_order Equal e h = anti q k e
      by_order Greater e h = absurd (true≢false (sym h))

  -- what is there may be put again
  put_there : (v : X) → map.get m k ≡ Some v → map.insert m k v ≡ m
  put_there v there = map.same_map order anti _ _ (λ q. get-insert order m k v q ∙ by_key q (eq_by_cmp R q k) refl)
    where
      by_key : (q : K) (b : Bool) → eq_by_cmp R q k ≡ b → cond b (Some v) (map.get m q) ≡ map.get m q
      by_key q true e = sym there ∙ ap (map.get m) (sym (tied q e))
      by_key q false e = refl

  other_key : (v : X) (q : K) → eq_by_cmp R q k ≡ false → map.get (map.insert m k v) q ≡ map.get m q
  other_key v q e = get-insert order m k v q ∙ ap (λ b. cond b (Some v) (map.get m q)) e

  -- what came in anew goes again
  taken_back : (v : X) → map.get m k ≡ None → map.remove (map.insert m k v) k ≡ m
  taken_back v free = map.same_map order anti _ _ (λ q. get-remove order (map.insert m k v) k q ∙ by_key q (eq_by_cmp R q k) refl)
    where
      by_key : (q : K) (b : Bool) → eq_by_cmp R q k ≡ b → cond b None (map.get (map.insert m k v) q) ≡ map.get m q
      by_key q true e = sym free ∙ ap (map.get m) (sym (tied q e))
      by_key q false e = other_key v q e

  -- what was replaced comes back
  put_back : (v was : X) → map.get m k ≡ Some was → map.insert (map.insert m k v) k was ≡ m
  put_back v was there = map.same_map order anti _ _ (λ q. get-insert order (map.insert m k v) k was q ∙ by_key q (eq_by_cmp R q k) refl)
    where
      by_key : (q : K) (b : Bool) → eq_by_cmp R q k ≡ b → cond b (Some was) (map.get (map.insert m k v) q) ≡ map.get m q
      by_key q true e = sym there ∙ ap (map.get m) (sym (tied q e))
      by_key q false e = other_key v q e

module _ (directories : map.FinMap nat_cmp Names) (parent : ℕ) (name : List ℕ) (there : map.contains_key directories parent ≡ true) where
  abbrev names : Names
  names = names_of directories parent

  names_there : map.get directories parent ≡ Some names
  names_there = by_names (map.get directories parent) there
    where
      by_names : (o : Option Names) → is_some o ≡ true → o ≡ Some (unwrap_or o map.empty)
      by_names None h = absurd (true≢false (sym h))
      by_names (Some ns) h = refl

  -- a name that is there is bound again
  pub bound_again : map.contains_key names name ≡ true → bound directories parent name ≡ directories
  bound_again in_there =
      ap (map.insert directories parent) (put_there nat_list_cmp_total (slice_cmp-IsAntisymmetric nat_cmp-IsAntisymmetric) names name tt (by_name (map.get names name) in_there))
      ∙ put_there nat_cmp_total nat_cmp-IsAntisymmetric directories parent names names_there
    where
      by_name : (o : Option (Unit {0})) → is_some o ≡ true → o ≡ Some tt
      by_name None h = absurd (true≢false (sym h))
      by_name (Some u) h = refl

  -- a new name goes as it came
  pub left_again : map.contains_key names name ≡ false → left (bound directories parent name) parent name ≡ directories
  left_again absent =
      ap (λ (ns : Names). map.insert (bound directories parent name) parent (map.remove ns name)) own
      ∙ ap (map.insert (bound directories parent name) parent) (taken_back nat_list_cmp_total (slice_cmp-IsAntisymmetric nat_cmp-IsAntisymmetric) names name tt (by_name (map.get names name) absent))
      ∙ put_back nat_cmp_total nat_cmp-IsAntisymmetric directories parent (map.insert names name tt) names names_there
    where
      by_name : (o : Option (Unit {0})) → is_some o ≡ false → o ≡ None
      by_name None h = refl
      by_name (Some u) h = absurd (true≢false h)

      own_key : eq_by_cmp nat_cmp parent parent ≡ true
      own_key = tied-same parent

      own : names_of (bound directories parent name) parent ≡ map.insert names name tt
      own = ap (λ o. unwrap_or o map.empty) (get-insert nat_cmp_total directories parent (map.insert names name tt) parent ∙ ap (λ b. cond b (Some (map.insert names name tt)) (map.get directories parent)) own_key)
