-- The entries of a map: each is found at its key, and what is found is among the values.
use Rattle.std.proofs.Common.{◌≡◌, ◌⊎◌, inl, inr, Bool, true, false, cond, ◌&&◌, List, [], ◌∷◌, map as map_list, refl, sym, ap, ◌∙◌, Some, None, true≢false}
use Rattle.std.specs.Prelude.{T}
use Rattle.std.specs.Option.{option_map}
use Rattle.std.specs.List.{AllByRecursion, filter}
use Rattle.std.specs.Ordering.{eq_by_cmp, is_eq, is_lt, ordering_reverse}
use Rattle.std.specs.Cmp.{IsTotalOrder, alike_right, tied_itself, Equal-is}
use Rattle.std.specs.declared.cmp.Ordering.{Ordering}
use Rattle.std.specs.declared.cmp.Ordering.TheVariants.{Less, Equal, Greater}
use Rattle.std.specs.FinMap.{FinMap, entries, entries_sorted, find, get, get-entries, is_sorted}
use Rattle.std.specs.FinMap.Entries.{below_all}

first : (a b : Bool) → T (a && b) → T a
first true b p = tt
first false b p = p

second : (a b : Bool) → T (a && b) → T b
second true b p = p
second false b p = absurd p

less : (o : Ordering) → T (is_lt o) → o ≡ Less
less Less p = refl
less Equal p = absurd p
less Greater p = absurd p

none_some : {X : Type 0} (x : X) → None ≡ Some x → ⊥
none_some x e = cc

pub some_same : {X : Type 0} (x y : X) → Some x ≡ Some y → x ≡ y
some_same x y e = cc

-- a thing stands in a list
abbrev pub IsIn : {X : Type 0} → X → List X → Type 0
IsIn x [] = ⊥
IsIn x (y ∷ ys) = (x ≡ y) ⊎ IsIn x ys

module _ {K X : Type 0} (R : K → K → Ordering) (total : IsTotalOrder R) where
  -- a key that is found behind another isn't tied to it
  apart : (k x : K) (v : X) (es : List (K × X)) → T (below_all R x es) → find R k es ≡ Some v → eq_by_cmp R k x ≡ false
  apart k x v [] below found = absurd (none_some v found)
  apart k x v (e ∷ es) below found =
      (elim (eq_by_cmp R k e.0) as (λ b. eq_by_cmp R k e.0 ≡ b → cond b (Some e.1) (find R k es) ≡ Some v → eq_by_cmp R k x ≡ false) [
        | true ↦ λ tied is.
            let under : R x k ≡ Less = alike_right total k e.0 x ((Equal-is (R k e.0)).0 tied) ∙ less (R x e.0) (first (is_lt (R x e.0)) (below_all R x es) below) in
            ap is_eq (total.antisymm k x ∙ ap ordering_reverse under)
        | false ↦ λ tied is. apart k x v es (second (is_lt (R x e.0)) (below_all R x es) below) is
      ]) refl found

  -- what holds of each key with what is found there holds of each entry
  each_found : (P : K × X → Type 0) (es : List (K × X)) → T (is_sorted R es) → ((k : K) (v : X) → find R k es ≡ Some v → P (k, v)) → AllByRecursion P es
  each_found P [] sorted holds = tt
  each_found P (e ∷ es) sorted holds = (
    holds e.0 e.1 (ap (λ o. cond (is_eq o) (Some e.1) (find R e.0 es)) (tied_itself total e.0)),
    each_found P es (second (below_all R e.0 es) (is_sorted R es) sorted)
        (λ k v found. holds k v (ap (λ b. cond b (Some e.1) (find R k es)) (apart k e.0 v es (first (below_all R e.0 es) (is_sorted R es) sorted) found) ∙ found)),
  )

  pub each_entry : (P : K × X → Type 0) (m : FinMap R X) → ((k : K) (v : X) → get m k ≡ Some v → P (k, v)) → AllByRecursion P (entries m)
  each_entry P m holds = each_found P (entries m) (entries_sorted m) (λ k v found. holds k v (get-entries m k ∙ found))

  -- entries whose values are seen through f are as sorted, and give what f makes of what is found
  module _ {Y : Type 0} (f : X → Y) where
    abbrev pub seen : List (K × X) → List (K × Y)
    seen es = map_list (λ e. (e.0, f e.1)) es

    pub find-seen : (k : K) (es : List (K × X)) → find R k (seen es) ≡ option_map f (find R k es)
    find-seen k [] = refl
    find-seen k (e ∷ es) =
        elim (eq_by_cmp R k e.0) as (λ b. cond b (Some (f e.1)) (find R k (seen es)) ≡ option_map f (cond b (Some e.1) (find R k es))) [
          | true ↦ refl
          | false ↦ find-seen k es
        ]

    below-seen : (x : K) (es : List (K × X)) → below_all R x (seen es) ≡ below_all R x es
    below-seen x [] = refl
    below-seen x (e ∷ es) = ap (λ b. is_lt (R x e.0) && b) (below-seen x es)

    pub sorted-seen : (es : List (K × X)) → is_sorted R (seen es) ≡ is_sorted R es
    sorted-seen [] = refl
    sorted-seen (e ∷ es) = λ i. below-seen e.0 es i && sorted-seen es i

-- what a test keeps of a list with one thing more
kept_here : {X : Type 0} (v y : X) (rest : List X) (b : Bool) → b ≡ true → v ≡ y → IsIn v (cond b (y ∷ rest) rest)
kept_here v y rest true passes same = inl same
kept_here v y rest false passes same = absurd (true≢false (sym passes))

kept_later : {X : Type 0} (v y : X) (rest : List X) (b : Bool) → IsIn v rest → IsIn v (cond b (y ∷ rest) rest)
kept_later v y rest true there = inr there
kept_later v y rest false there = there

kept_all : {X : Type 0} (P : X → Type 0) (y : X) (rest : List X) (b : Bool) → (b ≡ true → P y) → AllByRecursion P rest → AllByRecursion P (cond b (y ∷ rest) rest)
kept_all P y rest true holds there = (holds refl, there)
kept_all P y rest false holds there = there

module _ {K X : Type 0} (R : K → K → Ordering) where
  -- a value that is found and passes a test is among those that pass it
  found_in : (p : X → Bool) (k : K) (v : X) (es : List (K × X)) → find R k es ≡ Some v → p v ≡ true → IsIn v (filter p (map_list (λ e. e.1) es))
  found_in p k v [] found passes = absurd (none_some v found)
  found_in p k v (e ∷ es) found passes =
      elim (eq_by_cmp R k e.0) as (λ b. cond b (Some e.1) (find R k es) ≡ Some v → IsIn v (cond (p e.1) (e.1 ∷ filter p (map_list (λ e. e.1) es)) (filter p (map_list (λ e. e.1) es)))) [
        | true ↦ λ is. let same = some_same e.1 v is in kept_here v e.1 _ (p e.1) (ap p same ∙ passes) (sym same)
        | false ↦ λ is. kept_later v e.1 _ (p e.1) (found_in p k v es is passes)
      ] found

  pub value_in : (p : X → Bool) (k : K) (v : X) (m : FinMap R X) → get m k ≡ Some v → p v ≡ true → IsIn v (filter p (map_list (λ e. e.1) (entries m)))
  value_in p k v m found passes = found_in p k v (entries m) (sym (get-entries m k) ∙ found) passes

-- what holds of each entry that passes holds of each value that passes
pub each_passing : {K X : Type 0} (p : X → Bool) (P : X → Type 0) (es : List (K × X)) → AllByRecursion (λ e. p e.1 ≡ true → P e.1) es → AllByRecursion P (filter p (map_list (λ e. e.1) es))
each_passing p P [] h = tt
each_passing p P (e ∷ es) h = kept_all P e.1 (filter p (map_list (λ e. e.1) es)) (p e.1) h.0 (each_passing p P es h.1)
