-- How many keys a map has.
use Rattle.std.proofs.Common.{◌≡◌, ◌≢◌, ℕ, zero, suc, ◌<◌, ◌≤◌, cond, List, [], ◌∷◌, length, refl, sym, ap, ◌∙◌, arith, eq-eqb}
use Rattle.std.specs.Prelude.{Some}
use Rattle.std.specs.List.{AllByRecursion}
use Rattle.std.specs.Ordering.{nat_cmp}
use Rattle.std.specs.Cmp.{unsigned_tied}
use Rattle.std.specs.FinMap as map
use Rattle.std.specs.FinMap.{FinMap, find, get-entries, len-entries}
use Rattle.f2_image.specs.Reached.{AllDiffer}
use Rattle.f2_overlay.proofs.Maps.{get_taken-other, taken_cases, one_fewer}

module _ {X : Type 0} where
  -- a key has a value
  abbrev pub HasValue : FinMap nat_cmp X → ℕ → Type 0
  HasValue m k = (v : X) × (map.get m k ≡ Some v)

  -- keys that differ are no more than all
  still : (m : FinMap nat_cmp X) (k : ℕ) (list : List ℕ) → AllByRecursion (λ q. k ≢ q) list → AllByRecursion (HasValue m) list → AllByRecursion (HasValue (map.remove m k)) list
  still m k [] apart all = tt
  still m k (q ∷ list) apart all = ((all.0.0, get_taken-other m k q (λ same. apart.0 (sym same)) ∙ all.0.1), still m k list apart.1 all.1)

  pub no_more : (m : FinMap nat_cmp X) (list : List ℕ) → AllDiffer list → AllByRecursion (HasValue m) list → length list ≤ map.len m
  no_more m [] differ all = omega arith
  no_more m (k ∷ list) differ all =
      let rest = no_more (map.remove m k) list differ.1 (still m k list differ.0 all.1) in
      let fewer = one_fewer m k all.0.0 all.0.1 in
      omega (arith, rest, fewer)

  -- as many keys as there are, no two the same
  pub record HasKeys (m : FinMap nat_cmp X) (n : ℕ) : Type 0 where
    pub list : List ℕ
    pub long : length list ≡ n
    pub differ : AllDiffer list
    pub all : AllByRecursion (HasValue m) list

  -- a key that is there
  record HasKey (m : FinMap nat_cmp X) : Type 0 where
    key : ℕ
    has : HasValue m key

  first_key : (m : FinMap nat_cmp X) (es : List (ℕ × X)) → map.entries m ≡ es → 0 < length es → HasKey m
  first_key m [] are some = absurd (omega (arith, some))
  first_key m (e ∷ es) are some = record {
    key = e.0;
    has = (e.1, get-entries m e.0 ∙ ap (find nat_cmp e.0) are ∙ ap (λ b. cond b (Some e.1) (find nat_cmp e.0 es)) (unsigned_tied e.0 e.0 ∙ eq-eqb e.0 e.0 refl));
  }

  differs : (m : FinMap nat_cmp X) (k : ℕ) (list : List ℕ) → AllByRecursion (HasValue (map.remove m k)) list → AllByRecursion (λ q. k ≢ q) list
  differs m k [] all = tt
  differs m k (q ∷ list) all = ((λ same. (taken_cases m k q all.0.0 all.0.1).0 (sym same)), differs m k list all.1)

  were : (m : FinMap nat_cmp X) (k : ℕ) (list : List ℕ) → AllByRecursion (HasValue (map.remove m k)) list → AllByRecursion (HasValue m) list
  were m k [] all = tt
  were m k (q ∷ list) all = ((all.0.0, (taken_cases m k q all.0.0 all.0.1).1), were m k list all.1)

  pub keys_of : (n : ℕ) (m : FinMap nat_cmp X) → n ≤ map.len m → HasKeys m n
  keys_of zero m most = record { list = []; long = refl; differ = tt; all = tt }
  keys_of (suc n) m most =
      let one = first_key m (map.entries m) refl (let long = len-entries m in omega (arith, most, long)) in
      let fewer = one_fewer m one.key one.has.0 one.has.1 in
      let others = keys_of n (map.remove m one.key) (omega (arith, most, fewer)) in
      record {
        list = one.key ∷ others.list;
        long = ap suc others.long;
        differ = (differs m one.key others.list others.all, others.differ);
        all = (one.has, were m one.key others.list others.all);
      }
