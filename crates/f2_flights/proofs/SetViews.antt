-- The keys of an ordered set, in their order, as a finite set.
use Rattle.std.proofs.Common.{◌≡◌, ◌==◌, ◌↔◌, IsTrue, arith, eqb→eq, true≢false, Bool, true, false, cond, not, ◌&&◌, ◌||◌, List, [], ◌∷◌, map, length, refl, sym, ap, subst, ◌∙◌}
use Rattle.std.specs.Prelude.{T, Option, Some, None}
use Rattle.std.specs.List.{AllByRecursion, list_any, filter}
use Rattle.std.specs.List.Sorted.{IsStrictlySortedBy}
use Rattle.std.specs.BTreeMap.{is_at}
use Rattle.std.specs.Ordering.{is_eq, is_lt, eq_by_cmp, ordering_then}
use Rattle.std.specs.declared.cmp.Ordering.{Ordering}
use Rattle.std.specs.declared.cmp.Ordering.TheVariants.{Less, Equal, Greater}
use Rattle.std.specs.Cmp.{tied_itself, both_ways, IsTotalOrder, nat_cmp_total, on_total, then_total, eq_by_cmp_equiv, Equal-is}
use Rattle.std.specs.FinMap as finite
use Rattle.std.specs.FinMap.{find, is_sorted, entries, from_sorted, get-from_sorted, entries-from_sorted}
use Rattle.std.specs.FinMap.Entries.{below_all}
use Rattle.std.specs.FinSet as set
use Rattle.std.specs.FinSet.{FinSet, IsAntisymmetric, from_list, nat_cmp-IsAntisymmetric, contains-from_list, contains-insert, contains-remove, contains-retain, same_set}
use Rattle.std.proofs.lemmas.Map.Made.{is_member-filter}
use Rattle.f2_model.proofs.RisingLemmas.{rises, contains-rising}
use Rattle.f2_model.specs.Rising.{rising}
use Rattle.f2_model.specs.State.{pair_cmp}

pub pair_cmp_total : IsTotalOrder pair_cmp
pair_cmp_total = then_total (on_total (λ pair. pair.0) nat_cmp_total) (on_total (λ pair. pair.1) nat_cmp_total)

both_equal : (a b : Ordering) → ordering_then a b ≡ Equal → (a ≡ Equal) × (b ≡ Equal)
both_equal Less b e = (e, absurd (subst (λ r. T (is_lt r)) e tt))
both_equal Equal b e = (refl, e)
both_equal Greater b e = (e, absurd (subst (λ r. elim r as (λ _. Type 0) [ Less ↦ Unit {0} | Equal ↦ ⊥ | Greater ↦ Unit {0} ]) e tt))

pub pair_cmp-IsAntisymmetric : IsAntisymmetric pair_cmp
pair_cmp-IsAntisymmetric x y e =
    let parts = both_equal _ _ e in
    let first : x.0 ≡ y.0 = nat_cmp-IsAntisymmetric x.0 y.0 parts.0 in
    let second : x.1 ≡ y.1 = nat_cmp-IsAntisymmetric x.1 y.1 parts.1 in
    λ i. (first i, second i)

put : (b x : Bool) → cond b true x ≡ (b || x)
put true x = refl
put false x = refl

taken : (b x : Bool) → cond b false x ≡ (not b && x)
taken true x = refl
taken false x = refl

module _ {K : Type 0} {R : K → K → Ordering} (o : IsTotalOrder R) where
  none_left : (ks : List K) (s : FinSet R) → from_list ks ≡ s → length ks ≡ 0 → set.len s ≡ 0
  none_left [] s seen e = ap set.len (sym seen) ∙ set.len-empty R
  none_left (k ∷ ks) s seen e = absurd (omega arith)

  no_keys : (ks : List K) → from_list {R = R} ks ≡ set.empty → length ks ≡ 0
  no_keys [] e = refl
  no_keys (k ∷ ks) e = absurd (true≢false (
      sym (contains-from_list o (k ∷ ks) k ∙ ap (λ r. is_eq r || list_any (eq_by_cmp R k) ks) (tied_itself o k))
      ∙ ap (λ t. set.contains t k) e ∙ set.contains-empty R k))

-- keys as entries with nothing at each
abbrev bare : {K : Type 0} → List K → List (K × Unit {0})
bare ks = map (λ k. (k, tt)) ks

bare-keys : {K : Type 0} (ks : List K) → map (λ e. e.0) (bare ks) ≡ ks
bare-keys [] = refl
bare-keys (k ∷ ks) = ap (λ rest. k ∷ rest) (bare-keys ks)

both_true : (a b : Bool) → T a → T b → T (a && b)
both_true true b p q = q
both_true false b p q = p

below_all-bare : {K : Type 0} (R : K → K → Ordering) (x : K) (ks : List K) → AllByRecursion (λ y. R x y ≡ Less) ks → T (below_all R x (bare ks))
below_all-bare R x [] h = tt
below_all-bare R x (k ∷ ks) h = both_true _ _ (subst (λ r. T (is_lt r)) (sym h.0) tt) (below_all-bare R x ks h.1)

is_sorted-bare : {K : Type 0} (R : K → K → Ordering) (ks : List K) → IsStrictlySortedBy R ks → T (is_sorted R (bare ks))
unfolding IsStrictlySortedBy
is_sorted-bare R [] h = tt
is_sorted-bare R (k ∷ ks) h = both_true _ _ (below_all-bare R k ks h.0) (is_sorted-bare R ks h.1)

abbrev there : Option (Unit {0})
there = Some tt

abbrev if_there : Bool → Option (Unit {0})
if_there b = cond b there None

either : (a b : Bool) → cond a there (if_there b) ≡ if_there (a || b)
either true b = refl
either false b = refl

find-bare : {K : Type 0} (R : K → K → Ordering) (q : K) (ks : List K) → find R q (bare ks) ≡ if_there (list_any (eq_by_cmp R q) ks)
find-bare R q [] = refl
find-bare R q (k ∷ ks) = ap (cond (is_eq (R q k)) there) (find-bare R q ks) ∙ either (is_eq (R q k)) (list_any (eq_by_cmp R q) ks)

-- two lists of rising keys that have the same keys are the same
same_keys : {K : Type 0} {R : K → K → Ordering} → IsTotalOrder R → IsAntisymmetric R → (ks ls : List K) → IsStrictlySortedBy R ks → IsStrictlySortedBy R ls
    → ((q : K) → list_any (eq_by_cmp R q) ks ≡ list_any (eq_by_cmp R q) ls) → ks ≡ ls
same_keys {R = R} o same ks ls rising rises alike =
    let first = is_sorted-bare R ks rising in
    let second = is_sorted-bare R ls rises in
    let one = finite.same_map o same (from_sorted (bare ks)) (from_sorted (bare ls)) (λ q.
    get-from_sorted R (bare ks) q first ∙ find-bare R q ks ∙ ap if_there (alike q)
    ∙ sym (get-from_sorted R (bare ls) q second ∙ find-bare R q ls)) in
    sym (bare-keys ks) ∙ ap (map (λ e. e.0)) (sym (entries-from_sorted R (bare ks) first) ∙ ap entries one ∙ entries-from_sorted R (bare ls) second) ∙ bare-keys ls

module _ {K : Type 0} {R : K → K → Ordering} (o : IsTotalOrder R) (same : IsAntisymmetric R) (ks : List K) (s : FinSet R) (seen : from_list ks ≡ s) where
  -- whether the keys have one
  pub keys-contains : (q : K) → list_any (is_at (R q)) ks ≡ set.contains s q
  keys-contains q = sym (contains-from_list o ks q) ∙ ap (λ t. set.contains t q) seen

  -- keys that differ at one key alone are seen as the set with that key put
  pub keys-insert : (ls : List K) (k : K) → ((q : K) → list_any (is_at (R q)) ls ≡ cond (is_at (R k) q) true (list_any (is_at (R q)) ks)) → from_list ls ≡ set.insert s k
  keys-insert ls k h = same_set o same _ _ (λ q.
      contains-from_list o ls q ∙ h q ∙ put (is_at (R k) q) _
      ∙ ap (λ b. b || list_any (is_at (R q)) ks) ((eq_by_cmp_equiv o).symm k q)
      ∙ ap (λ b. eq_by_cmp R q k || b) (keys-contains q)
      ∙ sym (contains-insert o s k q))

  -- and the same of a key taken out
  pub keys-remove : (ls : List K) (k : K) → ((q : K) → list_any (is_at (R q)) ls ≡ cond (is_at (R k) q) false (list_any (is_at (R q)) ks)) → from_list ls ≡ set.remove s k
  keys-remove ls k h = same_set o same _ _ (λ q.
      contains-from_list o ls q ∙ h q ∙ taken (is_at (R k) q) _
      ∙ ap (λ b. not b && list_any (is_at (R q)) ks) ((eq_by_cmp_equiv o).symm k q)
      ∙ ap (λ b. not (eq_by_cmp R q k) && b) (keys-contains q)
      ∙ sym (contains-remove o s k q))

  -- and of the keys that pass a test
  pub keys-retain : (ls : List K) (p : K → Bool) → ls ≡ filter p ks → from_list ls ≡ set.retain s p
  keys-retain ls p h = same_set o same _ _ (λ q.
      contains-from_list o ls q ∙ ap (list_any (eq_by_cmp R q)) h
      ∙ is_member-filter (eq_by_cmp_equiv o) p q (λ x t. ap p (same q x ((Equal-is (R q x)).0 t))) ks
      ∙ ap (λ b. b && p q) (keys-contains q)
      ∙ sym (contains-retain s p q (λ x t. ap p (sym (same q x t)))))

  -- the keys in order are the set's members, rising
  pub keys-items : IsStrictlySortedBy R ks → ks ≡ rising s
  keys-items h = same_keys o same ks (rising s) h (rises s) (λ q. keys-contains q ∙ contains-rising o s q)

  -- there is no key exactly where the set has none
  pub keys-empty : (b : Bool) → IsTrue b ↔ (length ks ≡ 0) → b ≡ (set.len s == 0)
  keys-empty b h = both_ways b (set.len s == 0) (λ t. ap (λ n. n == 0) (none_left o ks s seen (h.0 t))) (λ t. h.1 (no_keys o ks (seen ∙ set.empty_of_len s (eqb→eq (set.len s) 0 (subst T (sym t) tt)))))
