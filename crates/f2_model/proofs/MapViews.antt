-- The entries of an ordered map, in the order of their keys, as a finite map.
use Rattle.std.proofs.Common.{◌≡◌, ℕ, Bool, true, false, cond, ◌&&◌, List, [], ◌∷◌, map, length, refl, sym, ap, subst, ◌∙◌}
use Rattle.std.specs.Prelude.{T}
use Rattle.std.specs.Prelude.{Option, Some, None, suc}
use Rattle.std.specs.Option.{option_map}
use Rattle.std.specs.List.{AllByRecursion}
use Rattle.std.specs.List.Sorted.{IsStrictlySortedBy}
use Rattle.std.specs.Map.{lookup, keys_of, values_of}
use Rattle.std.specs.BTreeMap.{is_at}
use Rattle.std.specs.Ordering.{nat_cmp, is_eq, is_lt}
use Rattle.std.specs.declared.cmp.Ordering.TheVariants.{Less, Equal}
use Rattle.std.specs.Cmp.{nat_cmp_total, eq_by_cmp_equiv}
use Rattle.std.specs.FinMap as finite
use Rattle.std.specs.FinMap.{FinMap, find, is_sorted, entries, from_entries, from_sorted, nat_cmp-IsAntisymmetric, same_map, get-from_entries, get-from_sorted, entries-from_sorted, get-insert, get-remove, len-entries, get-retain_keys}
use Rattle.std.specs.FinMap.Entries.{below_all, where_key, find-where_key}

-- the finite map finds what a look-up among the entries finds
pub lookup-find : {X : Type 0} (q : ℕ) (es : List (ℕ × X)) → lookup (is_at (nat_cmp q)) es ≡ find nat_cmp q es
lookup-find q [] = refl
lookup-find q (e ∷ es) = ap (cond (is_eq (nat_cmp q e.0)) (Some e.1)) (lookup-find q es)

both_true : (a b : Bool) → T a → T b → T (a && b)
both_true true b p q = q
both_true false b p q = p

below_all-from_keys : {X : Type 0} (x : ℕ) (es : List (ℕ × X)) → AllByRecursion (λ y. nat_cmp x y ≡ Less) (keys_of es) → T (below_all nat_cmp x es)
below_all-from_keys x [] h = tt
below_all-from_keys x (e ∷ es) h = both_true _ _ (subst (λ r. T (is_lt r)) (sym h.0) tt) (below_all-from_keys x es h.1)

-- keys in order are sorted as the finite map tests it
is_sorted-from_keys : {X : Type 0} (es : List (ℕ × X)) → IsStrictlySortedBy nat_cmp (keys_of es) → T (is_sorted nat_cmp es)
unfolding IsStrictlySortedBy
is_sorted-from_keys [] h = tt
is_sorted-from_keys (e ∷ es) h = both_true _ _ (below_all-from_keys e.0 es h.0) (is_sorted-from_keys es h.1)

-- the finite map of entries in order has these entries
pub entries-from_ordered : {X : Type 0} (es : List (ℕ × X)) → IsStrictlySortedBy nat_cmp (keys_of es) → entries (from_entries {R = nat_cmp} es) ≡ es
entries-from_ordered es h =
    let sorted = is_sorted-from_keys es h in
    let same = same_map nat_cmp_total nat_cmp-IsAntisymmetric (from_entries es) (from_sorted es) (λ q. get-from_entries nat_cmp_total es q ∙ sym (get-from_sorted nat_cmp es q sorted)) in
    ap entries same ∙ entries-from_sorted nat_cmp es sorted

module _ {X : Type 0} (es : List (ℕ × X)) (m : FinMap nat_cmp X) (seen : from_entries es ≡ m) where
  pub lookup-seen : (q : ℕ) → lookup (is_at (nat_cmp q)) es ≡ finite.get m q
  lookup-seen q = lookup-find q es ∙ sym (get-from_entries nat_cmp_total es q) ∙ ap (λ n. finite.get n q) seen

  pub entries-seen : IsStrictlySortedBy nat_cmp (keys_of es) → es ≡ entries m
  entries-seen h = sym (entries-from_ordered es h) ∙ ap entries seen

  pub length-seen : IsStrictlySortedBy nat_cmp (keys_of es) → length es ≡ finite.len m
  length-seen h = ap length (entries-seen h) ∙ sym (len-entries m)

  pub keys_of-seen : IsStrictlySortedBy nat_cmp (keys_of es) → keys_of es ≡ finite.keys m
  keys_of-seen h = ap keys_of (entries-seen h)

  pub values_of-seen : IsStrictlySortedBy nat_cmp (keys_of es) → values_of es ≡ finite.values m
  values_of-seen h = ap values_of (entries-seen h)

  -- entries that differ at one key alone are seen as the map with that key put
  pub seen-insert : (fs : List (ℕ × X)) (k : ℕ) (v : X) → ((q : ℕ) → lookup (is_at (nat_cmp q)) fs ≡ cond (is_at (nat_cmp k) q) (Some v) (lookup (is_at (nat_cmp q)) es)) → from_entries fs ≡ finite.insert m k v
  seen-insert fs k v h = same_map nat_cmp_total nat_cmp-IsAntisymmetric _ _ (λ q.
      get-from_entries nat_cmp_total fs q ∙ sym (lookup-find q fs) ∙ h q
      ∙ ap (cond (is_at (nat_cmp k) q) (Some v)) (lookup-seen q)
      ∙ ap (λ b. cond b (Some v) (finite.get m q)) ((eq_by_cmp_equiv nat_cmp_total).symm k q)
      ∙ sym (get-insert nat_cmp_total m k v q))

  -- the same of a key taken out
  pub seen-remove : (fs : List (ℕ × X)) (k : ℕ) → ((q : ℕ) → lookup (is_at (nat_cmp q)) fs ≡ cond (is_at (nat_cmp k) q) None (lookup (is_at (nat_cmp q)) es)) → from_entries fs ≡ finite.remove m k
  seen-remove fs k h = same_map nat_cmp_total nat_cmp-IsAntisymmetric _ _ (λ q.
      get-from_entries nat_cmp_total fs q ∙ sym (lookup-find q fs) ∙ h q
      ∙ ap (cond (is_at (nat_cmp k) q) None) (lookup-seen q)
      ∙ ap (λ b. cond b None (finite.get m q)) ((eq_by_cmp_equiv nat_cmp_total).symm k q)
      ∙ sym (get-remove nat_cmp_total m k q))

-- the entries, with f of each value
abbrev pub shown : {A X : Type 0} → (A → X) → List (ℕ × A) → List (ℕ × X)
shown f es = map (λ e. (e.0, f e.1)) es

lookup-shown : {A X : Type 0} (f : A → X) (test : ℕ → Bool) (es : List (ℕ × A)) → lookup test (shown f es) ≡ option_map f (lookup test es)
lookup-shown f test [] = refl
lookup-shown f test (e ∷ es) =
    elim (test e.0) as (λ b. cond b (Some (f e.1)) (lookup test (shown f es)) ≡ option_map f (cond b (Some e.1) (lookup test es))) [ true ↦ refl | false ↦ lookup-shown f test es ]

keys_of-shown : {A X : Type 0} (f : A → X) (es : List (ℕ × A)) → keys_of (shown f es) ≡ keys_of es
keys_of-shown f [] = refl
keys_of-shown f (e ∷ es) = ap (λ ks. e.0 ∷ ks) (keys_of-shown f es)

length-shown : {A X : Type 0} (f : A → X) (es : List (ℕ × A)) → length (shown f es) ≡ length es
length-shown f [] = refl
length-shown f (e ∷ es) = ap (λ n. suc n) (length-shown f es)

shown-where_key : {A X : Type 0} (f : A → X) (p : ℕ → Bool) (es : List (ℕ × A)) → shown f (where_key nat_cmp p es) ≡ where_key nat_cmp p (shown f es)
shown-where_key f p [] = refl
shown-where_key f p (e ∷ es) =
    elim (p e.0) as (λ b. shown f (cond b (e ∷ where_key nat_cmp p es) (where_key nat_cmp p es)) ≡ cond b ((e.0, f e.1) ∷ where_key nat_cmp p (shown f es)) (where_key nat_cmp p (shown f es))) [
      | true ↦ ap (λ rest. (e.0, f e.1) ∷ rest) (shown-where_key f p es)
      | false ↦ shown-where_key f p es
    ]

option_map-cond : {A X : Type 0} (f : A → X) (b : Bool) (v o : Option A) → option_map f (cond b v o) ≡ cond b (option_map f v) (option_map f o)
option_map-cond f true v o = refl
option_map-cond f false v o = refl

-- entries that are seen through f
module _ {A X : Type 0} (es : List (ℕ × A)) (f : A → X) (m : FinMap nat_cmp X) (seen : from_entries (shown f es) ≡ m) where
  pub lookup-shown_seen : (q : ℕ) → option_map f (lookup (is_at (nat_cmp q)) es) ≡ finite.get m q
  lookup-shown_seen q = sym (lookup-shown f (is_at (nat_cmp q)) es) ∙ lookup-seen (shown f es) m seen q

  shown_ordered : IsStrictlySortedBy nat_cmp (keys_of es) → IsStrictlySortedBy nat_cmp (keys_of (shown f es))
  shown_ordered h = subst (IsStrictlySortedBy nat_cmp) (sym (keys_of-shown f es)) h

  pub length-shown_seen : IsStrictlySortedBy nat_cmp (keys_of es) → length es ≡ finite.len m
  length-shown_seen h = sym (length-shown f es) ∙ length-seen (shown f es) m seen (shown_ordered h)

  pub keys_of-shown_seen : IsStrictlySortedBy nat_cmp (keys_of es) → keys_of es ≡ finite.keys m
  keys_of-shown_seen h = sym (keys_of-shown f es) ∙ keys_of-seen (shown f es) m seen (shown_ordered h)

  pub shown_seen-insert : (fs : List (ℕ × A)) (k : ℕ) (v : A) → ((q : ℕ) → lookup (is_at (nat_cmp q)) fs ≡ cond (is_at (nat_cmp k) q) (Some v) (lookup (is_at (nat_cmp q)) es)) → from_entries (shown f fs) ≡ finite.insert m k (f v)
  shown_seen-insert fs k v h = seen-insert (shown f es) m seen (shown f fs) k (f v) (λ q.
      lookup-shown f _ fs ∙ ap (option_map f) (h q) ∙ option_map-cond f _ (Some v) _
      ∙ ap (cond (is_at (nat_cmp k) q) (Some (f v))) (sym (lookup-shown f _ es)))

  pub shown_seen-remove : (fs : List (ℕ × A)) (k : ℕ) → ((q : ℕ) → lookup (is_at (nat_cmp q)) fs ≡ cond (is_at (nat_cmp k) q) None (lookup (is_at (nat_cmp q)) es)) → from_entries (shown f fs) ≡ finite.remove m k
  shown_seen-remove fs k h = seen-remove (shown f es) m seen (shown f fs) k (λ q.
      lookup-shown f _ fs ∙ ap (option_map f) (h q) ∙ option_map-cond f _ None _
      ∙ ap (cond (is_at (nat_cmp k) q) None) (sym (lookup-shown f _ es)))

  -- entries whose keys pass a test
  pub shown_seen-retain_keys : (fs : List (ℕ × A)) (p : ℕ → Bool) → fs ≡ where_key nat_cmp p es → from_entries (shown f fs) ≡ finite.retain_keys m p
  shown_seen-retain_keys fs p h =
      let alike : (q x : ℕ) → nat_cmp q x ≡ Equal → p x ≡ p q = λ q x t. ap p (sym (nat_cmp-IsAntisymmetric q x t)) in
      same_map nat_cmp_total nat_cmp-IsAntisymmetric _ _ (λ q.
      get-from_entries nat_cmp_total (shown f fs) q
      ∙ ap (find nat_cmp q) (ap (shown f) h ∙ shown-where_key f p es)
      ∙ find-where_key nat_cmp p q (alike q) (shown f es)
      ∙ ap (λ o. cond (p q) o None) (sym (lookup-find q (shown f es)) ∙ lookup-seen (shown f es) m seen q)
      ∙ sym (get-retain_keys m p q (alike q)))
