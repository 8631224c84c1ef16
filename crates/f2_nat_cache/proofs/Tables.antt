-- Tables of entries by their nids, read as finite maps.
use Rattle.std.proofs.Common.{◌≡◌, ℕ, zero, suc, ◌+◌, ◌-◌, ◌≤◌, ◌⊎◌, Bool, true, false, cond, List, [], ◌∷◌, length, take, Option, Some, None, nat_eq, refl, ap, sym, subst, ◌∙◌, inl, inr, arith}
use Rattle.std.specs.Prelude.{option_map}
use Rattle.std.specs.Option.{option_map_or}
use Rattle.std.specs.Map.{keys_of, lookup, lookup_entry, remove_entry}
use Rattle.std.specs.Ordering.{nat_cmp, eq_by_cmp}
use Rattle.std.specs.Cmp.{nat_cmp_total, unsigned_ties}
use Rattle.std.specs.List.{AllByRecursion, IsDistinct}
use Rattle.std.specs.FinMap as map
use Rattle.std.specs.FinMap.{nat_cmp-IsAntisymmetric}
use Rattle.std.proofs.lemmas.List.{length-take}
use Rattle.std.proofs.lemmas.Bool.Decides.{nat_tests}
use Rattle.lru.proofs.CallerLemmas.{Contains-lookup_entry}
use Rattle.lru.specs.LruCache.{LruCache, promoted, put_entries}

-- entries as a map
abbrev pub view : {X : Type 0} → List (ℕ × X) → map.FinMap nat_cmp X
view es = map.from_entries es

pub eq_same : (p q : ℕ) → nat_eq p q ≡ true → p ≡ q
eq_same p q e = grind (arith, nat_tests)

pub eq_itself : (p : ℕ) → nat_eq p p ≡ true
eq_itself p = grind (arith, nat_tests)

pub eq_turned : (p q : ℕ) → nat_eq p q ≡ nat_eq q p
eq_turned p q = grind (arith, nat_tests)

ties : (p q : ℕ) → nat_eq p q ≡ eq_by_cmp nat_cmp p q
ties p q = unsigned_ties p q

find-lookup : {X : Type 0} (q : ℕ) (es : List (ℕ × X)) → map.find nat_cmp q es ≡ lookup (nat_eq q) es
find-lookup q [] = refl
find-lookup q (e ∷ es) = (λ i. cond (sym (ties q e.0) i) (Some e.1) (find-lookup q es i))

pub get-view : {X : Type 0} (es : List (ℕ × X)) (q : ℕ) → map.get (view es) q ≡ lookup (nat_eq q) es
get-view es q = map.get-from_entries nat_cmp_total es q ∙ find-lookup q es

-- two maps on numbers that answer alike are equal
pub same : {X : Type 0} (m n : map.FinMap nat_cmp X) → ((q : ℕ) → map.get m q ≡ map.get n q) → m ≡ n
same = map.same_map nat_cmp_total nat_cmp-IsAntisymmetric

pub get-insert : {X : Type 0} (m : map.FinMap nat_cmp X) (k : ℕ) (v : X) (q : ℕ) → map.get (map.insert m k v) q ≡ cond (nat_eq q k) (Some v) (map.get m q)
get-insert m k v q = map.get-insert nat_cmp_total m k v q ∙ ap (λ b. cond b (Some v) (map.get m q)) (sym (ties q k))

pub get-remove : {X : Type 0} (m : map.FinMap nat_cmp X) (k q : ℕ) → map.get (map.remove m k) q ≡ cond (nat_eq q k) None (map.get m q)
get-remove m k q = map.get-remove nat_cmp_total m k q ∙ ap (λ b. cond b None (map.get m q)) (sym (ties q k))

-- the entries with this value at the nid, or without it
abbrev pub Changed : {X : Type 0} → List (ℕ × X) → List (ℕ × X) → ℕ → Option X → Type 0
Changed es fs p w = (q : ℕ) → lookup (nat_eq q) fs ≡ cond (nat_eq p q) w (lookup (nat_eq q) es)

pub view-insert : {X : Type 0} (es fs : List (ℕ × X)) (p : ℕ) (v : X) → Changed es fs p (Some v) → view fs ≡ map.insert (view es) p v
view-insert es fs p v changed =
    same _ _ (λ q. get-view fs q ∙ changed q ∙ (λ i. cond (eq_turned p q i) (Some v) (sym (get-view es q) i)) ∙ sym (get-insert (view es) p v q))

pub view-same : {X : Type 0} (es fs : List (ℕ × X)) → ((q : ℕ) → lookup (nat_eq q) fs ≡ lookup (nat_eq q) es) → view fs ≡ view es
view-same es fs alike = same _ _ (λ q. get-view fs q ∙ alike q ∙ sym (get-view es q))

-- ---- how many

none_among : {X : Type 0} (p : ℕ) (es : List (ℕ × X)) → AllByRecursion (λ q. nat_eq p q ≡ false) (keys_of es) → lookup (nat_eq p) es ≡ None
none_among p [] all = refl
none_among p (e ∷ es) all = ap (λ b. cond b (Some e.1) (lookup (nat_eq p) es)) all.0 ∙ none_among p es all.1

pub len-view : {X : Type 0} (es : List (ℕ × X)) → IsDistinct nat_eq (keys_of es) → map.len (view es) ≡ length es
unfolding IsDistinct
len-view {X} [] distinct = map.len-empty nat_cmp X
len-view (e ∷ es) distinct =
    let absent = get-view es e.0 ∙ none_among e.0 es distinct.0 in
    map.len-insert nat_cmp_total (view es) e.0 e.1
    ∙ ap (λ o. cond (elim o [ None ↦ false | Some x ↦ true ]) (map.len (view es)) (map.len (view es) + 1)) absent
    ∙ ap (λ n. n + 1) (len-view es distinct.1) ∙ let e : length es + 1 ≡ suc (length es) = omega arith in e

pub len-view-le : {X : Type 0} (es : List (ℕ × X)) → map.len (view es) ≤ length es
len-view-le {X} [] = let e = map.len-empty nat_cmp X in omega (arith, e)
len-view-le (e ∷ es) = at (map.contains_key (view es) e.0) (map.len-insert nat_cmp_total (view es) e.0 e.1) (len-view-le es)
  where
    at : (b : Bool) {m n l : ℕ} → m ≡ cond b n (n + 1) → n ≤ l → m ≤ suc l
    at true e h = omega arith
    at false e h = omega arith

pub len-remove-le : {X : Type 0} (m : map.FinMap nat_cmp X) (p : ℕ) → map.len (map.remove m p) ≤ map.len m
len-remove-le m p = at (map.contains_key m p) (map.len-remove nat_cmp_total m p)
  where
    at : (b : Bool) {m n : ℕ} → m ≡ cond b (n - 1) n → m ≤ n
    at true e = omega arith
    at false e = omega arith

-- ---- clean entries, in the order of their last use

module _ {X : Type 0} where
  -- another nid is found as before
  lookup-others : (p q : ℕ) (es : List (ℕ × X)) → nat_eq p q ≡ false → lookup (nat_eq p) (remove_entry (nat_eq q) es) ≡ lookup (nat_eq p) es
  lookup-others p q [] apart = refl
  lookup-others p q (e ∷ es) apart =
      (elim (nat_eq q e.0) as (λ b. nat_eq q e.0 ≡ b → lookup (nat_eq p) (cond b es (e ∷ remove_entry (nat_eq q) es)) ≡ cond (nat_eq p e.0) (Some e.1) (lookup (nat_eq p) es)) [
        | true ↦ λ here. let other : nat_eq p e.0 ≡ false = subst (λ r. nat_eq p r ≡ false) (eq_same q e.0 here) apart in ap (λ b. cond b (Some e.1) (lookup (nat_eq p) es)) (sym other)
        | false ↦ λ here. ap (cond (nat_eq p e.0) (Some e.1)) (lookup-others p q es apart)
      ]) refl

  value_of : (test : ℕ → Bool) (es : List (ℕ × X)) → lookup test es ≡ option_map (λ e. e.1) (lookup_entry test es)
  value_of test [] = refl
  value_of test (e ∷ es) = ap (cond (test e.0) (Some e.1)) (value_of test es) ∙ either (test e.0) e (lookup_entry test es)
    where
      either : (b : Bool) (e : ℕ × X) (o : Option (ℕ × X)) → cond b (Some e.1) (option_map (λ (f : ℕ × X). f.1) o) ≡ option_map (λ (f : ℕ × X). f.1) (cond b (Some e) o)
      either true e o = refl
      either false e o = refl

  -- an entry that is used moves to the front, and none changes
  lookup-promoted : (p q : ℕ) (es : List (ℕ × X)) → lookup (nat_eq q) (promoted (nat_eq p) es) ≡ lookup (nat_eq q) es
  lookup-promoted p q es = at (lookup_entry (nat_eq p) es) refl
    where
      at : (o : Option (ℕ × X)) → lookup_entry (nat_eq p) es ≡ o → lookup (nat_eq q) (option_map_or (λ e. e ∷ remove_entry (nat_eq p) es) o es) ≡ lookup (nat_eq q) es
      at None none = refl
      at (Some e) found =
          let named : p ≡ e.0 = eq_same p e.0 (Contains-lookup_entry (nat_eq p) es e found).1 in
          (elim (nat_eq q e.0) as (λ b. nat_eq q e.0 ≡ b → cond b (Some e.1) (lookup (nat_eq q) (remove_entry (nat_eq p) es)) ≡ lookup (nat_eq q) es) [
            | true ↦ λ here. let one : q ≡ p = eq_same q e.0 here ∙ sym named in sym (ap (λ r. lookup (nat_eq r) es) one ∙ value_of (nat_eq p) es ∙ ap (option_map (λ (f : ℕ × X). f.1)) found)
            | false ↦ λ apart. lookup-others q p es (subst (λ r. nat_eq q r ≡ false) (sym named) apart)
          ]) refl

  pub view-promoted : (p : ℕ) (es : List (ℕ × X)) → view (promoted (nat_eq p) es) ≡ view es
  view-promoted p es = same _ _ (λ q. get-view _ q ∙ lookup-promoted p q es ∙ sym (get-view es q))

  removed : (p : ℕ) (es : List (ℕ × X)) → IsDistinct nat_eq (keys_of es) → lookup (nat_eq p) (remove_entry (nat_eq p) es) ≡ None
  unfolding IsDistinct
  removed p [] distinct = refl
  removed p (e ∷ es) distinct =
      (elim (nat_eq p e.0) as (λ b. nat_eq p e.0 ≡ b → lookup (nat_eq p) (cond b es (e ∷ remove_entry (nat_eq p) es)) ≡ None) [
        | true ↦ λ here. subst (λ r. lookup (nat_eq r) es ≡ None) (sym (eq_same p e.0 here)) (none_among e.0 es distinct.0)
        | false ↦ λ apart. ap (λ b. cond b (Some e.1) (lookup (nat_eq p) (remove_entry (nat_eq p) es))) apart ∙ removed p es distinct.1
      ]) refl

  pub view-remove_entry : (p : ℕ) (es : List (ℕ × X)) → IsDistinct nat_eq (keys_of es) → view (remove_entry (nat_eq p) es) ≡ map.remove (view es) p
  view-remove_entry p es distinct = same _ _ (λ q. get-view _ q ∙ at q ∙ ap (cond (nat_eq q p) None) (sym (get-view es q)) ∙ sym (get-remove (view es) p q))
    where
      at : (q : ℕ) → lookup (nat_eq q) (remove_entry (nat_eq p) es) ≡ cond (nat_eq q p) None (lookup (nat_eq q) es)
      at q = (elim (nat_eq q p) as (λ b. nat_eq q p ≡ b → lookup (nat_eq q) (remove_entry (nat_eq p) es) ≡ cond b None (lookup (nat_eq q) es)) [
        | true ↦ λ one. subst (λ r. lookup (nat_eq r) (remove_entry (nat_eq p) es) ≡ None) (sym (eq_same q p one)) (removed p es distinct)
        | false ↦ λ apart. lookup-others q p es apart
      ]) refl

  pub view-none : (p : ℕ) (es : List (ℕ × X)) → length es ≡ 0 → view es ≡ map.remove (view es) p
  view-none p [] none = same _ _ (λ q. get-view [] q ∙ sym (either (nat_eq q p) None) ∙ ap (cond (nat_eq q p) None) (sym (get-view [] q)) ∙ sym (get-remove (view []) p q))
    where
      either : (b : Bool) (o : Option X) → cond b o o ≡ o
      either true o = refl
      either false o = refl
  view-none p (e ∷ es) none = absurd (omega arith)

  lookup-take : (n : ℕ) (test : ℕ → Bool) (es : List (ℕ × X)) (x : X) → lookup test (take n es) ≡ Some x → lookup test es ≡ Some x
  lookup-take zero test es x found = cc
  lookup-take (suc n) test [] x found = found
  lookup-take (suc n) test (e ∷ es) x found =
      (elim (test e.0) as (λ b. cond b (Some e.1) (lookup test (take n es)) ≡ Some x → cond b (Some e.1) (lookup test es) ≡ Some x) [
        | true ↦ λ h. h
        | false ↦ λ h. lookup-take n test es x h
      ]) found

  new_entry : (o : Option (ℕ × X)) → option_map (λ (f : ℕ × X). f.1) o ≡ None → o ≡ None
  new_entry None e = refl
  new_entry (Some f) e = cc

  module _ (cache : LruCache ℕ X) (p : ℕ) (v : X) (new : lookup (nat_eq p) cache.entries ≡ None) where
    put_new : put_entries nat_eq cache p v ≡ (p, v) ∷ take (cache.cap - 1) cache.entries
    put_new = ap (λ o. option_map_or (λ e. (e.0, v) ∷ remove_entry (nat_eq p) cache.entries) o ((p, v) ∷ take (cache.cap - 1) cache.entries)) (new_entry _ (sym (value_of (nat_eq p) cache.entries) ∙ new))

    pub get-put : map.get (view (put_entries nat_eq cache p v)) p ≡ Some v
    get-put = get-view _ p ∙ ap (lookup (nat_eq p)) put_new ∙ ap (λ b. cond b (Some v) (lookup (nat_eq p) (take (cache.cap - 1) cache.entries))) (eq_itself p)

    pub get-put_others : (q : ℕ) (x : X) → map.get (view (put_entries nat_eq cache p v)) q ≡ Some x → (map.get (view cache.entries) q ≡ Some x) ⊎ ((q ≡ p) × (x ≡ v))
    get-put_others q x found =
        (elim (nat_eq q p) as (λ b. nat_eq q p ≡ b → cond b (Some v) (lookup (nat_eq q) (take (cache.cap - 1) cache.entries)) ≡ Some x → (map.get (view cache.entries) q ≡ Some x) ⊎ ((q ≡ p) × (x ≡ v))) [
          | true ↦ λ one h. inr (eq_same q p one, let e : x ≡ v = cc in e)
          | false ↦ λ apart h. inl (get-view cache.entries q ∙ lookup-take (cache.cap - 1) (nat_eq q) cache.entries x h)
        ]) refl (sym (ap (lookup (nat_eq q)) put_new) ∙ sym (get-view _ q) ∙ found)

    pub len-put : 1 ≤ cache.cap → map.len (view (put_entries nat_eq cache p v)) ≤ cache.cap
    len-put some =
        let all = len-view-le (put_entries nat_eq cache p v) in
        let short = ap length put_new in
        omega (arith, length-take (cache.cap - 1) cache.entries)
