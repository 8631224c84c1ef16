-- The tables of dirty and of clean pages, read as finite maps.
use Rattle.std.proofs.Common.{◌≡◌, ℕ, zero, suc, ◌+◌, ◌-◌, ◌≤◌, ◌⊎◌, Bool, true, false, ◌&&◌, cond, List, [], ◌∷◌, length, take, Option, Some, None, nat_eq, refl, ap, sym, subst, ◌∙◌, inl, inr, arith}
use Rattle.std.specs.Prelude.{map as list_map, option_map}
use Rattle.std.specs.Option.{option_map_or}
use Rattle.std.specs.Map.{keys_of, lookup, lookup_entry, remove_entry}
use Rattle.std.specs.Ordering.{nat_cmp, eq_by_cmp, is_eq, ordering_then}
use Rattle.std.specs.declared.cmp.Ordering.{Ordering}
use Rattle.std.specs.declared.cmp.Ordering.TheVariants.{Less, Equal, Greater}
use Rattle.std.specs.Cmp.{IsTotalOrder, nat_cmp_total, on_total, then_total, both_tied, unsigned_ties, eq_by_cmp_equiv}
use Rattle.std.specs.List.{AllByRecursion, IsDistinct}
use Rattle.std.specs.FinMap as map
use Rattle.std.specs.FinMap.{nat_cmp-IsAntisymmetric}
use Rattle.std.proofs.lemmas.List.{length-take}
use Rattle.lru.proofs.CallerLemmas.{Contains-lookup_entry}
use Rattle.lru.specs.LruCache.{LruCache, promoted, put_entries}
use Rattle.f2_pages.specs.Kept.{page_cmp}

abbrev pub Page : Type 0
Page = ℕ × ℕ

-- whether two pages are one
abbrev pub page_eq : Page → Page → Bool
page_eq p q = nat_eq p.0 q.0 && nat_eq p.1 q.1

pub page_total : IsTotalOrder page_cmp
page_total = then_total (on_total (λ (p : Page). p.0) nat_cmp_total) (on_total (λ (p : Page). p.1) nat_cmp_total)

both_equal : (a b : Ordering) → ordering_then a b ≡ Equal → (a ≡ Equal) × (b ≡ Equal)
both_equal Less b e = cc
both_equal Equal b e = (refl, e)
both_equal Greater b e = cc

same_page : (p q : Page) → page_cmp p q ≡ Equal → p ≡ q
same_page p q e =
    let both = both_equal (nat_cmp p.0 q.0) (nat_cmp p.1 q.1) e in
    let ino = nat_cmp-IsAntisymmetric p.0 q.0 both.0 in
    let number = nat_cmp-IsAntisymmetric p.1 q.1 both.1 in
    λ i. (ino i, number i)

equal_is : (o : Ordering) → is_eq o ≡ true → o ≡ Equal
equal_is Less e = cc
equal_is Equal e = refl
equal_is Greater e = cc

ties : (p q : Page) → page_eq p q ≡ eq_by_cmp page_cmp p q
ties p q = both_tied _ _ (nat_cmp p.0 q.0) (nat_cmp p.1 q.1) (unsigned_ties p.0 q.0) (unsigned_ties p.1 q.1)

pub eq_same : (p q : Page) → page_eq p q ≡ true → p ≡ q
eq_same p q e = same_page p q (equal_is (page_cmp p q) (sym (ties p q) ∙ e))

turned : (p q : Page) → page_eq p q ≡ eq_by_cmp page_cmp q p
turned p q = ties p q ∙ (eq_by_cmp_equiv page_total).symm p q

eq_turned : (p q : Page) → page_eq p q ≡ page_eq q p
eq_turned p q = turned p q ∙ sym (ties q p)

pub eq_itself : (p : Page) → page_eq p p ≡ true
eq_itself p = ties p p ∙ (eq_by_cmp_equiv page_total).refl p

-- entries as a map
abbrev pub view : {X : Type 0} → List (Page × X) → map.FinMap page_cmp X
view es = map.from_entries es

find-lookup : {X : Type 0} (q : Page) (es : List (Page × X)) → map.find page_cmp q es ≡ lookup (page_eq q) es
find-lookup q [] = refl
find-lookup q (e ∷ es) = (λ i. cond (sym (ties q e.0) i) (Some e.1) (find-lookup q es i))

pub get-view : {X : Type 0} (es : List (Page × X)) (q : Page) → map.get (view es) q ≡ lookup (page_eq q) es
get-view es q = map.get-from_entries page_total es q ∙ find-lookup q es

pub same : {X : Type 0} (m n : map.FinMap page_cmp X) → ((q : Page) → map.get m q ≡ map.get n q) → m ≡ n
same = map.same_map page_total same_page

pub len-view : {X : Type 0} (es : List (Page × X)) → map.len (view es) ≤ length es
len-view {X} [] = let e = map.len-empty page_cmp X in omega (arith, e)
len-view (e ∷ es) = at (map.contains_key (view es) e.0) (map.len-insert page_total (view es) e.0 e.1) (len-view es)
  where
    at : (b : Bool) {m n l : ℕ} → m ≡ cond b n (n + 1) → n ≤ l → m ≤ suc l
    at true e h = omega arith
    at false e h = omega arith

pub len-remove-le : {X : Type 0} (m : map.FinMap page_cmp X) (p : Page) → map.len (map.remove m p) ≤ map.len m
len-remove-le m p = at (map.contains_key m p) (map.len-remove page_total m p)
  where
    at : (b : Bool) {m n : ℕ} → m ≡ cond b (n - 1) n → m ≤ n
    at true e = omega arith
    at false e = omega arith

-- ---- dirty pages, whose blocks are boxed

module _ {Y X : Type 0} (content : Y → X) where
  abbrev pub shown : List (Page × Y) → List (Page × X)
  shown es = list_map (λ e. (e.0, content e.1)) es

  lookup-shown : (test : Page → Bool) (es : List (Page × Y)) → lookup test (shown es) ≡ option_map content (lookup test es)
  lookup-shown test [] = refl
  lookup-shown test (e ∷ es) = ap (cond (test e.0) (Some (content e.1))) (lookup-shown test es) ∙ either (test e.0) e.1 (lookup test es)
    where
      either : (b : Bool) (y : Y) (o : Option Y) → cond b (Some (content y)) (option_map content o) ≡ option_map content (cond b (Some y) o)
      either true y o = refl
      either false y o = refl

  pub get-shown : (es : List (Page × Y)) (q : Page) → map.get (view (shown es)) q ≡ option_map content (lookup (page_eq q) es)
  get-shown es q = get-view (shown es) q ∙ lookup-shown (page_eq q) es

  pub shown-same : (es fs : List (Page × Y)) → ((q : Page) → lookup (page_eq q) fs ≡ lookup (page_eq q) es) → view (shown fs) ≡ view (shown es)
  shown-same es fs alike = same _ _ (λ q. get-shown fs q ∙ ap (option_map content) (alike q) ∙ sym (get-shown es q))

  -- the entries with this value at the page, or without it
  abbrev pub Changed : List (Page × Y) → List (Page × Y) → Page → Option Y → Type 0
  Changed es fs p w = (q : Page) → lookup (page_eq q) fs ≡ cond (page_eq p q) w (lookup (page_eq q) es)

  mapped : (b : Bool) (w o : Option Y) → option_map content (cond b w o) ≡ cond b (option_map content w) (option_map content o)
  mapped true w o = refl
  mapped false w o = refl

  get-changed : (es fs : List (Page × Y)) (p : Page) (w : Option Y) → Changed es fs p w → (q : Page) → map.get (view (shown fs)) q ≡ cond (eq_by_cmp page_cmp q p) (option_map content w) (map.get (view (shown es)) q)
  get-changed es fs p w changed q =
      get-shown fs q ∙ ap (option_map content) (changed q) ∙ mapped (page_eq p q) w (lookup (page_eq q) es)
      ∙ (λ i. cond (turned p q i) (option_map content w) (sym (get-shown es q) i))

  pub shown-insert : (es fs : List (Page × Y)) (p : Page) (v : Y) → Changed es fs p (Some v) → view (shown fs) ≡ map.insert (view (shown es)) p (content v)
  shown-insert es fs p v changed = same _ _ (λ q. get-changed es fs p (Some v) changed q ∙ sym (map.get-insert page_total (view (shown es)) p (content v) q))

  pub shown-remove : (es fs : List (Page × Y)) (p : Page) → Changed es fs p None → view (shown fs) ≡ map.remove (view (shown es)) p
  shown-remove es fs p changed = same _ _ (λ q. get-changed es fs p None changed q ∙ sym (map.get-remove page_total (view (shown es)) p q))

-- ---- clean pages, in the order of their last use

module _ {X : Type 0} where
  -- another page is found as before
  lookup-others : (p q : Page) (es : List (Page × X)) → page_eq p q ≡ false → lookup (page_eq p) (remove_entry (page_eq q) es) ≡ lookup (page_eq p) es
  lookup-others p q [] apart = refl
  lookup-others p q (e ∷ es) apart =
      (elim (page_eq q e.0) as (λ b. page_eq q e.0 ≡ b → lookup (page_eq p) (cond b es (e ∷ remove_entry (page_eq q) es)) ≡ cond (page_eq p e.0) (Some e.1) (lookup (page_eq p) es)) [
        | true ↦ λ here. let other : page_eq p e.0 ≡ false = subst (λ r. page_eq p r ≡ false) (eq_same q e.0 here) apart in ap (λ b. cond b (Some e.1) (lookup (page_eq p) es)) (sym other)
        | false ↦ λ here. ap (cond (page_eq p e.0) (Some e.1)) (lookup-others p q es apart)
      ]) refl

  value_of : (test : Page → Bool) (es : List (Page × X)) → lookup test es ≡ option_map (λ e. e.1) (lookup_entry test es)
  value_of test [] = refl
  value_of test (e ∷ es) = ap (cond (test e.0) (Some e.1)) (value_of test es) ∙ either (test e.0) e (lookup_entry test es)
    where
      either : (b : Bool) (e : Page × X) (o : Option (Page × X)) → cond b (Some e.1) (option_map (λ (f : Page × X). f.1) o) ≡ option_map (λ (f : Page × X). f.1) (cond b (Some e) o)
      either true e o = refl
      either false e o = refl

  -- a page that is used moves to the front, and no content changes
  lookup-promoted : (p q : Page) (es : List (Page × X)) → lookup (page_eq q) (promoted (page_eq p) es) ≡ lookup (page_eq q) es
  lookup-promoted p q es = at (lookup_entry (page_eq p) es) refl
    where
      at : (o : Option (Page × X)) → lookup_entry (page_eq p) es ≡ o → lookup (page_eq q) (option_map_or (λ e. e ∷ remove_entry (page_eq p) es) o es) ≡ lookup (page_eq q) es
      at None none = refl
      at (Some e) found =
          let named : p ≡ e.0 = eq_same p e.0 (Contains-lookup_entry (page_eq p) es e found).1 in
          (elim (page_eq q e.0) as (λ b. page_eq q e.0 ≡ b → cond b (Some e.1) (lookup (page_eq q) (remove_entry (page_eq p) es)) ≡ lookup (page_eq q) es) [
            | true ↦ λ here. let one : q ≡ p = eq_same q e.0 here ∙ sym named in sym (ap (λ r. lookup (page_eq r) es) one ∙ value_of (page_eq p) es ∙ ap (option_map (λ (f : Page × X). f.1)) found)
            | false ↦ λ apart. lookup-others q p es (subst (λ r. page_eq q r ≡ false) (sym named) apart)
          ]) refl

  pub view-promoted : (p : Page) (es : List (Page × X)) → view (promoted (page_eq p) es) ≡ view es
  view-promoted p es = same _ _ (λ q. get-view _ q ∙ lookup-promoted p q es ∙ sym (get-view es q))

  none_among : (p : Page) (es : List (Page × X)) → AllByRecursion (λ q. page_eq p q ≡ false) (keys_of es) → lookup (page_eq p) es ≡ None
  none_among p [] all = refl
  none_among p (e ∷ es) all = ap (λ b. cond b (Some e.1) (lookup (page_eq p) es)) all.0 ∙ none_among p es all.1

  removed : (p : Page) (es : List (Page × X)) → IsDistinct page_eq (keys_of es) → lookup (page_eq p) (remove_entry (page_eq p) es) ≡ None
  unfolding IsDistinct
  removed p [] distinct = refl
  removed p (e ∷ es) distinct =
      (elim (page_eq p e.0) as (λ b. page_eq p e.0 ≡ b → lookup (page_eq p) (cond b es (e ∷ remove_entry (page_eq p) es)) ≡ None) [
        | true ↦ λ here. subst (λ r. lookup (page_eq r) es ≡ None) (sym (eq_same p e.0 here)) (none_among e.0 es distinct.0)
        | false ↦ λ apart. ap (λ b. cond b (Some e.1) (lookup (page_eq p) (remove_entry (page_eq p) es))) apart ∙ removed p es distinct.1
      ]) refl

  pub view-remove_entry : (p : Page) (es : List (Page × X)) → IsDistinct page_eq (keys_of es) → view (remove_entry (page_eq p) es) ≡ map.remove (view es) p
  view-remove_entry p es distinct = same _ _ (λ q. get-view _ q ∙ at q ∙ (λ i. cond (ties q p i) None (sym (get-view es q) i)) ∙ sym (map.get-remove page_total (view es) p q))
    where
      at : (q : Page) → lookup (page_eq q) (remove_entry (page_eq p) es) ≡ cond (page_eq q p) None (lookup (page_eq q) es)
      at q = (elim (page_eq q p) as (λ b. page_eq q p ≡ b → lookup (page_eq q) (remove_entry (page_eq p) es) ≡ cond b None (lookup (page_eq q) es)) [
        | true ↦ λ one. subst (λ r. lookup (page_eq r) (remove_entry (page_eq p) es) ≡ None) (sym (eq_same q p one)) (removed p es distinct)
        | false ↦ λ apart. lookup-others q p es apart
      ]) refl

  pub view-none : (p : Page) (es : List (Page × X)) → length es ≡ 0 → view es ≡ map.remove (view es) p
  view-none p [] none = same _ _ (λ q. get-view [] q ∙ sym (either (eq_by_cmp page_cmp q p) None) ∙ ap (cond (eq_by_cmp page_cmp q p) None) (sym (get-view [] q)) ∙ sym (map.get-remove page_total (view []) p q))
    where
      either : (b : Bool) (o : Option X) → cond b o o ≡ o
      either true o = refl
      either false o = refl
  view-none p (e ∷ es) none = absurd (omega arith)

  lookup-take : (n : ℕ) (test : Page → Bool) (es : List (Page × X)) (x : X) → lookup test (take n es) ≡ Some x → lookup test es ≡ Some x
  lookup-take zero test es x found = cc
  lookup-take (suc n) test [] x found = found
  lookup-take (suc n) test (e ∷ es) x found =
      (elim (test e.0) as (λ b. cond b (Some e.1) (lookup test (take n es)) ≡ Some x → cond b (Some e.1) (lookup test es) ≡ Some x) [
        | true ↦ λ h. h
        | false ↦ λ h. lookup-take n test es x h
      ]) found

  new_entry : (o : Option (Page × X)) → option_map (λ (f : Page × X). f.1) o ≡ None → o ≡ None
  new_entry None e = refl
  new_entry (Some f) e = cc

  module _ (cache : LruCache Page X) (p : Page) (v : X) (new : lookup (page_eq p) cache.entries ≡ None) where
    put_new : put_entries page_eq cache p v ≡ (p, v) ∷ take (cache.cap - 1) cache.entries
    put_new = ap (λ o. option_map_or (λ e. (e.0, v) ∷ remove_entry (page_eq p) cache.entries) o ((p, v) ∷ take (cache.cap - 1) cache.entries)) (new_entry _ (sym (value_of (page_eq p) cache.entries) ∙ new))

    pub get-put : map.get (view (put_entries page_eq cache p v)) p ≡ Some v
    get-put = get-view _ p ∙ ap (lookup (page_eq p)) put_new ∙ ap (λ b. cond b (Some v) (lookup (page_eq p) (take (cache.cap - 1) cache.entries))) (eq_itself p)

    pub get-put_others : (q : Page) (x : X) → map.get (view (put_entries page_eq cache p v)) q ≡ Some x → (map.get (view cache.entries) q ≡ Some x) ⊎ ((q ≡ p) × (x ≡ v))
    get-put_others q x found =
        (elim (page_eq q p) as (λ b. page_eq q p ≡ b → cond b (Some v) (lookup (page_eq q) (take (cache.cap - 1) cache.entries)) ≡ Some x → (map.get (view cache.entries) q ≡ Some x) ⊎ ((q ≡ p) × (x ≡ v))) [
          | true ↦ λ one h. inr (eq_same q p one, let e : x ≡ v = cc in e)
          | false ↦ λ apart h. inl (get-view cache.entries q ∙ lookup-take (cache.cap - 1) (page_eq q) cache.entries x h)
        ]) refl (sym (ap (lookup (page_eq q)) put_new) ∙ sym (get-view _ q) ∙ found)

    pub len-put : 1 ≤ cache.cap → map.len (view (put_entries page_eq cache p v)) ≤ cache.cap
    len-put some =
        let all = len-view (put_entries page_eq cache p v) in
        let short = ap length put_new in
        omega (arith, length-take (cache.cap - 1) cache.entries)
