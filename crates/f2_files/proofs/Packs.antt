-- The names of a directory after one left and one came, in their order.
use Rattle.std.proofs.Common.{◌≡◌, Bool, true, false, cond, not, ◌&&◌, ◌||◌, ℕ, List, [], ◌∷◌, refl, sym, ap, ◌∙◌, true≢false}
use Rattle.std.specs.Prelude.{Option, Some, None, map as list_map, is_some}
use Rattle.std.specs.List.{AllByRecursion, filter, list_any}
use Rattle.std.specs.List.Sorted.{IsStrictlySortedBy}
use Rattle.std.specs.Ordering.{nat_cmp, eq_by_cmp, is_eq}
use Rattle.std.specs.declared.cmp.Ordering.{Ordering}
use Rattle.std.specs.declared.cmp.Ordering.TheVariants.{Less, Equal, Greater}
use Rattle.std.specs.Cmp.{Equal-is, tied_itself}
use Rattle.std.specs.Cmp.Lexicographic.{slice_cmp, nat_list_cmp_total}
use Rattle.std.specs.FinMap as map
use Rattle.std.specs.FinMap.{nat_cmp-IsAntisymmetric, slice_cmp-IsAntisymmetric}
use Rattle.std.specs.FinMap.Entries.{put, by_order}
use Rattle.std.specs.FinSet as set
use Rattle.f2_model.proofs.RisingLemmas.{rises, contains-rising, contains-map_of, rising-is, rising-keys}
use Rattle.f2_model.specs.Rising.{map_of, rising}
use Rattle.f2_files.specs.Packed.{Names, left, joined, names_after, is_gone, but_gone, put_name, and_come}

abbrev names_cmp : List ℕ → List ℕ → Ordering
names_cmp = slice_cmp nat_cmp

abbrev is_name : List ℕ → List ℕ → Bool
is_name = eq_by_cmp names_cmp

name_same : (p q : List ℕ) → is_name p q ≡ true → p ≡ q
name_same p q tied = slice_cmp-IsAntisymmetric nat_cmp-IsAntisymmetric p q ((Equal-is (names_cmp p q)).0 tied)

name_itself : (name : List ℕ) → is_name name name ≡ true
name_itself name = ap is_eq (tied_itself nat_list_cmp_total name)

name_swap : (p q : List ℕ) → is_name p q ≡ is_name q p
name_swap p q = by_cmp (is_name p q) refl (is_name q p) refl
  where
    by_cmp : (a : Bool) → is_name p q ≡ a → (b : Bool) → is_name q p ≡ b → a ≡ b
    by_cmp true h true g = refl
    by_cmp false h false g = refl
    by_cmp true h false g = sym (name_itself p) ∙ ap (λ r. is_name r p) (name_same p q h) ∙ g
    by_cmp false h true g = sym h ∙ ap (λ r. is_name r q) (sym (name_same q p g)) ∙ name_itself q

-- the keys of entries with one more are the keys with one more
keys-put : {X : Type 0} (name : List ℕ) (x : X) (es : List (List ℕ × X)) → list_map (λ (e : List ℕ × X). e.0) (put names_cmp name x es) ≡ put_name name (list_map (λ (e : List ℕ × X). e.0) es)
keys-put name x [] = refl
keys-put {X = X} name x (e ∷ es) = by (keys-put name x es) (names_cmp name e.0)
  where
    by : list_map (λ (e : List ℕ × X). e.0) (put names_cmp name x es) ≡ put_name name (list_map (λ (e : List ℕ × X). e.0) es) → (o : Ordering) →
        list_map (λ (e : List ℕ × X). e.0) (by_order o ((name, x) ∷ e ∷ es) ((e.0, x) ∷ es) (e ∷ put names_cmp name x es))
        ≡ by_order o (name ∷ e.0 ∷ list_map (λ (e : List ℕ × X). e.0) es) (e.0 ∷ list_map (λ (e : List ℕ × X). e.0) es) (e.0 ∷ put_name name (list_map (λ (e : List ℕ × X). e.0) es))
    by rest Less = refl
    by rest Equal = refl
    by rest Greater = ap (λ ks. e.0 ∷ ks) rest

rising-joined : (come : Option (List ℕ)) (names : Names) → rising (joined come names) ≡ and_come come (rising names)
rising-joined None names = refl
rising-joined (Some name) names =
    rising-keys nat_list_cmp_total (slice_cmp-IsAntisymmetric nat_cmp-IsAntisymmetric) (set.insert names name) (map.insert (map_of names) name tt) (λ q.
    set.contains-insert nat_list_cmp_total names name q
    ∙ ap (λ b. is_name q name || b) (sym (contains-map_of nat_list_cmp_total names q))
    ∙ put_there (is_name q name) (map.get (map_of names) q)
    ∙ ap (λ o. is_some o) (sym (map.get-insert nat_list_cmp_total (map_of names) name tt q)))
    ∙ ap (list_map (λ (e : List ℕ × Unit {0}). e.0)) (map.entries-insert nat_list_cmp_total (map_of names) name tt)
    ∙ keys-put name tt (map.entries (map_of names))
  where
    put_there : (b : Bool) (o : Option (Unit {0})) → (b || is_some o) ≡ is_some (cond b (Some tt) o)
    put_there true o = refl
    put_there false o = refl

module _ (p : List ℕ → Bool) where
  filter_below : (x : List ℕ) (ks : List (List ℕ)) → AllByRecursion (λ y. names_cmp x y ≡ Less) ks → AllByRecursion (λ y. names_cmp x y ≡ Less) (filter p ks)
  filter_below x [] h = tt
  filter_below x (k ∷ ks) h = by (filter_below x ks h.1) (p k)
    where
      by : AllByRecursion (λ y. names_cmp x y ≡ Less) (filter p ks) → (b : Bool) → AllByRecursion (λ y. names_cmp x y ≡ Less) (cond b (k ∷ filter p ks) (filter p ks))
      by rest true = (h.0, rest)
      by rest false = rest

  filter_rises : (ks : List (List ℕ)) → IsStrictlySortedBy names_cmp ks → IsStrictlySortedBy names_cmp (filter p ks)
  unfolding IsStrictlySortedBy
  filter_rises [] h = tt
  filter_rises (k ∷ ks) h = by (filter_rises ks h.1) (p k)
    where
      by : IsStrictlySortedBy names_cmp (filter p ks) → (b : Bool) → IsStrictlySortedBy names_cmp (cond b (k ∷ filter p ks) (filter p ks))
      by rest true = (filter_below k ks h.0, rest)
      by rest false = rest

  any_filter : (q : List ℕ) (ks : List (List ℕ)) → list_any (is_name q) (filter p ks) ≡ (p q && list_any (is_name q) ks)
  any_filter q [] = none (p q)
    where
      none : (b : Bool) → false ≡ (b && false)
      none true = refl
      none false = refl
  any_filter q (k ∷ ks) = by (any_filter q ks) (p k) refl (is_name q k) refl
    where
      or_true : (a b : Bool) → a ≡ true → (true || b) ≡ (a && (true || b))
      or_true true b h = refl
      or_true false b h = absurd (true≢false (sym h))

      not_one : (a b : Bool) → a ≡ false → (a && b) ≡ (a && (true || b))
      not_one true b h = absurd (true≢false h)
      not_one false b h = refl

      by : list_any (is_name q) (filter p ks) ≡ (p q && list_any (is_name q) ks) → (b : Bool) → p k ≡ b → (c : Bool) → is_name q k ≡ c → list_any (is_name q) (cond b (k ∷ filter p ks) (filter p ks)) ≡ (p q && (c || list_any (is_name q) ks))
      by rest true t false e = ap (λ c. c || list_any (is_name q) (filter p ks)) e ∙ rest
      by rest false t false e = rest
      by rest true t true e = ap (λ c. c || list_any (is_name q) (filter p ks)) e ∙ or_true (p q) (list_any (is_name q) ks) (ap p (name_same q k e) ∙ t)
      by rest false t true e = rest ∙ not_one (p q) (list_any (is_name q) ks) (ap p (name_same q k e) ∙ t)

rising-left : (gone : Option (List ℕ)) (names : Names) → rising (left gone names) ≡ but_gone gone (rising names)
rising-left None names = sym (all_pass (rising names))
  where
    all_pass : (ks : List (List ℕ)) → filter (λ name. not (is_gone None name)) ks ≡ ks
    all_pass [] = refl
    all_pass (k ∷ ks) = ap (λ ks. k ∷ ks) (all_pass ks)
rising-left (Some name) names =
    let p : List ℕ → Bool = λ one. not (is_gone (Some name) one) in
    rising-is nat_list_cmp_total (slice_cmp-IsAntisymmetric nat_cmp-IsAntisymmetric) (set.remove names name) (but_gone (Some name) (rising names)) (filter_rises p (rising names) (rises names)) (λ q.
    set.contains-remove nat_list_cmp_total names name q
    ∙ ap (λ b. not b && set.contains names q) (name_swap q name)
    ∙ ap (λ b. p q && b) (contains-rising nat_list_cmp_total names q)
    ∙ sym (any_filter p q (rising names)))

-- packed in order, names after one left and one came are those that were, without the one and with the other
pub rising-after : (gone come : Option (List ℕ)) (names : Names) → rising (names_after gone come names) ≡ and_come come (but_gone gone (rising names))
rising-after gone come names = rising-joined come (left gone names) ∙ ap (and_come come) (rising-left gone names)
