-- A tree's entries whose keys are names, read as a finite map.
use Rattle.std.proofs.Common.{◌≡◌, Bool, true, false, ◌&&◌, T, cond, List, [], ◌∷◌, Some, None, refl, ap, sym, subst, ◌∙◌}
use Rattle.std.specs.Prelude.{ℕ, map as list_map}
use Rattle.std.specs.Map.{lookup, remove_entry}
use Rattle.std.specs.BTreeMap.{insert_entry}
use Rattle.std.specs.Ordering.{nat_cmp, eq_by_cmp, is_eq, is_lt, match_ordering}
use Rattle.std.specs.declared.cmp.Ordering.{Ordering}
use Rattle.std.specs.declared.cmp.Ordering.TheVariants.{Less, Equal, Greater}
use Rattle.std.specs.Cmp.Lexicographic.{slice_cmp, nat_list_cmp_total}
use Rattle.std.specs.List.{AllByRecursion}
use Rattle.std.specs.List.Sorted.{IsStrictlySortedBy}
use Rattle.std.specs.FinMap as map
use Rattle.std.specs.FinMap.{nat_cmp-IsAntisymmetric, slice_cmp-IsAntisymmetric}
use Rattle.std.specs.FinMap.Entries.{put, by_order, find-put, is_sorted, below_all, same_entries}

-- the order of names
abbrev pub names_cmp : List ℕ → List ℕ → Ordering
names_cmp = slice_cmp nat_cmp

same_name : (p q : List ℕ) → names_cmp p q ≡ Equal → p ≡ q
same_name = slice_cmp-IsAntisymmetric nat_cmp-IsAntisymmetric

equal_is : (o : Ordering) → is_eq o ≡ true → o ≡ Equal
equal_is Less e = cc
equal_is Equal e = refl
equal_is Greater e = cc

tied_same : (p q : List ℕ) → eq_by_cmp names_cmp p q ≡ true → p ≡ q
tied_same p q tied = same_name p q (equal_is (names_cmp p q) tied)

less_is : (o : Ordering) → o ≡ Less → T (is_lt o)
less_is o e = subst (λ p. T (is_lt p)) (sym e) tt

both_of : (a b : Bool) → T a → T b → T (a && b)
both_of true b p q = q
both_of false b p q = p

module _ {K : Type 0} (name : K → List ℕ) where
  -- the order of the keys
  abbrev pub named_cmp : K → K → Ordering
  named_cmp a b = slice_cmp nat_cmp (name a) (name b)

  -- whether a key has this name
  abbrev pub is_named : List ℕ → K → Bool
  is_named q k = is_eq (slice_cmp nat_cmp q (name k))

module _ {K X : Type 0} (name : K → List ℕ) where
  -- the entries with their names
  abbrev pub shown : List (K × X) → List (List ℕ × X)
  shown es = list_map (λ e. (name e.0, e.1)) es

  abbrev pub view : List (K × X) → map.FinMap (slice_cmp nat_cmp) X
  view es = map.from_entries (shown es)

  find-shown : (q : List ℕ) (es : List (K × X)) → map.find names_cmp q (shown es) ≡ lookup (is_named name q) es
  find-shown q [] = refl
  find-shown q (e ∷ es) = ap (cond (is_named name q e.0) (Some e.1)) (find-shown q es)

  pub get-view : (es : List (K × X)) (q : List ℕ) → map.get (view es) q ≡ lookup (is_named name q) es
  get-view es q = map.get-from_entries nat_list_cmp_total (shown es) q ∙ find-shown q es

  same : (m n : map.FinMap (slice_cmp nat_cmp) X) → ((q : List ℕ) → map.get m q ≡ map.get n q) → m ≡ n
  same = map.same_map nat_list_cmp_total same_name

  shown-insert_entry : (es : List (K × X)) (k : K) (v : X) → shown (insert_entry (named_cmp name) es k v) ≡ put names_cmp (name k) v (shown es)
  shown-insert_entry [] k v = refl
  shown-insert_entry (e ∷ es) k v =
      elim (named_cmp name k e.0) as (λ o. shown (match_ordering o ((k, v) ∷ e ∷ es) ((e.0, v) ∷ es) (e ∷ insert_entry (named_cmp name) es k v)) ≡ by_order o ((name k, v) ∷ shown (e ∷ es)) ((name e.0, v) ∷ shown es) ((name e.0, e.1) ∷ put names_cmp (name k) v (shown es))) [
        | Less ↦ refl
        | Equal ↦ refl
        | Greater ↦ ap (λ rest. (name e.0, e.1) ∷ rest) (shown-insert_entry es k v)
      ]

  pub view-insert_entry : (es : List (K × X)) (k : K) (v : X) → view (insert_entry (named_cmp name) es k v) ≡ map.insert (view es) (name k) v
  view-insert_entry es k v = same _ _ (λ q.
      map.get-from_entries nat_list_cmp_total (shown (insert_entry (named_cmp name) es k v)) q
      ∙ ap (map.find names_cmp q) (shown-insert_entry es k v)
      ∙ find-put names_cmp nat_list_cmp_total q (name k) v (shown es)
      ∙ ap (cond (eq_by_cmp names_cmp q (name k)) (Some v)) (sym (map.get-from_entries nat_list_cmp_total (shown es) q))
      ∙ sym (map.get-insert nat_list_cmp_total (view es) (name k) v q))

  -- another name is found as before
  lookup-others : (p q : List ℕ) (es : List (K × X)) → eq_by_cmp names_cmp p q ≡ false → lookup (is_named name p) (remove_entry (is_named name q) es) ≡ lookup (is_named name p) es
  lookup-others p q [] apart = refl
  lookup-others p q (e ∷ es) apart =
      (elim (is_named name q e.0) as (λ b. is_named name q e.0 ≡ b → lookup (is_named name p) (cond b es (e ∷ remove_entry (is_named name q) es)) ≡ cond (is_named name p e.0) (Some e.1) (lookup (is_named name p) es)) [
        | true ↦ λ here. let other : is_named name p e.0 ≡ false = subst (λ r. eq_by_cmp names_cmp p r ≡ false) (tied_same q (name e.0) here) apart in ap (λ b. cond b (Some e.1) (lookup (is_named name p) es)) (sym other)
        | false ↦ λ here. ap (cond (is_named name p e.0) (Some e.1)) (lookup-others p q es apart)
      ]) refl

  pub view-remove_entry : (es : List (K × X)) (q : List ℕ) → lookup (is_named name q) (remove_entry (is_named name q) es) ≡ None → view (remove_entry (is_named name q) es) ≡ map.remove (view es) q
  view-remove_entry es q gone = same _ _ (λ p. get-view _ p ∙ at p ∙ ap (cond (eq_by_cmp names_cmp p q) None) (sym (get-view es p)) ∙ sym (map.get-remove nat_list_cmp_total (view es) q p))
    where
      at : (p : List ℕ) → lookup (is_named name p) (remove_entry (is_named name q) es) ≡ cond (eq_by_cmp names_cmp p q) None (lookup (is_named name p) es)
      at p = (elim (eq_by_cmp names_cmp p q) as (λ b. eq_by_cmp names_cmp p q ≡ b → lookup (is_named name p) (remove_entry (is_named name q) es) ≡ cond b None (lookup (is_named name p) es)) [
        | true ↦ λ tied. subst (λ r. lookup (is_named name r) (remove_entry (is_named name q) es) ≡ None) (sym (tied_same p q tied)) gone
        | false ↦ λ apart. lookup-others p q es apart
      ]) refl

  below_each : (k : K) (es : List (K × X)) → AllByRecursion (λ q. named_cmp name k q ≡ Less) (list_map (λ (e : K × X). e.0) es) → T (below_all names_cmp (name k) (shown es))
  below_each k [] h = tt
  below_each k (e ∷ es) h = both_of (is_lt (named_cmp name k e.0)) (below_all names_cmp (name k) (shown es)) (less_is (named_cmp name k e.0) h.0) (below_each k es h.1)

  sorted_entries : (es : List (K × X)) → IsStrictlySortedBy (named_cmp name) (list_map (λ (e : K × X). e.0) es) → T (is_sorted names_cmp (shown es))
  unfolding IsStrictlySortedBy
  sorted_entries [] h = tt
  sorted_entries (e ∷ es) h = both_of (below_all names_cmp (name e.0) (shown es)) (is_sorted names_cmp (shown es)) (below_each e.0 es h.0) (sorted_entries es h.1)

  -- a map made of entries in order has these entries
  pub entries-view : (es : List (K × X)) → IsStrictlySortedBy (named_cmp name) (list_map (λ (e : K × X). e.0) es) → map.entries (view es) ≡ shown es
  entries-view es sorted =
      same_entries names_cmp nat_list_cmp_total same_name (map.entries (view es)) (shown es) (map.entries_sorted (view es)) (sorted_entries es sorted)
      (λ q. sym (map.get-entries (view es) q) ∙ map.get-from_entries nat_list_cmp_total (shown es) q)
