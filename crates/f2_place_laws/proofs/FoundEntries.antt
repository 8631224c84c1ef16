-- What is found in a list of entries by pairs, and the entries of a map by pairs.
use Rattle.std.proofs.Common.{◌≡◌, ◌≢◌, inl, inr, ℕ, Bool, true, false, cond, ◌&&◌, List, [], ◌∷◌, map, is_some, IsSome, refl, sym, ap, ◌∙◌}
use Rattle.std.specs.Prelude.{Option, Some, None, T}
use Rattle.std.specs.List.{AllByRecursion}
use Rattle.std.specs.Ordering.{eq_by_cmp, is_lt}
use Rattle.std.specs.declared.cmp.Ordering.{Ordering}
use Rattle.std.specs.declared.cmp.Ordering.TheVariants.{Less, Equal, Greater}
use Rattle.std.specs.Cmp.{tied_itself}
use Rattle.std.specs.FinMap as finite
use Rattle.std.specs.FinMap.{FinMap, entries, entries_sorted, get-entries, find, is_sorted}
use Rattle.std.specs.FinMap.Entries.{below_all}
use Rattle.f2_model.specs.State.{pair_cmp}
use Rattle.f2_image.specs.Reached.{AllDiffer}
use Rattle.f2_place_laws.proofs.Keys.{same_pair}
use Rattle.f2_place_laws.proofs.Lists.{IsIn, in_map, one_in}
use Rattle.f2_place_laws.proofs.Pairs.{pair_cmp_total, tied, apart}

abbrev pub map_option : {X Y : Type 0} → (X → Y) → Option X → Option Y
map_option f None = None
map_option f (Some x) = Some (f x)

both : (a b : Bool) → T (a && b) → T a × T b
both true b t = (tt, t)
both false b t = absurd t

less : (o : Ordering) → T (is_lt o) → o ≢ Equal
less Less t e = cc
less Equal t e = absurd t
less Greater t e = absurd t

module _ {X : Type 0} where
  -- an entry with a key that is found
  pub found_in : (q : ℕ × ℕ) (x : X) (es : List ((ℕ × ℕ) × X)) → find pair_cmp q es ≡ Some x → (e : (ℕ × ℕ) × X) × IsIn e es × (q ≡ e.0) × (x ≡ e.1)
  found_in q x [] h = absurd (cc)
  found_in q x (e ∷ es) h = by_tie (λ more. found_in q x es more) (eq_by_cmp pair_cmp q e.0) refl h
    where
      by_tie : (find pair_cmp q es ≡ Some x → (f : (ℕ × ℕ) × X) × IsIn f es × (q ≡ f.0) × (x ≡ f.1)) → (b : Bool) → eq_by_cmp pair_cmp q e.0 ≡ b → cond b (Some e.1) (find pair_cmp q es) ≡ Some x
          → (f : (ℕ × ℕ) × X) × IsIn f (e ∷ es) × (q ≡ f.0) × (x ≡ f.1)
      by_tie rest true tie h = let same : e.1 ≡ x = cc in (e, inl refl, same_pair q e.0 tie, sym same)
      by_tie rest false tie h = let found = rest h in (found.0, inr found.1, found.2, found.3)

  -- where there is an entry with a key, one is found
  pub some_found : (e : (ℕ × ℕ) × X) (es : List ((ℕ × ℕ) × X)) → IsIn e es → IsSome (find pair_cmp e.0 es)
  some_found e [] h = absurd h
  some_found e (f ∷ es) (inl same) =
      ap (λ b. is_some (cond b (Some f.1) (find pair_cmp e.0 es))) (ap (λ (g : (ℕ × ℕ) × X). eq_by_cmp pair_cmp e.0 g.0) (sym same) ∙ tied e.0)
  some_found e (f ∷ es) (inr h) = by_tie (eq_by_cmp pair_cmp e.0 f.0) (some_found e es h)
    where
      by_tie : (b : Bool) → IsSome (find pair_cmp e.0 es) → IsSome (cond b (Some f.1) (find pair_cmp e.0 es))
      by_tie true rest = refl
      by_tie false rest = rest

  -- the values of entries, changed
  pub find_map : {Y : Type 0} (f : X → Y) (q : ℕ × ℕ) (es : List ((ℕ × ℕ) × X)) → find pair_cmp q (map (λ e. (e.0, f e.1)) es) ≡ map_option f (find pair_cmp q es)
  find_map f q [] = refl
  find_map f q (e ∷ es) = by_tie (eq_by_cmp pair_cmp q e.0) (find_map f q es)
    where
      by_tie : (b : Bool) → find pair_cmp q (map (λ e. (e.0, f e.1)) es) ≡ map_option f (find pair_cmp q es)
          → cond b (Some (f e.1)) (find pair_cmp q (map (λ e. (e.0, f e.1)) es)) ≡ map_option f (cond b (Some e.1) (find pair_cmp q es))
      by_tie true rest = refl
      by_tie false rest = rest

  -- the keys of entries in order differ
  all_above : (x : ℕ × ℕ) (es : List ((ℕ × ℕ) × X)) → T (below_all pair_cmp x es) → AllByRecursion (λ y. x ≢ y) (map (λ e. e.0) es)
  all_above x [] t = tt
  all_above x (e ∷ es) t =
      let parts = both (is_lt (pair_cmp x e.0)) (below_all pair_cmp x es) t in
      ((λ same. less (pair_cmp x e.0) parts.0 (ap (pair_cmp x) (sym same) ∙ tied_itself pair_cmp_total x)), all_above x es parts.1)

  keys_differ : (es : List ((ℕ × ℕ) × X)) → T (is_sorted pair_cmp es) → AllDiffer (map (λ e. e.0) es)
  keys_differ [] t = tt
  keys_differ (e ∷ es) t = let parts = both (below_all pair_cmp e.0 es) (is_sorted pair_cmp es) t in (all_above e.0 es parts.0, keys_differ es parts.1)

  -- each entry is found
  entry_found : (e : (ℕ × ℕ) × X) (es : List ((ℕ × ℕ) × X)) → AllDiffer (map (λ f. f.0) es) → IsIn e es → find pair_cmp e.0 es ≡ Some e.1
  entry_found e [] differ h = absurd h
  entry_found e (f ∷ es) differ (inl same) =
      ap (λ b. cond b (Some f.1) (find pair_cmp e.0 es)) (ap (λ (g : (ℕ × ℕ) × X). eq_by_cmp pair_cmp e.0 g.0) (sym same) ∙ tied e.0) ∙ ap (λ (g : (ℕ × ℕ) × X). Some g.1) (sym same)
  entry_found e (f ∷ es) differ (inr h) =
      let other : f.0 ≢ e.0 = one_in (λ y. f.0 ≢ y) (map (λ g. g.0) es) e.0 differ.0 (in_map (λ g. g.0) e es h) in
      ap (λ b. cond b (Some f.1) (find pair_cmp e.0 es)) (apart e.0 f.0 (λ same. other (sym same))) ∙ entry_found e es differ.1 h

  -- values of which no two entries have one differ
  others_differ : (e : (ℕ × ℕ) × X) (es : List ((ℕ × ℕ) × X)) → ((f : (ℕ × ℕ) × X) → IsIn f es → e.1 ≡ f.1 → e.0 ≡ f.0) → AllByRecursion (λ y. e.0 ≢ y) (map (λ f. f.0) es) → AllByRecursion (λ y. e.1 ≢ y) (map (λ f. f.1) es)
  others_differ e [] one other = tt
  others_differ e (f ∷ es) one other = ((λ same. other.0 (one f (inl refl) same)), others_differ e es (λ g there. one g (inr there)) other.1)

  values_differ : (es : List ((ℕ × ℕ) × X)) → AllDiffer (map (λ e. e.0) es) → ((e f : (ℕ × ℕ) × X) → IsIn e es → IsIn f es → e.1 ≡ f.1 → e.0 ≡ f.0) → AllDiffer (map (λ e. e.1) es)
  values_differ [] differ one = tt
  values_differ (e ∷ es) differ one = (others_differ e es (λ f there. one e f (inl refl) (inr there)) differ.0, values_differ es differ.1 (λ f g there too. one f g (inr there) (inr too)))

module _ {X : Type 0} (m : FinMap pair_cmp X) where
  pub differing_keys : AllDiffer (finite.keys m)
  differing_keys = keys_differ (entries m) (entries_sorted m)

  pub entry_got : (e : (ℕ × ℕ) × X) → IsIn e (entries m) → finite.get m e.0 ≡ Some e.1
  entry_got e there = get-entries m e.0 ∙ entry_found e (entries m) differing_keys there

  pub differing_values : ((one other : ℕ × ℕ) (x : X) → finite.get m one ≡ Some x → finite.get m other ≡ Some x → one ≡ other) → AllDiffer (finite.values m)
  differing_values apart =
      values_differ (entries m) differing_keys
      (λ e f there too same. apart e.0 f.0 e.1 (entry_got e there) (entry_got f too ∙ ap Some (sym same)))
