-- The values of a map, and what is found at its keys.
use Rattle.std.proofs.Common.{◌≡◌, ◌↔◌, ℕ, Bool, true, false, cond, ◌&&◌, List, [], ◌∷◌, map as map_list, refl, sym, ap, subst, ◌∙◌}
use Rattle.std.specs.Prelude.{T, Some, None, All}
use Rattle.std.specs.List.{AllByRecursion}
use Rattle.std.specs.Ordering.{nat_cmp, eq_by_cmp, is_eq, is_lt}
use Rattle.std.specs.declared.cmp.Ordering.{Ordering}
use Rattle.std.specs.declared.cmp.Ordering.TheVariants.{Less, Equal, Greater}
use Rattle.std.proofs.lemmas.List.Elements.{All-from_recursion, recursion_from_All}
use Rattle.std.specs.FinMap as map
use Rattle.std.specs.FinMap.{FinMap, entries, entries_sorted, find, is_sorted, get-entries}
use Rattle.std.specs.FinMap.Entries.{below_all}
use Rattle.f2_laws.proofs.Missing.{tied-true, tied-same}

first : (a b : Bool) → T (a && b) → T a
first true b p = tt
first false b p = p

second : (a b : Bool) → T (a && b) → T b
second true b p = p
second false b p = absurd p

not_tied : (o : Ordering) → T (is_lt o) → is_eq o ≡ false
not_tied Less p = refl
not_tied Equal p = absurd p
not_tied Greater p = absurd p

module _ {X : Type 0} where
  abbrev pub values_in : List (ℕ × X) → List X
  values_in es = map_list (λ e. e.1) es

  pub sorted_behind : (e : ℕ × X) (es : List (ℕ × X)) → T (is_sorted nat_cmp (e ∷ es)) → T (is_sorted nat_cmp es)
  sorted_behind e es sorted = second _ _ sorted

  pub found_first : (e : ℕ × X) (es : List (ℕ × X)) → find nat_cmp e.0 (e ∷ es) ≡ Some e.1
  found_first e es = ap (λ b. cond b (Some e.1) (find nat_cmp e.0 es)) (tied-same e.0)

  -- a key below all is at no entry
  none_below : (q : ℕ) (es : List (ℕ × X)) → T (below_all nat_cmp q es) → find nat_cmp q es ≡ None
  none_below q [] h = refl
  none_below q (e ∷ es) h = ap (λ b. cond b (Some e.1) (find nat_cmp q es)) (not_tied (nat_cmp q e.0) (first _ _ h)) ∙ none_below q es (second _ _ h)

  -- what is found behind the first entry is at another key, and is found with it before
  pub other_key : (e : ℕ × X) (es : List (ℕ × X)) → T (is_sorted nat_cmp (e ∷ es)) → (k : ℕ) (x : X) → find nat_cmp k es ≡ Some x → eq_by_cmp nat_cmp k e.0 ≡ false
  other_key e es sorted k x there = by_tie (eq_by_cmp nat_cmp k e.0) refl
    where
      by_tie : (b : Bool) → eq_by_cmp nat_cmp k e.0 ≡ b → b ≡ false
      by_tie true t =
          let none : find nat_cmp k es ≡ None = ap (λ i. find nat_cmp i es) (tied-true k e.0 t) ∙ none_below e.0 es (first _ _ sorted) in
          absurd (let both : Some x ≡ None = sym there ∙ none in cc)
      by_tie false t = refl

  pub found_behind : (e : ℕ × X) (es : List (ℕ × X)) → T (is_sorted nat_cmp (e ∷ es)) → (k : ℕ) (x : X) → find nat_cmp k es ≡ Some x → find nat_cmp k (e ∷ es) ≡ Some x
  found_behind e es sorted k x there = ap (λ b. cond b (Some e.1) (find nat_cmp k es)) (other_key e es sorted k x there) ∙ there

  module _ (P : X → Type 0) where
    found_so : (es : List (ℕ × X)) → AllByRecursion P (values_in es) → (k : ℕ) (x : X) → find nat_cmp k es ≡ Some x → P x
    found_so [] all k x there = absurd (cc)
    found_so (e ∷ es) all k x there = by_tie (found_so es all.1 k x) (eq_by_cmp nat_cmp k e.0) there
      where
        by_tie : (find nat_cmp k es ≡ Some x → P x) → (b : Bool) → cond b (Some e.1) (find nat_cmp k es) ≡ Some x → P x
        by_tie rest true there = let same : e.1 ≡ x = cc in subst P same all.0
        by_tie rest false there = rest there

    all_so : (es : List (ℕ × X)) → T (is_sorted nat_cmp es) → ((k : ℕ) (x : X) → find nat_cmp k es ≡ Some x → P x) → AllByRecursion P (values_in es)
    all_so [] sorted each = tt
    all_so (e ∷ es) sorted each = (each e.0 e.1 (found_first e es), all_so es (sorted_behind e es sorted) (λ k x there. each k x (found_behind e es sorted k x there)))

    -- what holds of all values of a map holds of the value at each key
    pub each_value : (m : FinMap nat_cmp X) → All P (map.values m) ↔ ((k : ℕ) (x : X) → map.get m k ≡ Some x → P x)
    each_value m = (
      λ all k x there. found_so (entries m) (recursion_from_All P (map.values m) all) k x (sym (get-entries m k) ∙ there),
      λ each. All-from_recursion P (map.values m) (all_so (entries m) (entries_sorted m) (λ k x there. each k x (get-entries m k ∙ there))),
    )
