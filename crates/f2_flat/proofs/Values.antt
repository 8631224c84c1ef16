-- The rows of a map are those at its keys.
use Rattle.std.proofs.Common.{◌≡◌, inl, inr, ℕ, Bool, true, false, cond, ◌&&◌, List, [], ◌∷◌, refl, sym, ap, subst, ◌∙◌}
use Rattle.std.specs.Prelude.{T, Some}
use Rattle.std.specs.List.{AllByRecursion}
use Rattle.std.specs.Ordering.{nat_cmp, eq_by_cmp, is_lt}
use Rattle.std.specs.Cmp.{nat_cmp_total, tied_itself}
use Rattle.std.specs.declared.cmp.Ordering.{Ordering}
use Rattle.std.specs.declared.cmp.Ordering.TheVariants.{Equal}
use Rattle.std.specs.FinMap as map
use Rattle.std.specs.FinMap.{FinMap, find, is_sorted, entries, entries_sorted, get-entries}
use Rattle.std.specs.FinMap.Entries.{below_all}
use Rattle.f2_laws.proofs.Missing.{tied-true, tied-same}
use Rattle.f2_laid_laws.proofs.Members.{IsIn, from_map}

first : (a b : Bool) → T (a && b) → T a
first true b p = tt
first false b p = absurd p

second : (a b : Bool) → T (a && b) → T b
second true b p = p
second false b p = absurd p

pub each_in : {X : Type 0} (P : X → Type 0) (xs : List X) → ((x : X) → IsIn x xs → P x) → AllByRecursion P xs
each_in P [] each = tt
each_in P (x ∷ xs) each = (each x (inl refl), each_in P xs (λ y there. each y (inr there)))

not_tied : (k q : ℕ) → T (is_lt (nat_cmp k q)) → (b : Bool) → eq_by_cmp nat_cmp q k ≡ b → b ≡ false
not_tied k q less true tie =
    let same : nat_cmp k q ≡ Equal = ap (λ i. nat_cmp k i) (tied-true q k tie) ∙ tied_itself nat_cmp_total k in
    absurd (subst (λ (o : Ordering). T (is_lt o)) same less)
not_tied k q less false tie = refl

module _ {X : Type 0} where
  less_behind : (k : ℕ) (es : List (ℕ × X)) → T (below_all nat_cmp k es) → (e : ℕ × X) → IsIn e es → T (is_lt (nat_cmp k e.0))
  less_behind k [] below e there = absurd there
  less_behind k (d ∷ es) below e (inl same) = subst (λ (c : ℕ × X). T (is_lt (nat_cmp k c.0))) (sym same) (first _ _ below)
  less_behind k (d ∷ es) below e (inr there) = less_behind k es (second _ _ below) e there

  -- an entry is found at its key
  found_in : (es : List (ℕ × X)) → T (is_sorted nat_cmp es) → (e : ℕ × X) → IsIn e es → find nat_cmp e.0 es ≡ Some e.1
  found_in [] sorted e there = absurd there
  found_in (d ∷ es) sorted e (inl same) =
      subst (λ (c : ℕ × X). find nat_cmp c.0 (d ∷ es) ≡ Some c.1) (sym same) (ap (λ b. cond b (Some d.1) (find nat_cmp d.0 es)) (tied-same d.0))
  found_in (d ∷ es) sorted e (inr there) =
      let other = not_tied d.0 e.0 (less_behind d.0 es (first _ _ sorted) e there) (eq_by_cmp nat_cmp e.0 d.0) refl in
      ap (λ b. cond b (Some d.1) (find nat_cmp e.0 es)) other ∙ found_in es (second _ _ sorted) e there

  pub value_at : (m : FinMap nat_cmp X) (x : X) → IsIn x (map.values m) → (k : ℕ) × (map.get m k ≡ Some x)
  value_at m x there =
      let from = from_map (λ (e : ℕ × X). e.1) x (entries m) there in
      let entry : ℕ × X = from.0 in
      (entry.0, get-entries m entry.0 ∙ found_in (entries m) (entries_sorted m) entry from.1 ∙ ap (λ y. Some y) from.2)

  -- and so are its entries
  pub entry_at : (m : FinMap nat_cmp X) (k : ℕ) → IsIn k (map.keys m) → (x : X) × (map.get m k ≡ Some x)
  entry_at m k there =
      let from = from_map (λ (e : ℕ × X). e.0) k (entries m) there in
      let entry : ℕ × X = from.0 in
      (entry.1, ap (λ i. map.get m i) (sym from.2) ∙ get-entries m entry.0 ∙ found_in (entries m) (entries_sorted m) entry from.1)
