-- The keys and the values of a map.
use Rattle.std.proofs.Common.{◌≡◌, inl, inr, ◌⊎◌, ℕ, Bool, true, false, cond, List, [], ◌∷◌, map, refl, sym, ap, ◌∙◌}
use Rattle.std.specs.Cmp.{nat_cmp_total}
use Rattle.std.specs.Prelude.{Some}
use Rattle.std.specs.Ordering.{nat_cmp, eq_by_cmp}
use Rattle.std.specs.FinMap as finite
use Rattle.std.specs.FinMap.{FinMap, entries, get-entries}
use Rattle.f2_image.specs.Reached.{AllDiffer}
use Rattle.f2_block_laws.proofs.Members.{IsIn, in_map, of_all}
use Rattle.f2_block_laws.proofs.Sets.{tied_same, tied_itself}
use Rattle.f2_block_laws.proofs.Keys.{keys_differ}

module _ {X : Type 0} (k : ℕ) (x : X) where
  -- an entry that is found stands among the entries
  found_entry : (es : List (ℕ × X)) → finite.find nat_cmp k es ≡ Some x → IsIn (k, x) es
  found_entry [] h = absurd (cc)
  found_entry (e ∷ es) h = by_tie (found_entry es) (eq_by_cmp nat_cmp k e.0) refl h
    where
      by_tie : (finite.find nat_cmp k es ≡ Some x → IsIn (k, x) es) → (b : Bool) → eq_by_cmp nat_cmp k e.0 ≡ b → cond b (Some e.1) (finite.find nat_cmp k es) ≡ Some x → ((k, x) ≡ e) ⊎ IsIn (k, x) es
      by_tie rest true tie h =
          let key = tied_same k e.0 tie in
          let value : e.1 ≡ x = cc in
          inl (λ i. (key i, sym value i))
      by_tie rest false tie h = inr (rest h)

module _ {X : Type 0} (m : FinMap nat_cmp X) (k : ℕ) (x : X) where
  pub entry_in : finite.get m k ≡ Some x → IsIn (k, x) (entries m)
  entry_in h = found_entry k x (entries m) (sym (get-entries m k) ∙ h)

  pub value_in : finite.get m k ≡ Some x → IsIn x (finite.values m)
  value_in h = in_map (λ (e : ℕ × X). e.1) (k, x) (entries m) (entry_in h)

-- and an entry that stands there is found
module _ {X : Type 0} where
  found_there : (e : ℕ × X) (es : List (ℕ × X)) → AllDiffer (map (λ (d : ℕ × X). d.0) es) → IsIn e es → finite.find nat_cmp e.0 es ≡ Some e.1
  found_there e [] differ h = absurd h
  found_there e (d ∷ es) differ (inl same) =
      let tie : eq_by_cmp nat_cmp e.0 d.0 ≡ true = ap (λ (c : ℕ × X). eq_by_cmp nat_cmp e.0 c.0) (sym same) ∙ tied_itself e.0 in
      ap (λ b. cond b (Some d.1) (finite.find nat_cmp e.0 es)) tie ∙ ap (λ (c : ℕ × X). Some c.1) (sym same)
  found_there e (d ∷ es) differ (inr later) = by_tie (found_there e es differ.1 later) (eq_by_cmp nat_cmp e.0 d.0) refl
    where
      by_tie : finite.find nat_cmp e.0 es ≡ Some e.1 → (b : Bool) → eq_by_cmp nat_cmp e.0 d.0 ≡ b → finite.find nat_cmp e.0 (d ∷ es) ≡ Some e.1
      by_tie rest true tie = absurd (of_all (λ k. ¬ (d.0 ≡ k)) e.0 (map (λ (c : ℕ × X). c.0) es) differ.0 (in_map (λ (c : ℕ × X). c.0) e es later) (sym (tied_same e.0 d.0 tie)))
      by_tie rest false tie = ap (λ b. cond b (Some d.1) (finite.find nat_cmp e.0 es)) tie ∙ rest

  pub entry_found : (m : FinMap nat_cmp X) (e : ℕ × X) → IsIn e (entries m) → finite.get m e.0 ≡ Some e.1
  entry_found m e there = get-entries m e.0 ∙ found_there e (entries m) (keys_differ nat_cmp_total m) there
