-- Rows are made ino by ino.
use Rattle.std.proofs.Common.{◌≡◌, ◌⊎◌, inl, inr, ℕ, ◌+◌, ◌<◌, ◌≤◌, sym, ap, ◌∙◌, subst, arith}
use Rattle.std.specs.Prelude.{Option, Some, None}
use Rattle.std.specs.Ordering.{nat_cmp}
use Rattle.std.specs.FinMap as map
use Rattle.std.proofs.lemmas.Bool.{cases_lt}
use Rattle.f2_overlay.proofs.Maps.{get_put, get_put-other, not_none}
use Rattle.f2_overlay.specs.declared.rolls.Roll.{Roll}
use Rattle.f2_recover.specs.Walking.{BaseRows}
use Rattle.f2_recover.specs.declared.rows.BaseRow.{BaseRow}
use Rattle.f2_found.specs.Made.{Rolls, IsMade, AreMadeTo}
use Rattle.f2_found.specs.Places.{AreBelow}
use Rattle.f2_found.specs.declared.rows.FoundRow.{FoundRow}

abbrev Rows : Type 0
Rows = map.FinMap nat_cmp FoundRow

module _ (blocks : ℕ) (rolls : Rolls) (base : BaseRows) where
  pub made_none : (rows : Rows) → rows ≡ map.empty → AreMadeTo blocks rolls base 0 rows
  made_none rows empty = record {
    below = λ ino low. absurd (omega (arith, low));
    above = λ ino high. ap (λ (m : Rows). map.get m ino) empty ∙ map.get-empty nat_cmp ino;
  }

  module _ (limit : ℕ) (old new : Rows) (to : AreMadeTo blocks rolls base limit old) where
    pub made_with : (row : FoundRow) → IsMade blocks (map.get rolls limit) (map.get base limit) (Some row) → new ≡ map.insert old limit row → AreMadeTo blocks rolls base (limit + 1) new
    made_with row is put = record {
      below = λ ino low. by ino low (cases_lt ino limit);
      above = λ ino high. other ino (λ same. omega (arith, high, same)) ∙ to.above ino (omega (arith, high));
    }
      where
        other : (ino : ℕ) → (ino ≡ limit → ⊥) → map.get new ino ≡ map.get old ino
        other ino apart = ap (λ (m : Rows). map.get m ino) put ∙ get_put-other old limit row ino apart

        here : map.get new limit ≡ Some row
        here = ap (λ (m : Rows). map.get m limit) put ∙ get_put old limit row

        by : (ino : ℕ) → ino < limit + 1 → (ino < limit) ⊎ (limit ≤ ino) → IsMade blocks (map.get rolls ino) (map.get base ino) (map.get new ino)
        by ino low (inl less) = subst (IsMade blocks (map.get rolls ino) (map.get base ino)) (sym (other ino (λ same. omega (arith, less, same)))) (to.below ino less)
        by ino low (inr more) =
            let same : limit ≡ ino = omega (arith, low, more) in
            subst (λ n. IsMade blocks (map.get rolls n) (map.get base n) (map.get new n)) same (subst (IsMade blocks (map.get rolls limit) (map.get base limit)) (sym here) is)

    pub made_without : IsMade blocks (map.get rolls limit) (map.get base limit) None → new ≡ old → AreMadeTo blocks rolls base (limit + 1) new
    made_without is same = subst (AreMadeTo blocks rolls base (limit + 1)) (sym same) (record { below = λ ino low. by ino low (cases_lt ino limit); above = λ ino high. to.above ino (omega (arith, high)) })
      where
        by : (ino : ℕ) → ino < limit + 1 → (ino < limit) ⊎ (limit ≤ ino) → IsMade blocks (map.get rolls ino) (map.get base ino) (map.get old ino)
        by ino low (inl less) = to.below ino less
        by ino low (inr more) =
            let here : limit ≡ ino = omega (arith, low, more) in
            subst (λ n. IsMade blocks (map.get rolls n) (map.get base n) (map.get old n)) here (subst (IsMade blocks (map.get rolls limit) (map.get base limit)) (sym (to.above limit (omega arith))) is)

-- in rows that were made all pages stand within the blocks
module _ (blocks : ℕ) (rolls : Rolls) (base : BaseRows) (limit : ℕ) (rows : Rows) (to : AreMadeTo blocks rolls base limit rows) where
  of_made : (roll : Option Roll) (old : Option BaseRow) (row : FoundRow) → IsMade blocks roll old (Some row) → AreBelow blocks row.pages
  of_made (Some roll) old row is = is.within
  of_made None (Some old) row is = is.within
  of_made None None row is = absurd is

  pub within_blocks : (ino : ℕ) (row : FoundRow) → map.get rows ino ≡ Some row → AreBelow blocks row.pages
  within_blocks ino row there = by (cases_lt ino limit)
    where
      by : (ino < limit) ⊎ (limit ≤ ino) → AreBelow blocks row.pages
      by (inl low) = of_made (map.get rolls ino) (map.get base ino) row (subst (IsMade blocks (map.get rolls ino) (map.get base ino)) there (to.below ino low))
      by (inr high) = absurd (not_none row (sym (to.above ino high) ∙ there))
