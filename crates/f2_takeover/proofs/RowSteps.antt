-- Rows are made ino by ino.
use Rattle.std.proofs.Common.{◌≡◌, ◌⊎◌, inl, inr, ℕ, ◌+◌, ◌<◌, ◌≤◌, sym, ap, ◌∙◌, subst, arith}
use Rattle.std.specs.Prelude.{Some, None}
use Rattle.std.specs.Ordering.{nat_cmp}
use Rattle.std.specs.FinMap as map
use Rattle.std.specs.FinSet as set
use Rattle.std.proofs.lemmas.Bool.{cases_lt}
use Rattle.f2_overlay.proofs.Maps.{get_put, get_put-other}
use Rattle.f2_recover.specs.Walking.{BaseRows}
use Rattle.f2_takeover.specs.Rows.{Rolls, IsMade, AreMadeTo}
use Rattle.f2_takeover.specs.declared.rows.TakenRow.{TakenRow}

abbrev Rows : Type 0
Rows = map.FinMap nat_cmp TakenRow

module _ (rolls : Rolls) (base : BaseRows) (changed : set.FinSet nat_cmp) where
  pub made_none : (rows : Rows) → rows ≡ map.empty → AreMadeTo rolls base changed 0 rows
  made_none rows empty = record {
    below = λ ino low. absurd (omega (arith, low));
    above = λ ino high. ap (λ (m : Rows). map.get m ino) empty ∙ map.get-empty nat_cmp ino;
  }

  module _ (limit : ℕ) (old new : Rows) (to : AreMadeTo rolls base changed limit old) where
    pub made_with : (row : TakenRow) → IsMade base (map.get rolls limit) (map.get base limit) (set.contains changed limit) (Some row) → new ≡ map.insert old limit row → AreMadeTo rolls base changed (limit + 1) new
    made_with row is put = record {
      below = λ ino low. by ino low (cases_lt ino limit);
      above = λ ino high. other ino (λ same. omega (arith, high, same)) ∙ to.above ino (omega (arith, high));
    }
      where
        other : (ino : ℕ) → (ino ≡ limit → ⊥) → map.get new ino ≡ map.get old ino
        other ino apart = ap (λ (m : Rows). map.get m ino) put ∙ get_put-other old limit row ino apart

        here : map.get new limit ≡ Some row
        here = ap (λ (m : Rows). map.get m limit) put ∙ get_put old limit row

        by : (ino : ℕ) → ino < limit + 1 → (ino < limit) ⊎ (limit ≤ ino) → IsMade base (map.get rolls ino) (map.get base ino) (set.contains changed ino) (map.get new ino)
        by ino low (inl less) = subst (IsMade base (map.get rolls ino) (map.get base ino) (set.contains changed ino)) (sym (other ino (λ same. omega (arith, less, same)))) (to.below ino less)
        by ino low (inr more) =
            let same : limit ≡ ino = omega (arith, low, more) in
            subst (λ n. IsMade base (map.get rolls n) (map.get base n) (set.contains changed n) (map.get new n)) same (subst (IsMade base (map.get rolls limit) (map.get base limit) (set.contains changed limit)) (sym here) is)

    pub made_without : IsMade base (map.get rolls limit) (map.get base limit) (set.contains changed limit) None → new ≡ old → AreMadeTo rolls base changed (limit + 1) new
    made_without is same = subst (AreMadeTo rolls base changed (limit + 1)) (sym same) (record { below = λ ino low. by ino low (cases_lt ino limit); above = λ ino high. to.above ino (omega (arith, high)) })
      where
        by : (ino : ℕ) → ino < limit + 1 → (ino < limit) ⊎ (limit ≤ ino) → IsMade base (map.get rolls ino) (map.get base ino) (set.contains changed ino) (map.get old ino)
        by ino low (inl less) = to.below ino less
        by ino low (inr more) =
            let here : limit ≡ ino = omega (arith, low, more) in
            subst (λ n. IsMade base (map.get rolls n) (map.get base n) (set.contains changed n) (map.get old n)) here (subst (IsMade base (map.get rolls limit) (map.get base limit) (set.contains changed limit)) (sym (to.above limit (omega arith))) is)
