-- Marks rolled over a base, and the first of them.
use Rattle.std.proofs.Common.{◌≡◌, ◌≤◌, ℕ, zero, suc, List, [], ◌∷◌, All, take, arith, refl, sym, ap, subst, ◌∙◌}
use Rattle.std.specs.Prelude.{Bool, true, false, cond, Some}
use Rattle.std.specs.Ordering.{nat_cmp, eq_by_cmp}
use Rattle.std.specs.Cmp.{nat_cmp_total, unsigned_tied}
use Rattle.std.proofs.lemmas.Bool.{eqb-true}
use Rattle.std.specs.FinMap as map
use Rattle.f2_model.specs.declared.rows.Row.{Row}
use Rattle.f2_model.specs.Tree.{Rows}
use Rattle.f2_model.specs.State.{Mark, rolled}
use Rattle.f2_reference_calls.specs.Given.{IsFitting}
use Rattle.f2_spans.specs.Spans.{MOST_SIZE}
use Rattle.f2_reference.specs.Sound.{IsFittingMark}

-- what holds of all holds of the first
pub all_taken : {X : Type 0} (P : X → Type 0) (n : ℕ) (xs : List X) → All P xs → All P (take n xs)
all_taken P zero xs all k d inside = absurd (omega arith)
all_taken P (suc n) [] all k d inside = absurd (omega arith)
all_taken P (suc n) (x ∷ xs) all zero d inside = all zero d (omega arith)
all_taken P (suc n) (x ∷ xs) all (suc k) d inside = all_taken P n xs (λ at e within. all (suc at) e (omega arith)) k d (omega arith)

-- a short row put under its own ino
put_fitting : (tree : Rows) (mark : Mark) → IsFitting tree → IsFittingMark mark → IsFitting (map.insert tree mark.ino mark.row)
put_fitting tree mark fitting own = record {
  keyed = λ at row is. (by_tie at row (eq_by_cmp nat_cmp at mark.ino) refl (sym (map.get-insert nat_cmp_total tree mark.ino mark.row at) ∙ is)).0;
  short = λ at row is. (by_tie at row (eq_by_cmp nat_cmp at mark.ino) refl (sym (map.get-insert nat_cmp_total tree mark.ino mark.row at) ∙ is)).1;
}
  where
    by_tie : (at : ℕ) (row : Row) (b : Bool) → eq_by_cmp nat_cmp at mark.ino ≡ b → cond (eq_by_cmp nat_cmp at mark.ino) (Some mark.row) (map.get tree at) ≡ Some row → (row.ino ≡ at) × (row.size ≤ MOST_SIZE)
    by_tie at row true tie is =
        let put : Some mark.row ≡ Some row = sym (ap (λ b. cond b (Some mark.row) (map.get tree at)) tie) ∙ is in
        let same : mark.row ≡ row = cc in
        (sym (ap (λ (r : Row). r.ino) same) ∙ own.0 ∙ sym (eqb-true at mark.ino (sym (unsigned_tied at mark.ino) ∙ tie)), subst (λ (r : Row). r.size ≤ MOST_SIZE) same own.1)
    by_tie at row false tie is =
        let there : map.get tree at ≡ Some row = sym (ap (λ b. cond b (Some mark.row) (map.get tree at)) tie) ∙ is in
        (fitting.keyed at row there, fitting.short at row there)

-- marked rows rolled over a base that fits leave a tree that fits
pub rolled_fitting : (base : Rows) (marks : List Mark) → IsFitting base → All IsFittingMark marks → IsFitting (rolled base marks)
rolled_fitting base [] fitting all = fitting
rolled_fitting base (mark ∷ marks) fitting all =
    rolled_fitting (map.insert base mark.ino mark.row) marks (put_fitting base mark fitting (all zero mark (omega arith))) (λ k d inside. all (suc k) d (omega arith))
