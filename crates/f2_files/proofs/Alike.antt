-- Rows of a tree and the shapes that they have.
use Rattle.std.proofs.Common.{◌≡◌, ◌≢◌, ◌⊎◌, inl, inr, ℕ, refl, sym, subst}
use Rattle.std.specs.Prelude.{Option, Some, None}
use Rattle.std.specs.FinMap as map
use Rattle.f2_model.specs.Tree.{Rows}
use Rattle.f2_model.specs.declared.rows.Row.{Row}
use Rattle.f2_laws.proofs.Maps.{get_put, get_put-other, get_taken, get_taken-other}
use Rattle.f2_laws.proofs.Places.{same_or_other}
use Rattle.f2_files.specs.Shape.{Shapes, IsShape, AreAlike, IsShapeOf}
use Rattle.f2_files.specs.declared.shapes.Shape.{Shape}

alike_shape : (o : Option Shape) (row : Row) → AreAlike o (Some row) → (shape : Shape) × (o ≡ Some shape) × IsShape shape row
alike_shape None row h = absurd h
alike_shape (Some shape) row h = (shape, refl, h)

alike_row : (shape : Shape) (o : Option Row) → AreAlike (Some shape) o → (row : Row) × (o ≡ Some row) × IsShape shape row
alike_row shape None h = absurd h
alike_row shape (Some row) h = (row, refl, h)

alike_none : (o : Option Row) → AreAlike None o → o ≡ None
alike_none None h = refl
alike_none (Some row) h = absurd h

module _ (shapes : Shapes) (tree : Rows) (are : IsShapeOf shapes tree) where
  pub shape_there : (ino : ℕ) (row : Row) → map.get tree ino ≡ Some row → (shape : Shape) × (map.get shapes ino ≡ Some shape) × IsShape shape row
  shape_there ino row there = alike_shape (map.get shapes ino) row (subst (AreAlike (map.get shapes ino)) there (are.each ino))

  pub row_there : (ino : ℕ) (shape : Shape) → map.get shapes ino ≡ Some shape → (row : Row) × (map.get tree ino ≡ Some row) × IsShape shape row
  row_there ino shape there = alike_row shape (map.get tree ino) (subst (λ o. AreAlike o (map.get tree ino)) there (are.each ino))

  pub no_row : (ino : ℕ) → map.get shapes ino ≡ None → map.get tree ino ≡ None
  no_row ino none = alike_none (map.get tree ino) (subst (λ o. AreAlike o (map.get tree ino)) none (are.each ino))

  -- a row put on both sides, and one taken out of both
  pub put_alike : (ino : ℕ) (shape : Shape) (row : Row) → IsShape shape row → IsShapeOf (map.insert shapes ino shape) (map.insert tree ino row)
  put_alike ino shape row is = record { each = λ q. by_ino q (same_or_other q ino) }
    where
      by_ino : (q : ℕ) → (q ≡ ino) ⊎ (q ≢ ino) → AreAlike (map.get (map.insert shapes ino shape) q) (map.get (map.insert tree ino row) q)
      by_ino q (inl same) =
          subst (λ i. AreAlike (map.get (map.insert shapes ino shape) i) (map.get (map.insert tree ino row) i)) (sym same)
          (subst (λ o. AreAlike o (map.get (map.insert tree ino row) ino)) (sym (get_put shapes ino shape))
          (subst (AreAlike (Some shape)) (sym (get_put tree ino row)) is))
      by_ino q (inr other) =
          subst (λ o. AreAlike o (map.get (map.insert tree ino row) q)) (sym (get_put-other shapes ino shape q other))
          (subst (AreAlike (map.get shapes q)) (sym (get_put-other tree ino row q other)) (are.each q))

  pub taken_alike : (ino : ℕ) → IsShapeOf (map.remove shapes ino) (map.remove tree ino)
  taken_alike ino = record { each = λ q. by_ino q (same_or_other q ino) }
    where
      by_ino : (q : ℕ) → (q ≡ ino) ⊎ (q ≢ ino) → AreAlike (map.get (map.remove shapes ino) q) (map.get (map.remove tree ino) q)
      by_ino q (inl same) =
          subst (λ i. AreAlike (map.get (map.remove shapes ino) i) (map.get (map.remove tree ino) i)) (sym same)
          (subst (λ o. AreAlike o (map.get (map.remove tree ino) ino)) (sym (get_taken shapes ino))
          (subst (AreAlike None) (sym (get_taken tree ino)) tt))
      by_ino q (inr other) =
          subst (λ o. AreAlike o (map.get (map.remove tree ino) q)) (sym (get_taken-other shapes ino q other))
          (subst (AreAlike (map.get shapes q)) (sym (get_taken-other tree ino q other)) (are.each q))
