-- The rows to which paths lead, and what is known of them.
use Rattle.std.proofs.Common.{◌≡◌, ℕ, List, refl, sym, ap, subst, ◌∙◌, true≢false}
use Rattle.std.specs.Prelude.{Option, Some, None, Result, Ok, Err, IsOk}
use Rattle.std.specs.Result.{result_ok}
use Rattle.std.specs.FinMap as map
use Rattle.f2_files.proofs.Alike.{shape_there}
use Rattle.f2_files.specs.Led.{ino_at}
use Rattle.f2_files.specs.Shape.{Shapes, IsShapeOf}
use Rattle.f2_laws.proofs.Walks.{walk_ends, some_none, some_same}
use Rattle.f2_model.specs.Call.{refusal_of, to_directory}
use Rattle.f2_model.specs.Tree.{Rows, IsGoodTree, walk}
use Rattle.f2_model.specs.declared.rows.Row.{Row}
use Rattle.f2_model.specs.declared.replies.Reply.{Reply}
use Rattle.f2_call_size.specs.Calls.{IsInoAt, IsShapeAt}

pub row_of : (row one : Row) (end : Result Row Reply) → end ≡ Ok row → end ≡ Ok one → row ≡ one
row_of row one end e f = let same : ◌≡◌ {A = Result Row Reply} (Ok row) (Ok one) = sym e ∙ f in cc

no_end : (refused : Reply) → IsOk {T = Row} (Err refused) → ⊥
no_end refused h = true≢false (sym h)

-- a walk that ends at a directory isn't refused
pub to_row : (end : Result Row Reply) → refusal_of (to_directory end) ≡ None → refusal_of end ≡ None
to_row (Ok row) h = refl
to_row (Err refused) h = h

module _ (most : ℕ) (tree : Rows) (good : IsGoodTree most tree) (path : List (List ℕ)) where
  pub ino_found : (end : Result Row Reply) → walk tree path ≡ end → (o : Option ℕ) → o ≡ result_ok (ino_at end) → IsInoAt tree path o
  ino_found (Ok row) is None e = absurd (some_none (sym e))
  ino_found (Ok row) is (Some ino) e = (row, is, some_same (sym e))
  ino_found (Err refused) is None e = λ ok. no_end refused (subst (λ (r : Result Row Reply). IsOk r) is ok)
  ino_found (Err refused) is (Some ino) e = absurd (some_none e)

  module _ (shapes : Shapes) (are : IsShapeOf shapes tree) where
    pub shape_found : (ino : ℕ) → IsInoAt tree path (Some ino) → IsShapeAt tree path (map.get shapes ino)
    shape_found ino at =
        let row : Row = at.0 in
        let shape = shape_there shapes tree are row.ino row (walk_ends most tree good path row at.1).there in
        subst (IsShapeAt tree path) (sym (ap (map.get shapes) (sym at.2) ∙ shape.1)) (row, at.1, shape.2)
