-- A row that is taken out of a tree, changed, and put back.
use Rattle.std.proofs.Common.{◌≡◌, ℕ, List, sym, ap, ◌∙◌}
use Rattle.std.specs.Prelude.{Some, None, Result, Ok, Err, IfOk, IfErr, OnOk, OnErr}
use Rattle.std.specs.FinMap as map
use Rattle.f2_model.specs.Tree.{Rows}
use Rattle.f2_model.specs.declared.rows.Row.{Row}
use Rattle.f2_model.specs.declared.requests.Piece.{Piece}
use Rattle.f2_laws.proofs.Maps.{get_put}
use Rattle.f2_laws.proofs.Walks.{some_same, some_none}
use Rattle.f2_flat.specs.Steps.{row_with, with_pieces}
use Rattle.f2_flat.proofs.Trees.{put_same, put_twice}

-- what putting a row in the place of another comes to
pub record Replaces (before after : Rows) (row : Row) (told : Result Row Row) : Type 0 where
  pub ok : IfOk told (λ old. (map.get before row.ino ≡ Some old) × (after ≡ map.insert before row.ino row))
  pub err : IfErr told (λ back. (back ≡ row) × (map.get before row.ino ≡ None) × (after ≡ before))

replaced : (before after : Rows) (row some : Row) (told : Result Row Row) → Replaces before after row told → map.get before row.ino ≡ Some some → after ≡ map.insert before row.ino row
replaced before after row some (Ok old) is there = is.ok.1
replaced before after row some (Err back) is there = absurd (some_none (sym there ∙ is.err.1))

-- it is taken out, and a stub put there
pub record IsOut (tree out : Rows) (ino : ℕ) (stub was row : Row) : Type 0 where
  pub own : stub.ino ≡ ino
  pub there : map.get tree ino ≡ Some row
  pub keyed : row.ino ≡ ino
  pub taken : map.get tree stub.ino ≡ Some was
  pub left : out ≡ map.insert tree stub.ino stub

module _ (tree out after : Rows) (ino : ℕ) (stub was row now : Row) (told : Result Row Row) (is : IsOut tree out ino stub was row) (back : Replaces out after now told) where
  same : row ≡ was
  same = some_same (sym is.there ∙ ap (λ i. map.get tree i) (sym is.own) ∙ is.taken)

  put_back : now.ino ≡ ino → after ≡ map.insert tree ino now
  put_back number =
      let left : out ≡ map.insert tree ino stub = is.left ∙ ap (λ i. map.insert tree i stub) is.own in
      let stands : map.get out now.ino ≡ Some stub = ap (λ (t : Rows). map.get t now.ino) left ∙ ap (λ i. map.get (map.insert tree ino stub) i) number ∙ get_put tree ino stub in
      replaced out after now stub told back stands
      ∙ ap (λ i. map.insert out i now) number
      ∙ ap (λ (t : Rows). map.insert t ino now) left
      ∙ put_twice tree ino stub now

  back_with : (pieces : List Piece) → now ≡ row_with was pieces → after ≡ with_pieces tree row pieces
  back_with pieces changed =
      let is_now : now ≡ row_with row pieces = changed ∙ ap (λ (r : Row). row_with r pieces) (sym same) in
      put_back (ap (λ (r : Row). r.ino) is_now ∙ is.keyed)
      ∙ ap (λ i. map.insert tree i now) (sym is.keyed)
      ∙ ap (λ (r : Row). map.insert tree row.ino r) is_now

  back_same : now ≡ was → after ≡ tree
  back_same unchanged =
      let is_now : now ≡ row = unchanged ∙ sym same in
      put_back (ap (λ (r : Row). r.ino) is_now ∙ is.keyed)
      ∙ ap (λ (r : Row). map.insert tree ino r) is_now
      ∙ put_same tree ino row is.there

  pub back_ok : {U E : Type 0} (pieces : List Piece) (done : Result U E) → OnOk done (now ≡ row_with was pieces) → OnOk done (after ≡ with_pieces tree row pieces)
  back_ok pieces (Ok u) changed = back_with pieces changed
  back_ok pieces (Err e) changed = tt

  pub back_err : {U E : Type 0} (done : Result U E) → OnErr done (now ≡ was) → OnErr done (after ≡ tree)
  back_err (Ok u) unchanged = tt
  back_err (Err e) unchanged = back_same unchanged
