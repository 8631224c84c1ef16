use Rattle.std.proofs.Common.{◌≡◌, ◌==◌, ◌∙◌, ◌&&◌, not, false, map, sym, ap}
use Rattle.std.specs.FinMap as finite
use Rattle.std.specs.List.{list_any}
use Rattle.f2_model.specs.State.{Mark}
use Rattle.f2_model.specs.Tree.{Rows, names_of, stands_at}
use Rattle.f2_model.specs.declared.rows.Row.{Row}
use Rattle.f2_reference_reasons.proofs.Left.{any_marks, any_behind}
use Rattle.f2_reference_reasons.proofs.reasons.is_name_taken.Goals as goal

pub returns-else-is_named_in_tree : goal.returns-else-is_named_in_tree
returns-else-is_named_in_tree c =
    let p = λ (other : Row). not (other.ino == c.args.row.now.ino) && list_any (λ at. stands_at at.0 at.1 other) (names_of c.args.row.now) in
    let none : list_any p (finite.values c.args.plain.now.state.base) ≡ false =
    ap (λ (tree : Rows). list_any p (finite.values tree)) (sym c.base.ensures) ∙ sym c.is_named_in_tree.ensures ∙ c.if-is_named_in_tree.false in
    c.is_named_in_marks.ensures ∙ any_marks p c.marks.result.now
    ∙ ap (λ marks. list_any p (map (λ (mark : Mark). mark.row) marks)) c.marks.ensures
    ∙ sym (any_behind p (finite.values c.args.plain.now.state.base) _ none)
