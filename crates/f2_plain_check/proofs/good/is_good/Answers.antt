use Rattle.std.proofs.Common.{◌≡◌, ◌↔◌, IsTrue, true, false, List, sym, ap, subst, ◌∙◌}
use Rattle.std.specs.Prelude.{All}
use Rattle.std.specs.FinMap as map
use Rattle.f2_model.specs.declared.rows.Row.{Row}
use Rattle.f2_reference_calls.specs.Given.{rows_at}
use Rattle.f2_plain_check.specs.Parts.{IsGoodRow}
use Rattle.f2_plain_check.proofs.Together.{good_tree, rows_of_good}
use Rattle.f2_plain_check.proofs.good.is_good.Goals as goal
use Rattle.f2_plain_check.proofs.good.is_good.Goals.{then-branch+in_ok-are_apart, else-branch}

pub returns : goal.returns
returns c =
    let tree = c.args.tree.now in
    let rows : rows_at c.as_slice.result.now ≡ map.values tree = ap rows_at c.as_slice.ensures.value ∙ c.in_ok-rows.ensures in
    let all : IsTrue c.in_ok-are_good_rows.field-0 ↔ All (IsGoodRow tree) (map.values tree) =
    subst (λ (l : List Row). IsTrue c.in_ok-are_good_rows.field-0 ↔ All (IsGoodRow tree) l) rows c.in_ok-are_good_rows.ensures in
    elim c.if-branch.branch [
      | then-branch+in_ok-are_apart w ↦ (
        λ t.
            good_tree tree (c.has_root.ensures.0 c.if-not-has_root.false) (c.in_ok-is_keyed.ensures.0 c.if-not-branch.false) (all.0 w.if-branch.true)
            (w.in_ok-are_apart.ensures.0 (sym w.result-is ∙ t)),
        λ good. w.result-is ∙ w.in_ok-are_apart.ensures.1 good.apart,
      )
      | else-branch w ↦ (
        λ t. absurd (let no : false ≡ true = sym w.if-branch.false ∙ sym w.result-is ∙ t in cc),
        λ good. w.result-is ∙ all.1 (rows_of_good tree good),
      )
    ]
