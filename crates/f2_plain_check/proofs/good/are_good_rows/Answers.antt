use Rattle.std.proofs.Common.{◌≡◌, true, false, refl, sym, ◌∙◌}
use Rattle.f2_plain_check.specs.Parts.{IsGoodRow}
use Rattle.f2_plain_check.proofs.Left.{so_far, is_so, all_so}
use Rattle.f2_plain_check.proofs.good.are_good_rows.Goals as goal

pub returns-then-not-branch : goal.returns-then-not-branch
returns-then-not-branch c = (
  λ t. absurd (let no : false ≡ true = t in cc),
  λ all. sym c.if-not-branch.true ∙ c.in_ok-is_good_row.ensures.1 (is_so (IsGoodRow c.args.tree.now) c.args.rows.now c.loop-row.row-index c.loop-row.invariant c.row-item.result c.loop-row-test.true c.row-item.is all),
)

pub loop-row-preserved : goal.loop-row-preserved
loop-row-preserved c = so_far (IsGoodRow c.args.tree.now) c.args.rows.now c.loop-row.row-index c.loop-row.invariant c.row-item.result c.loop-row-test.true c.row-item.is (c.in_ok-is_good_row.ensures.0 c.if-not-branch.false)

pub returns : goal.returns
returns c = (λ t. all_so (IsGoodRow c.args.tree.now) c.args.rows.now c.loop-row.row-index c.loop-row.invariant c.loop-row-test.false, λ all. refl)
