use Rattle.std.proofs.Common.{◌≡◌, true, false, refl, sym, ◌∙◌}
use Rattle.f2_reference_calls.specs.Given.{rows_at}
use Rattle.f2_plain_check.specs.Parts.{HasRoom}
use Rattle.f2_plain_check.proofs.Left.{so_far, is_so, all_so}
use Rattle.f2_plain_check.proofs.room.have_room.Goals as goal

pub returns-then-not-branch : goal.returns-then-not-branch
returns-then-not-branch c = (
  λ t. absurd (let no : false ≡ true = t in cc),
  λ all. sym c.if-not-branch.true ∙ c.in_ok-has_room.ensures.1 (is_so (HasRoom c.args.geometry.now (rows_at c.args.rows.now)) c.args.rows.now c.loop-row.row-index c.loop-row.invariant c.row-item.result c.loop-row-test.true c.row-item.is all),
)

pub loop-row-preserved : goal.loop-row-preserved
loop-row-preserved c = so_far (HasRoom c.args.geometry.now (rows_at c.args.rows.now)) c.args.rows.now c.loop-row.row-index c.loop-row.invariant c.row-item.result c.loop-row-test.true c.row-item.is (c.in_ok-has_room.ensures.0 c.if-not-branch.false)

pub returns : goal.returns
returns c = (λ t. all_so (HasRoom c.args.geometry.now (rows_at c.args.rows.now)) c.args.rows.now c.loop-row.row-index c.loop-row.invariant c.loop-row-test.false, λ all. refl)
