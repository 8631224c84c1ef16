use Rattle.f2_plain_check.specs.Parts.{IsGoodRow}
use Rattle.f2_plain_check.proofs.Left.{Decide}
use Rattle.f2_plain_check.proofs.good.are_good_rows.Given as goal

-- the rows that are left decide
abbrev pub invariant-loop-row : goal.invariant-loop-row
invariant-loop-row l = Decide (IsGoodRow l.tree) l.rows l.row-index
