use Rattle.std.proofs.Common.{drop}
use Rattle.f2_reference_calls.specs.Given.{rows_at}
use Rattle.f2_plain_check.proofs.Seen.{AreLeft}
use Rattle.f2_plain_check.proofs.names.are_apart.Given as goal

-- the names seen are those of the rows so far, and the rows that are left decide
abbrev pub invariant-loop-row : goal.invariant-loop-row
invariant-loop-row l = AreLeft l.seen (rows_at (drop l.row-index l.row-items)) (rows_at l.row-items)
