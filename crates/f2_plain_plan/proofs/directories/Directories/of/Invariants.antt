use Rattle.std.proofs.Common.{take}
use Rattle.f2_plain_plan.specs.Directories.{AreNamesOf, rows_at}
use Rattle.f2_plain_plan.proofs.directories.Directories.of.Given as goal

abbrev pub invariant-loop-row : goal.invariant-loop-row
invariant-loop-row l = AreNamesOf (take l.row-index (rows_at l.row-items)) l.directories
