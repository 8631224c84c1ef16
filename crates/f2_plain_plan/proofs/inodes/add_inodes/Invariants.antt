use Rattle.std.proofs.Common.{take}
use Rattle.f2_plain_plan.specs.Directories.{rows_at}
use Rattle.f2_plain_plan.specs.Inodes.{AddsInodes}
use Rattle.f2_plain_plan.proofs.inodes.add_inodes.Given as goal

abbrev pub invariant-loop-row : goal.invariant-loop-row
invariant-loop-row l = AddsInodes (take l.row-index (rows_at l.rows)) l.places l.initial.blocks.items l.blocks.items
