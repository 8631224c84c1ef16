use Rattle.f2_reference_calls.specs.Given.{rows_at}
use Rattle.f2_plain_check.specs.Parts.{HasRoom}
use Rattle.f2_plain_check.proofs.Left.{Decide}
use Rattle.f2_plain_check.proofs.room.have_room.Given as goal

-- the rows that are left decide
abbrev pub invariant-loop-row : goal.invariant-loop-row
invariant-loop-row l = Decide (HasRoom l.geometry (rows_at l.rows)) l.rows l.row-index
