use Rattle.f2_script.proofs.LineKinds.{end_none}
use Rattle.f2_script.proofs.line_readers.end_of.Goals as goal

pub returns-in_err-seat : goal.returns-in_err-seat
returns-in_err-seat c = rw c.from_residual.ensures (end_none _ c.in_err-seat.ensures)
