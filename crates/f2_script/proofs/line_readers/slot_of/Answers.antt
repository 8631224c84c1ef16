use Rattle.f2_script.proofs.LineKinds.{slot_none}
use Rattle.f2_script.proofs.line_readers.slot_of.Goals as goal

pub returns-in_err-seat : goal.returns-in_err-seat
returns-in_err-seat c = rw c.from_residual.ensures (slot_none _ c.in_err-seat.ensures)
