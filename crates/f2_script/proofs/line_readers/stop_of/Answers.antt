use Rattle.f2_script.proofs.LineKinds.{stop_none}
use Rattle.f2_script.proofs.line_readers.stop_of.Goals as goal

pub returns-in_err-n : goal.returns-in_err-n
returns-in_err-n c = rw c.from_residual.ensures (stop_none _ c.in_err-n.ensures)
