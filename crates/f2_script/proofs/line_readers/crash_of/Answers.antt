use Rattle.f2_script.proofs.LineKinds.{crash_none}
use Rattle.f2_script.proofs.line_readers.crash_of.Goals as goal

pub returns-in_err-pick : goal.returns-in_err-pick
returns-in_err-pick c = rw c.from_residual.ensures (crash_none _ c.in_err-pick.ensures)
