use Rattle.f2_checkpoint_laws.proofs.Closed.{failed_first_flushes}
use Rattle.f2_checkpoint_laws.proofs.faults.failed_first_flushes_leave.Goals as goal

pub returns : goal.returns
returns c = failed_first_flushes
