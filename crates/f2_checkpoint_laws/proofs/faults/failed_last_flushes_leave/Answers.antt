use Rattle.f2_checkpoint_laws.proofs.Closed.{failed_last_flushes}
use Rattle.f2_checkpoint_laws.proofs.faults.failed_last_flushes_leave.Goals as goal

pub returns : goal.returns
returns c = failed_last_flushes
