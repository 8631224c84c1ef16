use Rattle.f2_checkpoint_laws.proofs.Closed.{failed_tails}
use Rattle.f2_checkpoint_laws.proofs.faults.failed_tails_leave.Goals as goal

pub returns : goal.returns
returns c = failed_tails
