use Rattle.f2_checkpoint_laws.proofs.Closed.{failed_blocks}
use Rattle.f2_checkpoint_laws.proofs.faults.failed_blocks_leave.Goals as goal

pub returns : goal.returns
returns c = failed_blocks
