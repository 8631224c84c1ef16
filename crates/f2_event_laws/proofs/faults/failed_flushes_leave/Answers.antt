use Rattle.f2_event_laws.proofs.Faulted.{failed_flushes}
use Rattle.f2_event_laws.proofs.faults.failed_flushes_leave.Goals as goal

pub returns : goal.returns
returns c = failed_flushes
