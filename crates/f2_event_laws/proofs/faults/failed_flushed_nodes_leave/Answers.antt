use Rattle.f2_event_laws.proofs.Faulted.{failed_nodes}
use Rattle.f2_event_laws.proofs.faults.failed_flushed_nodes_leave.Goals as goal

pub returns : goal.returns
returns c = failed_nodes
