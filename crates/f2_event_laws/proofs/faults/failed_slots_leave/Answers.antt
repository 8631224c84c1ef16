use Rattle.f2_event_laws.proofs.Faulted.{failed_slots}
use Rattle.f2_event_laws.proofs.faults.failed_slots_leave.Goals as goal

pub returns : goal.returns
returns c = failed_slots
