use Rattle.f2_event_laws.proofs.Faulted.{failed_pages}
use Rattle.f2_event_laws.proofs.faults.failed_pages_leave.Goals as goal

pub returns : goal.returns
returns c = failed_pages
