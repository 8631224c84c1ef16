use Rattle.f2_event_laws.proofs.JoinedOwners.{owners_join}
use Rattle.f2_event_laws.proofs.marks.owners_may_join.Goals as goal

pub returns : goal.returns
returns c = owners_join
