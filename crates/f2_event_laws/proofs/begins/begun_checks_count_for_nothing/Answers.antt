use Rattle.f2_event_laws.proofs.Rest.{begun_checks}
use Rattle.f2_event_laws.proofs.begins.begun_checks_count_for_nothing.Goals as goal

pub returns : goal.returns
returns c = begun_checks
