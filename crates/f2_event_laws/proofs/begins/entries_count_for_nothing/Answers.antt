use Rattle.f2_event_laws.proofs.Rest.{entries_for_nothing}
use Rattle.f2_event_laws.proofs.begins.entries_count_for_nothing.Goals as goal

pub returns : goal.returns
returns c = entries_for_nothing
