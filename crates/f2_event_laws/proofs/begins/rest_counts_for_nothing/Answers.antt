use Rattle.f2_event_laws.proofs.Rest.{rest_for_nothing}
use Rattle.f2_event_laws.proofs.begins.rest_counts_for_nothing.Goals as goal

pub returns : goal.returns
returns c = rest_for_nothing
