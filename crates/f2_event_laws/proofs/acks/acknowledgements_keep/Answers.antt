use Rattle.f2_event_laws.proofs.Acknowledged.{acknowledgements}
use Rattle.f2_event_laws.proofs.acks.acknowledgements_keep.Goals as goal

pub returns : goal.returns
returns c = acknowledgements
