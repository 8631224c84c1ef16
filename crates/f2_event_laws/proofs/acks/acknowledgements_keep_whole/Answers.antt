use Rattle.f2_event_laws.proofs.WholeAcks.{acknowledgements_whole}
use Rattle.f2_event_laws.proofs.acks.acknowledgements_keep_whole.Goals as goal

pub returns : goal.returns
returns c = acknowledgements_whole
