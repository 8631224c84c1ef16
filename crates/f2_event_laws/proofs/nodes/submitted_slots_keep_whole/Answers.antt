use Rattle.f2_event_laws.proofs.WholeNodes.{submitted_slots_whole}
use Rattle.f2_event_laws.proofs.nodes.submitted_slots_keep_whole.Goals as goal

pub returns : goal.returns
returns c = submitted_slots_whole
