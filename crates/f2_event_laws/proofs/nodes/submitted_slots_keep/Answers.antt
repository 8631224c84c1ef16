use Rattle.f2_event_laws.proofs.SubmittedSlots.{submitted_slots}
use Rattle.f2_event_laws.proofs.nodes.submitted_slots_keep.Goals as goal

pub returns : goal.returns
returns c = submitted_slots
