use Rattle.f2_live_laws.proofs.Told.{marks_tell_no_nodes}
use Rattle.f2_live_laws.proofs.telling.marks_tell_no_nodes.Goals as goal

pub returns : goal.returns
returns c = marks_tell_no_nodes
