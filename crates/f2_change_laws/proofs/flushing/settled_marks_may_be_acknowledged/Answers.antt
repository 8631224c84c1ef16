use Rattle.f2_change_laws.proofs.Flushes.{settled_marks_may_be_acknowledged}
use Rattle.f2_change_laws.proofs.flushing.settled_marks_may_be_acknowledged.Goals as goal

pub returns : goal.returns
returns c = settled_marks_may_be_acknowledged
