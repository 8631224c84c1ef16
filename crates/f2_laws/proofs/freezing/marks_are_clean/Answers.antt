use Rattle.f2_laws.proofs.freezing.marks_are_clean.Goals as goal
use Rattle.f2_laws.proofs.Settled.{marks_clean}

pub returns : goal.returns
returns c = marks_clean
