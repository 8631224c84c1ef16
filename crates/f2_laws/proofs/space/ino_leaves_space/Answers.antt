use Rattle.f2_laws.proofs.space.ino_leaves_space.Goals as goal
use Rattle.f2_laws.proofs.NewRows.{same_space}

pub returns : goal.returns
returns c = same_space
