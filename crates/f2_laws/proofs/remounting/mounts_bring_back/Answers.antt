use Rattle.f2_laws.proofs.remounting.mounts_bring_back.Goals as goal
use Rattle.f2_laws.proofs.Remounted.{mounts_back}

pub returns : goal.returns
returns c = mounts_back
