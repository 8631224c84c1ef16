use Rattle.f2_live_laws.proofs.BaseTold.{checkpoints_tell_all}
use Rattle.f2_live_laws.proofs.telling.checkpoints_tell_all.Goals as goal

pub returns : goal.returns
returns c = checkpoints_tell_all
