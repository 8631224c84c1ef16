use Rattle.f2_checkpoint_laws.proofs.Finished.{last_flushes_keep}
use Rattle.f2_checkpoint_laws.proofs.done.last_flushes_keep.Goals as goal

pub returns : goal.returns
returns c = last_flushes_keep
