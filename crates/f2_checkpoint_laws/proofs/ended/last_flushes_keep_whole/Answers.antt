use Rattle.f2_checkpoint_laws.proofs.WholeAfter.{last_flushes_keep_whole}
use Rattle.f2_checkpoint_laws.proofs.ended.last_flushes_keep_whole.Goals as goal

pub returns : goal.returns
returns c = last_flushes_keep_whole
