use Rattle.f2_checkpoint_laws.proofs.Writes.{flush_keeps}
use Rattle.f2_checkpoint_laws.proofs.writing.checkpoint_flushes_keep.Goals as goal

pub returns : goal.returns
returns c = flush_keeps
