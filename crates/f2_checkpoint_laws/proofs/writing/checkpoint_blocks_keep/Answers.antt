use Rattle.f2_checkpoint_laws.proofs.Writes.{block_keeps}
use Rattle.f2_checkpoint_laws.proofs.writing.checkpoint_blocks_keep.Goals as goal

pub returns : goal.returns
returns c = block_keeps
