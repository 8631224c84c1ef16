use Rattle.f2_change_laws.proofs.Checkpoints.{flushed_tails_count}
use Rattle.f2_change_laws.proofs.checkpointing.flushed_tails_count.Goals as goal

pub returns : goal.returns
returns c = flushed_tails_count
