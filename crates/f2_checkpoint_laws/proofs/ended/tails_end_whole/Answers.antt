use Rattle.f2_checkpoint_laws.proofs.TailsWhole.{tails_end_whole, checkpoints_end_whole}
use Rattle.f2_checkpoint_laws.proofs.ended.tails_end_whole.Goals as goal

pub returns-clause-tail : goal.returns-clause-tail
returns-clause-tail c = tails_end_whole

pub returns-clause-all : goal.returns-clause-all
returns-clause-all c = checkpoints_end_whole
