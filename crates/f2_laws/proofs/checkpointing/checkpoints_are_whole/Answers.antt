use Rattle.f2_laws.proofs.checkpointing.checkpoints_are_whole.Goals as goal
use Rattle.f2_laws.proofs.Checkpointed.{tails_pend, checkpoints_whole}

pub returns-clause-tails : goal.returns-clause-tails
returns-clause-tails c = tails_pend

pub returns-clause-ends : goal.returns-clause-ends
returns-clause-ends c = checkpoints_whole
