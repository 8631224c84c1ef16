use Rattle.f2_change_laws.proofs.Tails.{tails_may_be_written}
use Rattle.f2_change_laws.proofs.checkpointing.tails_may_be_written.Goals as goal

pub returns : goal.returns
returns c = tails_may_be_written
