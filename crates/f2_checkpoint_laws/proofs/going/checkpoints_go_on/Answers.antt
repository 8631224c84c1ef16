use Rattle.f2_checkpoint_laws.proofs.Gone.{checkpoints_may_begin, checkpoints_go_on}
use Rattle.f2_checkpoint_laws.proofs.going.checkpoints_go_on.Goals as goal

pub returns-clause-begin : goal.returns-clause-begin
returns-clause-begin c = checkpoints_may_begin

pub returns-clause-on : goal.returns-clause-on
returns-clause-on c = checkpoints_go_on
