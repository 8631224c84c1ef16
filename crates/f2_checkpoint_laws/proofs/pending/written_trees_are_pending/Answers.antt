use Rattle.f2_checkpoint_laws.proofs.Pendings.{written_trees_are_pending}
use Rattle.f2_checkpoint_laws.proofs.pending.written_trees_are_pending.Goals as goal

pub returns : goal.returns
returns c = written_trees_are_pending
