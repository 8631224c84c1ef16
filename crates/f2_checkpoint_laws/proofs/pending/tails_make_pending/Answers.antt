use Rattle.f2_checkpoint_laws.proofs.Pendings.{tails_make_pending}
use Rattle.f2_checkpoint_laws.proofs.pending.tails_make_pending.Goals as goal

pub returns : goal.returns
returns c = tails_make_pending
