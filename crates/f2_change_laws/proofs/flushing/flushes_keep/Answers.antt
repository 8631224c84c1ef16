use Rattle.f2_change_laws.proofs.Flushes.{flushes_keep}
use Rattle.f2_change_laws.proofs.flushing.flushes_keep.Goals as goal

pub returns : goal.returns
returns c = flushes_keep
