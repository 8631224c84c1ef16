use Rattle.f2_change_laws.proofs.Flushes.{flushes_settle}
use Rattle.f2_change_laws.proofs.flushing.flushes_settle.Goals as goal

pub returns : goal.returns
returns c = flushes_settle
