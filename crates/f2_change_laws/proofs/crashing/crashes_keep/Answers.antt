use Rattle.f2_change_laws.proofs.Crashes.{crashes_keep}
use Rattle.f2_change_laws.proofs.crashing.crashes_keep.Goals as goal

pub returns : goal.returns
returns c = crashes_keep
