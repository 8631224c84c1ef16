use Rattle.f2_stored_laws.proofs.Found.{finds_stored}
use Rattle.f2_stored_laws.proofs.mounting.mounts_find.Goals as goal

pub returns : goal.returns
returns c = finds_stored
