use Rattle.f2_stored_laws.proofs.Safe.{stored_is_safe}
use Rattle.f2_stored_laws.proofs.safety.stored_disks_are_safe.Goals as goal

pub returns : goal.returns
returns c = stored_is_safe
