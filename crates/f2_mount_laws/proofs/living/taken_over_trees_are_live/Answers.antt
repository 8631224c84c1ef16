use Rattle.f2_mount_laws.proofs.Laid.{have_places}
use Rattle.f2_mount_laws.proofs.Live.{are_live}
use Rattle.f2_mount_laws.proofs.living.taken_over_trees_are_live.Goals as goal

pub returns-clause-places : goal.returns-clause-places
returns-clause-places c = have_places

pub returns-clause-live : goal.returns-clause-live
returns-clause-live c = are_live
