use Rattle.f2_mount_laws.proofs.Proper.{are_proper}
use Rattle.f2_mount_laws.proofs.living.rolled_trees_of_mounts_are_proper.Goals as goal

pub returns : goal.returns
returns c = are_proper
