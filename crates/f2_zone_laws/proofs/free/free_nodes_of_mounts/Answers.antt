use Rattle.f2_zone_laws.proofs.FreeNodes.{free_nodes_of_mounts}
use Rattle.f2_zone_laws.proofs.free.free_nodes_of_mounts.Goals as goal

pub returns : goal.returns
returns c = free_nodes_of_mounts
