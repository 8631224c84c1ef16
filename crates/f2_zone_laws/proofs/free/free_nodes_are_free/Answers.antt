use Rattle.f2_zone_laws.proofs.FreeNodes.{free_nodes_are_free}
use Rattle.f2_zone_laws.proofs.free.free_nodes_are_free.Goals as goal

pub returns : goal.returns
returns c = free_nodes_are_free
