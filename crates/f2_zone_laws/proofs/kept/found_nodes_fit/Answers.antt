use Rattle.f2_zone_laws.proofs.FoundThirds.{found_nodes_fit}
use Rattle.f2_zone_laws.proofs.kept.found_nodes_fit.Goals as goal

pub returns : goal.returns
returns c = found_nodes_fit
