use Rattle.f2_zone_laws.proofs.KeptThirds.{kept_nodes_fit}
use Rattle.f2_zone_laws.proofs.kept.kept_nodes_fit.Goals as goal

pub returns : goal.returns
returns c = kept_nodes_fit
