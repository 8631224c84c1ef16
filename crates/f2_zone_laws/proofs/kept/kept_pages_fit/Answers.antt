use Rattle.f2_zone_laws.proofs.KeptThirds.{kept_pages_fit}
use Rattle.f2_zone_laws.proofs.kept.kept_pages_fit.Goals as goal

pub returns : goal.returns
returns c = kept_pages_fit
