use Rattle.f2_zone_laws.proofs.FoundThirds.{found_pages_fit}
use Rattle.f2_zone_laws.proofs.kept.found_pages_fit.Goals as goal

pub returns : goal.returns
returns c = found_pages_fit
