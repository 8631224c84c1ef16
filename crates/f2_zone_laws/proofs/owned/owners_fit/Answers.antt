use Rattle.f2_zone_laws.proofs.OwnedThirds.{owners_fit}
use Rattle.f2_zone_laws.proofs.owned.owners_fit.Goals as goal

pub returns : goal.returns
returns c = owners_fit
