use Rattle.std.proofs.Common.{◌∙◌}
use Rattle.std.specs.Cmp.{nat_cmp_total}
use Rattle.std.specs.FinSet.{nat_cmp-IsAntisymmetric}
use Rattle.f2_flights.proofs.SetViews.{keys-contains}
use Rattle.f2_flights.proofs.inos.Inos.contains.Goals as goal

pub returns : goal.returns
returns c = c.contains.ensures ∙ keys-contains nat_cmp_total nat_cmp-IsAntisymmetric _ _ c.self.view_is c.args.ino
