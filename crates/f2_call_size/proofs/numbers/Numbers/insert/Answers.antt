use Rattle.std.specs.Cmp.{nat_cmp_total}
use Rattle.std.specs.FinSet.{nat_cmp-IsAntisymmetric}
use Rattle.f2_flights.proofs.SetViews.{keys-insert}
use Rattle.f2_call_size.proofs.numbers.Numbers.insert.Goals as goal

pub returns : goal.returns
returns c = keys-insert nat_cmp_total nat_cmp-IsAntisymmetric _ _ c.self.view_is _ c.args.number c.in_ok-insert.ensures.updates.0
