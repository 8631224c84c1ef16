use Rattle.f2_flights.proofs.SetViews.{pair_cmp_total, pair_cmp-IsAntisymmetric, keys-empty}
use Rattle.f2_files.proofs.pairs.Pairs.is_empty.Goals as goal

pub returns : goal.returns
returns c = keys-empty pair_cmp_total pair_cmp-IsAntisymmetric _ _ c.self.view_is _ c.is_empty.ensures
