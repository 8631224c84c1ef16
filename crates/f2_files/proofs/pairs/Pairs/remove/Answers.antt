use Rattle.f2_flights.proofs.SetViews.{pair_cmp_total, pair_cmp-IsAntisymmetric, keys-remove}
use Rattle.f2_files.proofs.pairs.Pairs.remove.Goals as goal

pub returns : goal.returns
returns c = keys-remove pair_cmp_total pair_cmp-IsAntisymmetric _ _ c.self.view_is _ (c.args.ino, c.args.number) c.remove.ensures.updates.0
