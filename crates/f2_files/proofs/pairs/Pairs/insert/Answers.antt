use Rattle.f2_flights.proofs.SetViews.{pair_cmp_total, pair_cmp-IsAntisymmetric, keys-insert}
use Rattle.f2_files.proofs.pairs.Pairs.insert.Goals as goal

pub returns-clause-ok : goal.returns-clause-ok
returns-clause-ok c = keys-insert pair_cmp_total pair_cmp-IsAntisymmetric _ _ c.self.view_is _ (c.args.ino, c.args.number) c.in_ok-insert.ensures.updates.0
