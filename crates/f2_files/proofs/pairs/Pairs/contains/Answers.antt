use Rattle.std.proofs.Common.{◌∙◌}
use Rattle.f2_flights.proofs.SetViews.{pair_cmp_total, pair_cmp-IsAntisymmetric, keys-contains}
use Rattle.f2_files.proofs.pairs.Pairs.contains.Goals as goal

pub returns : goal.returns
returns c = c.contains.ensures ∙ keys-contains pair_cmp_total pair_cmp-IsAntisymmetric _ _ c.self.view_is (c.args.ino, c.args.number)
