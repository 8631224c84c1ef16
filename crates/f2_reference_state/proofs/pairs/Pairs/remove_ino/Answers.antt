use Rattle.std.proofs.Common.{◌==◌, not, rules}
use Rattle.std.proofs.lemmas.Fn.{filter_same}
use Rattle.f2_flights.proofs.SetViews.{pair_cmp_total, pair_cmp-IsAntisymmetric, keys-retain}
use Rattle.f2_reference_state.proofs.pairs.Pairs.remove_ino.Goals as goal

pub returns : goal.returns
returns c = keys-retain pair_cmp_total pair_cmp-IsAntisymmetric _ _ c.self.view_is _ (λ pair. not (pair.0 == c.args.ino))
    (filter_same _ (λ pair. not (pair.0 == c.args.ino)) _ (λ x b f' k. search rules) _ _ c.retain.ensures.filtered)
