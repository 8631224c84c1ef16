use Rattle.std.proofs.Common.{◌≡◌, ◌==◌, ℕ, List, subst, rules}
use Rattle.std.specs.List.{count_by}
use Rattle.f2_flights.proofs.SetViews.{pair_cmp_total, pair_cmp-IsAntisymmetric, keys-items}
use Rattle.f2_reference_state.proofs.pairs.Pairs.count_of.Goals as goal

pub returns : goal.returns
returns c = subst (λ (ks : List (ℕ × ℕ)). c.count.result ≡ count_by (λ pair. pair.0 == c.args.ino) ks)
    (keys-items pair_cmp_total pair_cmp-IsAntisymmetric _ _ c.self.view_is c.iter.ensures.ordered) (search rules)
