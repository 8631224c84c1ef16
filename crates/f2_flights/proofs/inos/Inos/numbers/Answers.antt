use Rattle.std.proofs.Common.{◌≡◌, ◌∙◌, rules}
use Rattle.std.proofs.lemmas.Result.{IfOk-weaker}
use Rattle.std.specs.Cmp.{nat_cmp_total}
use Rattle.std.specs.FinSet.{nat_cmp-IsAntisymmetric}
use Rattle.f2_flights.proofs.SetViews.{keys-items}
use Rattle.f2_flights.proofs.inos.Inos.numbers.Goals as goal

pub returns : goal.returns
returns c = IfOk-weaker c.collect.result (λ numbers. numbers.items ≡ c.self.inside.inos.keys) _
    (λ numbers e. e ∙ keys-items nat_cmp_total nat_cmp-IsAntisymmetric _ _ c.self.view_is c.iter.ensures.ordered) (search rules)
