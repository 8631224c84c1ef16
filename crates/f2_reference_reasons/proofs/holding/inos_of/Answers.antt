use Rattle.std.proofs.Common.{◌≡◌, ◌∙◌, map, rules}
use Rattle.std.proofs.lemmas.Result.{IfOk-weaker}
use Rattle.f2_reference_reasons.proofs.Left.{inos_at}
use Rattle.f2_reference_reasons.proofs.holding.inos_of.Goals as goal

pub returns : goal.returns
returns c = IfOk-weaker c.collect.result (λ inos. inos.items ≡ map (λ row. row.now.ino) c.args.rows.now) _ (λ inos e. e ∙ inos_at c.args.rows.now) (search rules)
