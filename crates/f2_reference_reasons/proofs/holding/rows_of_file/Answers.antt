use Rattle.std.proofs.Common.{◌≡◌, ◌==◌, ◌∙◌, not, ap, rules}
use Rattle.std.proofs.lemmas.Result.{IfOk-weaker}
use Rattle.std.specs.List.{filter}
use Rattle.f2_model.specs.Tree.{is_directory}
use Rattle.f2_reference_calls.specs.Given.{rows_at}
use Rattle.f2_reference_reasons.proofs.Left.{filtered}
use Rattle.f2_reference_reasons.proofs.holding.rows_of_file.Goals as goal

pub returns : goal.returns
returns c = IfOk-weaker c.collect.result (λ own. own.items ≡ filter (λ row. row.now.ino == c.args.ino) c.args.rows.now) _ (λ own e. ap rows_at e ∙ filtered (λ row. row.ino == c.args.ino) c.args.rows.now) (search rules)
