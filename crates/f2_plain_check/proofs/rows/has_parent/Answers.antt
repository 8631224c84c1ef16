use Rattle.std.proofs.Common.{rules, ◌≡◌}
use Rattle.f2_model.specs.declared.rows.Row.{Row}
use Rattle.f2_model.specs.declared.rows.Kind.TheVariants.{Directory}
use Rattle.f2_plain_check.proofs.Found.{found_so}
use Rattle.f2_plain_check.proofs.rows.has_parent.Goals as goal

pub returns : goal.returns
returns c = found_so (λ (up : Row). up.kind ≡ Directory) _ _ c.get.ensures c.is_some_and.ensures (λ up p. search rules)
