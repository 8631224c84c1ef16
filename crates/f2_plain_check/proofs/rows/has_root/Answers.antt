use Rattle.std.proofs.Common.{rules}
use Rattle.f2_model.specs.Tree.{IsRoot}
use Rattle.f2_plain_check.proofs.Found.{found_so}
use Rattle.f2_plain_check.proofs.rows.has_root.Goals as goal

pub returns : goal.returns
returns c = found_so IsRoot _ _ c.get.ensures c.is_some_and.ensures (λ up p. search rules)
