use Rattle.std.proofs.Common.{refl, sym, subst, arith}
use Rattle.f2_reference_calls.specs.Given.{IsFitting}
use Rattle.f2_reference_calls.proofs.Fitting.{fitting_none, fitting_put}
use Rattle.f2_machine_tests.proofs.plain_calls.root_alone.Goals as goal

pub returns : goal.returns
returns c = subst IsFitting (sym c.in_ok-put.ensures.ok) (fitting_put c.new-tree.result _ _ (subst IsFitting (sym c.new-tree.ensures) fitting_none) refl (omega arith))
