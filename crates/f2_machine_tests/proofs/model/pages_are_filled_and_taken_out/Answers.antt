use Rattle.std.proofs.Common.{ap, sym, subst, refl, ◌∙◌}
use Rattle.std.specs.Prelude.{IsSome}
use Rattle.std.specs.Cmp.{nat_cmp_total}
use Rattle.std.specs.FinMap as map
use Rattle.f2_machine_tests.proofs.model.pages_are_filled_and_taken_out.Goals as goal

pub fill-requires-clause-there : goal.fill-requires-clause-there
fill-requires-clause-there g = subst IsSome (sym (ap (λ m. map.get m 2) g.in_ok-put.ensures.ok ∙ map.get-insert nat_cmp_total _ 2 _ 2)) refl
