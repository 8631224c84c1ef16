use Rattle.std.proofs.Common.{sym, subst}
use Rattle.f2_laid.specs.Laid.{IsKept, PlaceMap}
use Rattle.f2_plain_plan.proofs.SmallTrees.{nothing_kept}
use Rattle.f2_program_tests.proofs.plain_plan.nothing.Goals as goal

pub returns : goal.returns
returns c geom = subst (λ (places : PlaceMap). IsKept geom places) (sym c.new.ensures) (nothing_kept geom)
