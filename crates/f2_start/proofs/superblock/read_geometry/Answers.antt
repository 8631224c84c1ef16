use Rattle.f2_recover.proofs.Telling.{fault_holds}
use Rattle.f2_start.proofs.superblock.read_geometry.Goals as goal

pub returns-in_err-geometry-clause-fault : goal.returns-in_err-geometry-clause-fault
returns-in_err-geometry-clause-fault g c = fault_holds _ _ _ c.from_residual.ensures.1 (λ image _. c.in_err-geometry.ensures.fault image)

pub returns-in_err-geometry-2-clause-fault : goal.returns-in_err-geometry-2-clause-fault
returns-in_err-geometry-2-clause-fault g c = fault_holds _ _ _ c.from_residual-in_err-geometry-2.ensures.1 (λ image _. c.in_err-geometry-2.ensures.fault image)
