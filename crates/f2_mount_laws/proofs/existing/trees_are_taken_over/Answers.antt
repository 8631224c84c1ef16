use Rattle.f2_mount_laws.proofs.Exists.{taken_over}
use Rattle.f2_mount_laws.proofs.Unmarked.{unmarked_taken_over}
use Rattle.f2_mount_laws.proofs.existing.trees_are_taken_over.Goals as goal

pub returns-clause-taken : goal.returns-clause-taken
returns-clause-taken c = taken_over

pub returns-clause-unmarked : goal.returns-clause-unmarked
returns-clause-unmarked c = unmarked_taken_over
