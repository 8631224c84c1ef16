use Rattle.std.proofs.Common.{refl}
use Rattle.f2_machine_tests.specs.Closed.{never_opened}
use Rattle.f2_machine_tests.proofs.machine.ClosedMachine.entries.Goals as goal

pub returns-clause-somewhere : goal.returns-clause-somewhere
returns-clause-somewhere c = (never_opened, refl)
