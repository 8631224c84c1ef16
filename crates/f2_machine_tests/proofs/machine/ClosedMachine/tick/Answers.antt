use Rattle.std.proofs.Common.{refl}
use Rattle.f2_model.specs.declared.events.Answer.TheVariants.{Ticked}
use Rattle.f2_model.specs.declared.events.Event.TheVariants.{Tick}
use Rattle.f2_model.specs.declared.replies.Tick.TheVariants as tick
use Rattle.f2_machine_tests.proofs.ClosedSteps.{stays}
use Rattle.f2_machine_tests.proofs.machine.ClosedMachine.tick.Goals as goal

pub returns-clause-step : goal.returns-clause-step
returns-clause-step c = stays c.args.self.now.limits Tick (Ticked tick.Closed) refl
