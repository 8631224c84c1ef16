use Rattle.f2_model.specs.declared.events.Answer.TheVariants.{Stepped}
use Rattle.f2_model.specs.declared.events.Event.TheVariants.{Go}
use Rattle.f2_model.specs.declared.replies.Step.TheVariants as step
use Rattle.f2_machine_tests.proofs.ClosedSteps.{stays, has_no_call}
use Rattle.f2_machine_tests.proofs.machine.ClosedMachine.go.Goals as goal

pub returns-clause-step : goal.returns-clause-step
returns-clause-step c = stays c.args.self.now.limits (Go c.args._seat) (Stepped step.None) (has_no_call c.args._seat)
