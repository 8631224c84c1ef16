use Rattle.std.proofs.Common.{refl, inl}
use Rattle.f2_model.specs.declared.events.Event.TheVariants.{Begin}
use Rattle.f2_model.specs.declared.replies.Reply.TheVariants as reply
use Rattle.f2_model.specs.Step.{replied}
use Rattle.f2_machine_tests.proofs.ClosedSteps.{stays}
use Rattle.f2_machine_tests.proofs.machine.ClosedMachine.begin.Goals as goal

pub returns-clause-step : goal.returns-clause-step
returns-clause-step c =
    stays c.args.self.now.limits (Begin c.args._seat c.args._request) (replied reply.Closed)
    (record { first = c.requires.first; last = c.requires.last }, inl refl)
