use Rattle.std.proofs.Common.{sym, ◌∙◌}
use Rattle.f2_reference_run.specs.Runs.{stops}
use Rattle.f2_reference_run.proofs.Playing.{leads_none, leads_further, leads_stop}
use Rattle.f2_reference_run.proofs.player.Player.go.Goals as goal

pub loop-init : goal.loop-init
loop-init c = leads_none _ _ tt

pub loop-preserved : goal.loop-preserved
loop-preserved c = leads_further (stops c.args.stop) c.args.seat c.in_ok-step.step _ _ _ c.loop.invariant c.in_ok-step.ensures (sym c.is_at.ensures ∙ c.if-is_at.false)

pub returns-then-is_at : goal.returns-then-is_at
returns-then-is_at c = leads_stop (stops c.args.stop) c.args.seat c.in_ok-step.step _ _ _ c.loop.invariant c.in_ok-step.ensures (sym c.is_at.ensures ∙ c.if-is_at.true)
