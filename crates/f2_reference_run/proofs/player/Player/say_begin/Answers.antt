use Rattle.std.proofs.Common.{refl, ap}
use Rattle.f2_script.specs.declared.script.Line.TheVariants as verb
use Rattle.f2_play.specs.Lines.{ended}
use Rattle.f2_reference_run.proofs.Playing.{if_ok, says_led, leads_one, not_memory}
use Rattle.f2_reference_run.proofs.player.Player.say_begin.Goals as goal

pub returns : goal.returns
returns c =
    if_ok _ _ c.begun_text.result
    (λ text said. says_led _ _ _ (verb.Begin c.args.seat c.args.request) text.items (leads_one _ _ _ _ c.in_ok-begun.ensures)
    (λ events is. record { begun = c.in_ok-begun.begun; not_memory = not_memory _ _ _ _ c.in_ok-begun.ensures; once = is; said = ap ended said }) (λ events. refl))
    c.begun_text.ensures
