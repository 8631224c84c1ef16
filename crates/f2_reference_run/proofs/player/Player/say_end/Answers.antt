use Rattle.std.proofs.Common.{refl, ap}
use Rattle.f2_script.specs.declared.script.Line.TheVariants as verb
use Rattle.f2_play.specs.Lines.{ended}
use Rattle.f2_reference_run.proofs.Playing.{if_ok, says_led}
use Rattle.f2_reference_run.proofs.player.Player.say_end.Goals as goal

pub returns : goal.returns
returns c =
    if_ok _ _ c.step_text.result
    (λ text said. says_led _ _ _ (verb.End c.args.seat) text.items c.in_ok-last.ensures (λ events is. (c.in_ok-last.last, is, ap ended said)) (λ events. refl))
    c.step_text.ensures
