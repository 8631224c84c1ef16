use Rattle.std.proofs.Common.{refl, ap, ◌∙◌}
use Rattle.f2_script.specs.declared.script.Line.TheVariants as verb
use Rattle.f2_play.specs.Lines.{ended}
use Rattle.f2_reference_run.proofs.Playing.{if_ok, says_led, leads_one}
use Rattle.f2_reference_run.proofs.player.Player.tick.Goals as goal

pub returns : goal.returns
returns c =
    if_ok _ _ c.from_slice.result
    (λ text said. says_led _ _ _ verb.Tick text.items (leads_one _ _ _ _ c.in_ok-tick.ensures)
    (λ events is. (c.in_ok-tick.tick, is, ap ended (said ∙ c.tick_text.ensures))) (λ events. refl))
    c.from_slice.ensures.items
