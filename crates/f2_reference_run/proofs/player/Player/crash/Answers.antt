use Rattle.f2_reference_run.proofs.Playing.{if_ok, says_crash}
use Rattle.f2_reference_run.proofs.player.Player.crash.Goals as goal

pub returns : goal.returns
returns c =
    if_ok _ _ c.from_slice.result
    (λ text said. says_crash c.args.pick c.in_ok-choices.choices c.args.self.now c.lose_power.new.self c.settle.new.self text.items c.in_ok-lose_power.ensures c.in_ok-choices.ensures c.settle.ensures said)
    c.from_slice.ensures.items
