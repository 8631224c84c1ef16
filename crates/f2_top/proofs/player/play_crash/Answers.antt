use Rattle.f2_top.proofs.CoreLemmas.{PlaysOn-crash}
use Rattle.f2_top.proofs.PlayLemmas.{IfOk-map}
use Rattle.f2_top.proofs.player.play_crash.Goals as goal

pub returns-clause-played : goal.returns-clause-played
returns-clause-played g c =
    IfOk-map _ _ c.reply_line.result
    (λ v h. PlaysOn-crash _ _ c.args.core.now c.crash.new.self c.args.pick v.items c.in_ok-crash.ensures.crashed c.in_ok-crash.ensures.told h)
    c.reply_line.ensures
