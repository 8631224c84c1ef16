use Rattle.f2_top.proofs.CoreLemmas.{Comes-calm, StaysCalm-step}
use Rattle.f2_top.proofs.player.step.Goals as goal

pub returns-clause-comes : goal.returns-clause-comes
returns-clause-comes g c = λ counts.
    let ready = c.in_ok-ready.ensures in
    let step = c.step.ensures in
    Comes-calm _ _ _ c.args.core.now c.ready.new.self c.step.new.self _ _ _ _ _ _ c.requires.calm counts ready.more ready.room c.writes.ensures ready.kept ready.contents step.within step.comes step.told

pub returns-clause-calm : goal.returns-clause-calm
returns-clause-calm g c =
    let ready = c.in_ok-ready.ensures in
    StaysCalm-step c.args.core.now c.ready.new.self _ _ _ _ c.requires.calm ready.more ready.room c.writes.ensures ready.kept c.step.ensures.within
