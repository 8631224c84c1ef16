use Rattle.std.proofs.Common.{◌≡◌, ◌<◌, length, arith}
use Rattle.std.proofs.lemmas.Grind.{common_steps}
use Rattle.f2_script.proofs.Growth.{grows_more, grows_none, grows_end}
use Rattle.f2_script.proofs.PathLemmas.{name_begins, name_none, name_end}
use Rattle.f2_script.proofs.paths.name_of.Goals as goal

pub returns-in_default : goal.returns-in_default
returns-in_default c =
    let some : 0 < length c.loop-left.left.now = grind (arith, common_steps) in
    grows_none _ _ _ c.loop-left.invariant (name_none c.loop-left.left.now some c.in_default.ensures)

pub loop-left-preserved : goal.loop-left-preserved
loop-left-preserved c =
    grows_more _ _ _ _ _ _ c.loop-left.invariant (name_begins _ _ _ c.in-Some.ensures) c.in_ok-push.ensures.ok

pub returns : goal.returns
returns c =
    let none : length c.loop-left.left.now ≡ 0 = grind (arith, common_steps) in
    grows_end _ _ _ c.loop-left.invariant (name_end c.loop-left.left.now none)
