use Rattle.f2_top.proofs.PlayLemmas.{IfOk-map}
use Rattle.f2_top.proofs.player.play_line.Goals as goal

pub returns-in-Call-clause-played : goal.returns-in-Call-clause-played
returns-in-Call-clause-played g c = rw c.in-Call.is c.play_call.ensures.played

pub returns-in-Crash-clause-played : goal.returns-in-Crash-clause-played
returns-in-Crash-clause-played g c = rw c.in-Crash.is (IfOk-map _ _ c.play_crash.result (λ v h. λ counts. h) c.play_crash.ensures.played)

pub returns-in-Mount-clause-played : goal.returns-in-Mount-clause-played
returns-in-Mount-clause-played g c = rw c.in-Mount.is c.play_mount.ensures.played

pub returns-in-Tree-clause-played : goal.returns-in-Tree-clause-played
returns-in-Tree-clause-played g c = rw c.in-Tree.is (IfOk-map _ _ c.play_tree.result (λ v h. λ counts. h) c.play_tree.ensures)
