use Rattle.std.proofs.Common.{◌≡◌, ◌<◌, length, arith}
use Rattle.std.proofs.lemmas.Grind.{common_steps}
use Rattle.f2_script.proofs.Growth.{grows_more, grows_none, grows_end}
use Rattle.f2_script.proofs.WordLemmas.{pieces_begin, pieces_none, pieces_end, pieces_short}
use Rattle.f2_script.proofs.requests.pieces_of.Goals as goal

pub returns-in_default-piece_of : goal.returns-in_default-piece_of
returns-in_default-piece_of c =
    grows_none _ _ _ c.loop-left.invariant (pieces_none c.loop-left.left.now _ c.in-len3-up.len_at_least c.in_default-piece_of.ensures)

pub loop-left-preserved : goal.loop-left-preserved
loop-left-preserved c =
    grows_more _ _ _ _ _ _ c.loop-left.invariant (pieces_begin _ c.loop-left.left.now _ _ c.in-len3-up.len_at_least (grind (arith, common_steps)) c.in-Some.ensures) c.in_ok-push.ensures.ok

pub returns-then-is_empty : goal.returns-then-is_empty
returns-then-is_empty c =
    let none : length c.loop-left.left.now ≡ 0 = grind (arith, common_steps) in
    grows_end _ _ _ c.loop-left.invariant (pieces_end c.loop-left.left.now none)

pub returns-else-is_empty : goal.returns-else-is_empty
returns-else-is_empty c =
    let some : 0 < length c.loop-left.left.now = grind (arith, common_steps) in
    grows_none _ _ _ c.loop-left.invariant (pieces_short c.loop-left.left.now some c.in_default.len_below)
