use Rattle.std.proofs.Common.{arith}
use Rattle.f2_space.proofs.Laws.{IsShared-draw}
use Rattle.f2_space.proofs.Zone.draw.Goals as goal

pub invariant_of-self : goal.invariant_of-self
invariant_of-self c =
    let is = c.self.invariant in
    let least = c.take_least.ensures.least in
    let kept = rw (← c.self.view_is) at c.requires.kept in
    let room = rw (← c.self.view_is) at c.requires.room in
    rw (c.take_least.ensures.used, c.take_least.ensures.other)
    (is.0, is.1, is.2, IsShared-draw _ _ is.3 (omega (arith, least.in_range.0), omega (arith, least.in_range.1)) least.missing kept room)
