use Rattle.std.proofs.Common.{arith}
use Rattle.f2_space.proofs.Laws.{IsShared-take}
use Rattle.f2_space.proofs.Zone.take_promised.Goals as goal

pub invariant_of-self : goal.invariant_of-self
invariant_of-self c =
    let is = c.self.invariant in
    let least = c.take_least-at.ensures.least in
    let promised = rw (← c.self.view_is) at c.requires.promised in
    let none = rw (← c.self.view_is) at c.requires.none_drawn in
    rw (c.take_least-at.ensures.used, c.take_least-at.ensures.other)
    (is.0, is.1, is.2, IsShared-take _ _ _ _ _ _ is.3 (omega (arith, least.in_range.0), omega (arith, least.in_range.1)) least.missing (omega arith) (omega (arith, promised, is.3.log_third)) (omega (arith, none, promised, is.3.log_third)) is.3.cp_third is.3.kept_thirds (λ past. absurd (omega (arith, promised, is.3.log_waits past))))
