use Rattle.std.proofs.Common.{arith}
use Rattle.f2_space.proofs.Laws.{IsShared-take}
use Rattle.f2_space.proofs.Zone.adopt.Goals as goal

pub invariant_of-self : goal.invariant_of-self
invariant_of-self c =
    let is = c.self.invariant in
    let of_zone = rw (← c.self.view_is) at c.requires.of_zone in
    let unused = rw (← c.self.view_is) at c.requires.unused in
    let two_thirds = rw (← c.self.view_is) at c.requires.two_thirds in
    let log_waits = rw (← c.self.view_is) at c.requires.log_waits in
    rw (c.insert.ensures, c.insert-2.ensures)
    (is.0, is.1, is.2, IsShared-take _ _ _ _ _ _ is.3 of_zone unused (omega arith) is.3.log_third is.3.drawn_third is.3.cp_third (omega (arith, two_thirds)) (λ past. log_waits (omega (arith, past))))
