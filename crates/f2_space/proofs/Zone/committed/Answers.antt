use Rattle.f2_space.proofs.Laws.{IsShared-committed}
use Rattle.f2_space.proofs.Zone.committed.Goals as goal

pub invariant_of-self : goal.invariant_of-self
invariant_of-self c =
    let is = c.self.invariant in
    let fewer = rw (← c.self.view_is) at c.requires in
    rw (c.copy_from.ensures, c.clear.ensures, c.len-self-inside.ensures.len) (is.1, is.1, is.2, IsShared-committed _ is.3 fewer)
