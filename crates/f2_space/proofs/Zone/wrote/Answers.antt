use Rattle.std.proofs.Common.{arith}
use Rattle.f2_space.proofs.Laws.{IsShared-wrote, promise_kept}
use Rattle.f2_space.proofs.Zone.wrote.Goals as goal

pub invariant_of-self : goal.invariant_of-self
invariant_of-self c =
    let is = c.self.invariant in
    let drawn = rw (← c.self.view_is) at c.requires.drawn in
    let room = rw (← c.self.view_is) at c.requires.room in
    rw (c.insert.ensures, c.remove.ensures, c.from.ensures)
    (is.0, is.1, is.2, IsShared-wrote _ c.args.at _ is.3 drawn (omega arith) (promise_kept c.args.promised _ _ _ room is.3.log_third))
