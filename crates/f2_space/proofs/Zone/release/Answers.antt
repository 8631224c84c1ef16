use Rattle.f2_space.proofs.Laws.{IsShared-release}
use Rattle.f2_space.proofs.Zone.release.Goals as goal

pub invariant_of-self : goal.invariant_of-self
invariant_of-self c =
    let is = c.self.invariant in rw c.remove.ensures (is.0, is.1, is.2, IsShared-release _ c.args.at is.3)
