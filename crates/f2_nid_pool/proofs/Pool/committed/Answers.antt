use Rattle.f2_nid_pool.proofs.Laws.{IsPool-committed}
use Rattle.f2_nid_pool.proofs.Pool.committed.Goals as goal

pub invariant_of-self : goal.invariant_of-self
invariant_of-self c =
    rw (c.copy_from.ensures, c.clear.ensures, c.take_all_of.ensures)
    (IsPool-committed c.self.inside.limit c.self.inside.live c.self.inside.logged c.self.invariant.enough c.self.invariant.live_over.0 c.self.invariant.live_over.1 c.self.invariant.logged_over.0 c.self.invariant.logged_over.1 c.self.invariant.root c.self.invariant.above)
