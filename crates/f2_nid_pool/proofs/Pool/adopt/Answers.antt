use Rattle.f2_nid_pool.proofs.Laws.{IsPool-adopt}
use Rattle.f2_nid_pool.proofs.Pool.adopt.Goals as goal

pub invariant_of-self : goal.invariant_of-self
invariant_of-self c =
    rw (c.insert.ensures, c.insert-2.ensures, c.insert-3.ensures) (IsPool-adopt _ _ _ _ _ c.args.nid c.self.invariant c.requires.from)
