use Rattle.f2_nid_pool.proofs.Laws.{IsPool-logged}
use Rattle.f2_nid_pool.proofs.Pool.logged.Goals as goal

pub invariant_of-self : goal.invariant_of-self
invariant_of-self c =
    rw (c.insert.ensures, c.insert-2.ensures) (IsPool-logged _ _ _ _ _ c.args.nid c.self.invariant)
