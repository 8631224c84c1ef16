use Rattle.std.proofs.Common.{arith}
use Rattle.f2_nid_pool.proofs.Count.{covered-len}
use Rattle.f2_nid_pool.proofs.Laws.{IsPool-take, IsPool-full}
use Rattle.f2_nid_pool.proofs.Pool.take.Goals as goal

pub returns-in_err-nid-clause-enough : goal.returns-in_err-nid-clause-enough
returns-in_err-nid-clause-enough c =
    rw (← c.self.view_is)
    (λ room. absurd (omega (arith, room, covered-len c.self.inside.limit c.self.inside.live.members c.self.inside.base.members c.self.inside.logged.members (IsPool-full _ _ _ _ _ c.self.invariant c.in_err-nid.ensures.all))))

pub invariant_of-self-2 : goal.invariant_of-self-2
invariant_of-self-2 c =
    rw (c.insert.ensures, c.in_ok-nid.ensures.inserted) (IsPool-take _ _ _ _ _ c.in_ok-nid.nid c.self.invariant c.in_ok-nid.ensures.least)
