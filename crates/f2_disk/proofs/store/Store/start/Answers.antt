use Rattle.std.proofs.Common.{◌≡◌, ◌<◌, arith}
use Rattle.f2_disk.proofs.StoreLaws.{lists_of-blank, orderly_blank}
use Rattle.f2_disk.proofs.store.Store.start.Goals as goal

pub invariant_of-self : goal.invariant_of-self
invariant_of-self c =
    let small : c.loop.counter < 4294967296 = omega arith in (
      rw (c.loop.invariant, c.clear.ensures.items) (orderly_blank c.loop.counter small),
      omega (arith, c.self.invariant.1, c.clear.ensures.len, c.clear.ensures.capacity),
    )

pub returns-clause-blank : goal.returns-clause-blank
returns-clause-blank c =
    let all : c.loop.counter ≡ c.args.blocks = omega arith in
    rw (c.loop.invariant, c.clear.ensures.items, all)
    (λ i. record { lists = lists_of-blank c.args.blocks i; spare = (c.self.view_is i).spare })
