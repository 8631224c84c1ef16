use Rattle.std.proofs.Common.{◌≡◌, None, replicate}
use Rattle.f2_disk.proofs.store.Store.start.Given as goal

abbrev pub invariant-loop : goal.invariant-loop
invariant-loop l = l.newest.items ≡ replicate l.counter None
