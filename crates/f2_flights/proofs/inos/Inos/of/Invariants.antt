use Rattle.std.proofs.Common.{◌≡◌, take}
use Rattle.std.specs.Ordering.{nat_cmp}
use Rattle.std.specs.FinSet as set
use Rattle.f2_flights.proofs.inos.Inos.of.Given as goal

-- the numbers so far are in
abbrev pub invariant-loop-number : goal.invariant-loop-number
invariant-loop-number l = l.inos ≡ set.from_list {R = nat_cmp} (take l.number-index l.numbers)
