use Rattle.std.proofs.Common.{◌≡◌}
use Rattle.f2_leaf_tests.proofs.bitset.gives_the_least_gap.Given as goal

-- the range stays as it is
abbrev pub invariant-loop-number : goal.invariant-loop-number
invariant-loop-number l = (l.set.first ≡ 10) × (l.set.count ≡ 70)
