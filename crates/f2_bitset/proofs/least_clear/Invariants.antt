use Rattle.std.proofs.Common.{◌≡◌, ℕ, ◌*◌, ◌<◌, ◌≤◌, true}
use Rattle.f2_bitset.specs.Words.{has_bit}
use Rattle.f2_bitset.proofs.least_clear.Given as goal

-- the words that were passed are full
abbrev pub invariant-loop-at : goal.invariant-loop-at
invariant-loop-at l = (other : ℕ) → 64 * l.low ≤ other → other < 64 * l.at → has_bit l.words other ≡ true
