use Rattle.std.proofs.Common.{◌≡◌, ◌-◌, ◌++◌}
use Rattle.std.specs.List.{range_with_len}
use Rattle.f2_reference_calls.proofs.counts.numbers_to.Given as goal

-- the numbers that are left, behind those so far, are all of them
abbrev pub invariant-loop-number : goal.invariant-loop-number
invariant-loop-number l = l.numbers.items ++ range_with_len l.number (l.end - l.number) ≡ range_with_len 0 l.end
