use Rattle.std.proofs.Common.{◌≡◌, ◌-◌, ◌++◌, map}
use Rattle.std.specs.Prelude.{slice_index}
use Rattle.std.specs.List.{range_with_len}
use Rattle.f2_state.proofs.reading.append.Given as goal

-- the bytes that are left, behind those so far, are all of them
abbrev pub invariant-loop-at : goal.invariant-loop-at
invariant-loop-at l = l.bytes ++ map (slice_index l.block) (range_with_len l.at (l.to - l.at)) ≡ l.initial.bytes ++ map (slice_index l.block) (range_with_len l.from (l.to - l.from))
