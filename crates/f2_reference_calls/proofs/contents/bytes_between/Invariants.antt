use Rattle.std.proofs.Common.{◌≡◌, ◌-◌, ◌++◌, map}
use Rattle.std.specs.List.{range_with_len}
use Rattle.f2_model.specs.Content.{byte_at, bytes_between}
use Rattle.f2_reference_calls.proofs.contents.bytes_between.Given as goal

-- the bytes that are left, behind those so far, are all of them
abbrev pub invariant-loop-offset : goal.invariant-loop-offset
invariant-loop-offset l = l.bytes ++ map (byte_at l.pages) (range_with_len l.offset (l.to - l.offset)) ≡ bytes_between l.pages l.from l.to
