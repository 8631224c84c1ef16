use Rattle.std.proofs.Common.{◌≡◌, ◌+◌, ◌^◌, ◌%◌, drop}
use Rattle.f2_script.specs.Trees.{bytes_weight}
use Rattle.f2_script.proofs.weights.weight_from.Given as goal

abbrev pub invariant-loop-byte : goal.invariant-loop-byte
invariant-loop-byte l = (l.offset ≡ l.first + l.byte-index) × ((l.sum + bytes_weight l.offset (drop l.byte-index l.bytes)) % 2 ^ 64 ≡ bytes_weight l.first l.bytes % 2 ^ 64)
