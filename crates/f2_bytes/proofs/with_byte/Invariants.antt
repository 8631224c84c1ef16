use Rattle.std.proofs.Common.{◌≡◌}
use Rattle.std.specs.Prelude.{bit_xor}
use Rattle.f2_bytes.specs.Register.{shifted_times}
use Rattle.f2_bytes.proofs.with_byte.Given as goal

abbrev pub invariant-loop : goal.invariant-loop
invariant-loop l = l.register ≡ shifted_times l.counter (bit_xor l.fn.register l.fn.byte)
