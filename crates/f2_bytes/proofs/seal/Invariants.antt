use Rattle.std.proofs.Common.{◌≡◌, take}
use Rattle.f2_bytes.specs.Register.{register_after}
use Rattle.f2_bytes.proofs.seal.Given as goal

abbrev pub invariant-loop-byte : goal.invariant-loop-byte
invariant-loop-byte l = l.register ≡ register_after (take l.byte-index (take 4092 l.b))
