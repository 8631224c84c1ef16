use Rattle.std.proofs.Common.{◌≡◌, replicate}
use Rattle.f2_disk.specs.Contents.{zeros}
use Rattle.f2_disk.proofs.mem_disk.MemDisk.new.Given as goal

abbrev pub invariant-loop : goal.invariant-loop
invariant-loop l = l.all.items ≡ replicate l.counter zeros
