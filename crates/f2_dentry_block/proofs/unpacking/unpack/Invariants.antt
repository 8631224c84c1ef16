use Rattle.std.proofs.Common.{map}
use Rattle.f2_dentry_block.specs.Dents.{dentry_of}
use Rattle.f2_dentry_block.proofs.Scanned.{IsScanned}
use Rattle.f2_dentry_block.proofs.unpacking.unpack.Given as goal

abbrev pub invariant-loop-slot : goal.invariant-loop-slot
invariant-loop-slot l = IsScanned l.b l.slot l.covered (map dentry_of l.dents.items)
