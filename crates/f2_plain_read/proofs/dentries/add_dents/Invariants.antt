use Rattle.std.proofs.Common.{◌≡◌, ◌++◌, map}
use Rattle.f2_dentry_block.specs.Dents.{dentry_of}
use Rattle.f2_plain_read.proofs.dentries.add_dents.Given as goal

abbrev pub invariant-loop-dent : goal.invariant-loop-dent
invariant-loop-dent l = map dentry_of l.dents.items ≡ map dentry_of l.initial.dents.items ++ map dentry_of l.yielded
