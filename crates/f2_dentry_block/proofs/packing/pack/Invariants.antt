use Rattle.std.proofs.Common.{map, take}
use Rattle.f2_dentry_block.specs.Dents.{dentry_of}
use Rattle.f2_dentry_block.proofs.PackedBlocks.{IsPacked}
use Rattle.f2_dentry_block.proofs.packing.pack.Given as goal

abbrev pub invariant-loop-dent : goal.invariant-loop-dent
invariant-loop-dent l = IsPacked (map dentry_of (take l.dent-index l.names)) l.blocks.items l.taken
