use Rattle.std.proofs.Common.{map, take}
use Rattle.f2_dentry_block.specs.Dents.{dentry_of}
use Rattle.f2_dentry_block.proofs.PackedBlocks.{IsCounted}
use Rattle.f2_dentry_block.proofs.packing.slots_of.Given as goal

abbrev pub invariant-loop-dent : goal.invariant-loop-dent
invariant-loop-dent l = IsCounted (map dentry_of (take l.dent-index l.names)) l.blocks l.taken
