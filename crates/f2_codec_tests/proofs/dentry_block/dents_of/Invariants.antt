use Rattle.std.specs.List.{All}
use Rattle.f2_dentry_block.specs.Packed.{HasNameLength}
use Rattle.f2_dentry_block.specs.declared.dents.Dent.{Dent}
use Rattle.f2_codec_tests.proofs.dentry_block.dents_of.Given as goal

abbrev pub invariant-loop-bytes : goal.invariant-loop-bytes
invariant-loop-bytes l = All (λ (dent : Dent). HasNameLength dent.name) l.dents.items
