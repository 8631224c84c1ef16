use Rattle.std.proofs.Common.{◌≡◌, List, ℕ, map, take}
use Rattle.std.specs.List.{flat_map}
use Rattle.f2_dentry_block.specs.Dents.{dentry_of}
use Rattle.f2_format.specs.Dentry.{dentries_of}
use Rattle.f2_plain_read.specs.Files.{AreBlocks}
use Rattle.f2_plain_read.proofs.dentries.dents_of.Given as goal

abbrev pub invariant-loop-page : goal.invariant-loop-page
invariant-loop-page l = (blocks : List (List ℕ)) → AreBlocks l.pages blocks → map dentry_of l.dents.items ≡ flat_map dentries_of (take l.page blocks)
