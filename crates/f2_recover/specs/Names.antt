-- The names in a block of a directory, as they are read.
use Rattle.std.specs.Prelude.{◌≡◌, ⊤, ℕ, List, Some}
use Rattle.f2_format.specs.Dentry.{dentry_fault}
use Rattle.f2_recover.specs.declared.faults.MountFault.{MountFault}
use Rattle.f2_recover.specs.declared.faults.MountFault.TheVariants.{Bad, Read, Memory}
use Rattle.f2_recover.specs.declared.faults.BadImage.TheVariants.{DentFault}

-- a slot of the block is at fault, which is told with the block's address; or memory was refused
abbrev pub IsDentsFault : List ℕ → ℕ → MountFault → Type 0
IsDentsFault block at (Bad bad) = (bad ≡ DentFault at) × ((slot : ℕ) × (dentry_fault block ≡ Some slot))
IsDentsFault block at Read = ⊥
IsDentsFault block at Memory = ⊤
