-- Faults of a mount as the conditions of an image.
use Rattle.std.specs.Prelude.{ℕ, ⊤}
use Rattle.f2_image.specs.Images.{Image}
use Rattle.f2_image.specs.Packs.{Checkpoint}
use Rattle.f2_image.specs.Faults as image
use Rattle.f2_image.specs.Faults.{Which, StandsAt}
use Rattle.f2_recover.specs.declared.faults.BadImage.{BadImage}
use Rattle.f2_recover.specs.declared.faults.BadImage.TheVariants.{BadSuper, NoCheckpoint, VersionEnd, Journal, BadNat, BadInode, DentFault, ChainLong, OutOfZone, Shared, Conflict, NoParent, BadTree, TooFull}
use Rattle.f2_recover.specs.declared.faults.MountFault.{MountFault}
use Rattle.f2_recover.specs.declared.faults.MountFault.TheVariants.{Bad, Read, Memory}

-- the condition that is told, and its number
abbrev pub which_of : BadImage → Which
which_of BadSuper = image.BadSuper
which_of NoCheckpoint = image.NoCheckpoint
which_of (VersionEnd version) = image.VersionEnd
which_of (Journal count) = image.Journal
which_of (BadNat nid) = image.BadNat
which_of (BadInode at) = image.BadInode
which_of (DentFault at) = image.DentFault
which_of (ChainLong at) = image.ChainLong
which_of (OutOfZone at) = image.OutOfZone
which_of (Shared at) = image.Shared
which_of (Conflict ino) = image.Conflict
which_of (NoParent ino) = image.NoParent
which_of (BadTree ino) = image.BadTree
which_of (TooFull limit) = image.TooFull

abbrev pub number_of : BadImage → ℕ
number_of BadSuper = 0
number_of NoCheckpoint = 0
number_of (VersionEnd version) = version
number_of (Journal count) = count
number_of (BadNat nid) = nid
number_of (BadInode at) = at
number_of (DentFault at) = at
number_of (ChainLong at) = at
number_of (OutOfZone at) = at
number_of (Shared at) = at
number_of (Conflict ino) = ino
number_of (NoParent ino) = ino
number_of (BadTree ino) = ino
number_of (TooFull limit) = limit

-- a condition that is told stands; the other faults say nothing of the image
abbrev pub IsRightFault : Image → Checkpoint → MountFault → Type 0
IsRightFault image ckpt (Bad bad) = StandsAt (which_of bad) image ckpt (number_of bad)
IsRightFault image ckpt Read = ⊤
IsRightFault image ckpt Memory = ⊤
