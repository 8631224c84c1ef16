-- How a run ends: the number that the program ends with, and the line that is printed last.
use Rattle.std.specs.Prelude.{ℕ, List, [], ◌∷◌, ◌++◌, codes, decimal}
use Rattle.f2_layout.specs.declared.geometry.Limit.{Limit}
use Rattle.f2_layout.specs.declared.geometry.Limit.TheVariants.{Blocks, Nat, Zones, Nids, Device}
use Rattle.f2_recover.specs.Faults as bad_image
use Rattle.f2_recover.specs.declared.faults.BadImage as image
use Rattle.f2_play.specs.declared.status.Status.{Status}
use Rattle.f2_play.specs.declared.status.Status.TheVariants.{Done, Usage, TooLong, Script, SourceFault, SinkFault, DiskFault, BadImage, Geometry, Memory}

-- the exit status of the program
abbrev pub number_of : Status → ℕ
number_of Done = 0
number_of Usage = 1
number_of TooLong = 2
number_of (Script line) = 3
number_of SourceFault = 4
number_of SinkFault = 5
number_of DiskFault = 6
number_of (BadImage bad) = 7
number_of (Geometry limit value) = 8
number_of Memory = 9

-- the word for a limit of an image's sizes
abbrev pub limit_word : Limit → List ℕ
limit_word Blocks = codes "blocks"
limit_word Nat = codes "nat"
limit_word Zones = codes "zones"
limit_word Nids = codes "nids"
limit_word Device = codes "device"

-- a line that ends with a number
abbrev pub numbered_line : List ℕ → ℕ → List ℕ
numbered_line head number = head ++ (decimal number ++ 10 ∷ [])

-- what stands before the number in the line of a broken limit
abbrev pub limit_head : Limit → List ℕ
limit_head limit = codes "f2n: geometry " ++ (limit_word limit ++ 32 ∷ [])

-- the word for a condition of an image
abbrev pub bad_image_word : image.BadImage → List ℕ
bad_image_word image.TheVariants.BadSuper = codes "badsuper"
bad_image_word image.TheVariants.NoCheckpoint = codes "nocheckpoint"
bad_image_word (image.TheVariants.VersionEnd version) = codes "versionend"
bad_image_word (image.TheVariants.Journal count) = codes "journal"
bad_image_word (image.TheVariants.BadNat nid) = codes "badnat"
bad_image_word (image.TheVariants.BadInode at) = codes "badinode"
bad_image_word (image.TheVariants.DentFault at) = codes "dentfault"
bad_image_word (image.TheVariants.ChainLong at) = codes "chainlong"
bad_image_word (image.TheVariants.OutOfZone at) = codes "outofzone"
bad_image_word (image.TheVariants.Shared at) = codes "shared"
bad_image_word (image.TheVariants.Conflict ino) = codes "conflict"
bad_image_word (image.TheVariants.NoParent ino) = codes "noparent"
bad_image_word (image.TheVariants.BadTree ino) = codes "badtree"
bad_image_word (image.TheVariants.TooFull limit) = codes "toofull"

-- what stands before the number in the line of a condition of an image
abbrev pub bad_image_head : image.BadImage → List ℕ
bad_image_head bad = codes "f2n: badimage " ++ (bad_image_word bad ++ 32 ∷ [])

-- the line that is printed last, where the status has one
abbrev pub last_line : Status → List ℕ
last_line Done = []
last_line Usage = codes "f2n: usage" ++ 10 ∷ []
last_line TooLong = codes "f2n: toolong" ++ 10 ∷ []
last_line (Script line) = numbered_line (codes "f2n: script line ") line
last_line SourceFault = []
last_line SinkFault = []
last_line DiskFault = codes "f2n: diskfault" ++ 10 ∷ []
last_line (BadImage bad) = numbered_line (bad_image_head bad) (bad_image.number_of bad)
last_line (Geometry limit value) = numbered_line (limit_head limit) value
last_line Memory = []

-- the statuses that print no last line
abbrev pub IsSilent : Status → Type 0
IsSilent Done = Unit {0}
IsSilent Usage = ⊥
IsSilent TooLong = ⊥
IsSilent (Script line) = ⊥
IsSilent SourceFault = Unit {0}
IsSilent SinkFault = Unit {0}
IsSilent DiskFault = ⊥
IsSilent (BadImage bad) = ⊥
IsSilent (Geometry limit value) = ⊥
IsSilent Memory = Unit {0}
