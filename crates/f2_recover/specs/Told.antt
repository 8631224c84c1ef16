-- What a disk tells, and calls that only read it.
use Rattle.std.specs.Prelude.{◌≡◌, Option, Some}
use Rattle.f2_disk.specs.Contents.{Contents, latest}
use Rattle.f2_disk.specs.Meter.{Meter, IsWithin}
use Rattle.f2_image.specs.Images.{Image}

-- a disk tells what it holds, and its reads give this image
abbrev pub Tells : Option Contents → Image → Type 0
Tells held image = (lists : Contents) × (held ≡ Some lists) × (image ≡ latest lists)

-- calls that write nothing: what a disk holds is as before, and they meet no fault but those planned
pub record OnlyReads (held : Option Contents) (old : Meter) (now : Option Contents) (new : Meter) : Type 0 where
  pub kept : now ≡ held
  pub within : IsWithin 0 old new
