-- What a disk tells.
use Rattle.std.specs.Prelude.{◌≡◌, Option, Some}
use Rattle.f2_disk.specs.Contents.{Contents, latest}
use Rattle.f2_image.specs.Images.{Image}

-- a disk tells what it holds, and its reads give this image
abbrev pub Tells : Option Contents → Image → Type 0
Tells held image = (lists : Contents) × (held ≡ Some lists) × (image ≡ latest lists)
