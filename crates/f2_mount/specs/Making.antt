-- What a new image stands for, and when a disk has one.
use Rattle.std.specs.Prelude.{◌≡◌, [], length, All}
use Rattle.f2_format.specs.Geometry.{ImageGeometry}
use Rattle.f2_disk.specs.Contents.{Contents, IsImage}
use Rattle.f2_model.specs.Tree.{root_alone}
use Rattle.f2_model.specs.State.{Meaning, initial}
use Rattle.f2_model.specs.declared.modes.Format.TheVariants.{Two}
use Rattle.f2_image.specs.Images.{Image, IsSized}
use Rattle.f2_image.specs.Meanings.{IsSafe}

-- what a new image stands for: the root alone, by the first checkpoint, of the newer format
abbrev pub new_image : Meaning
new_image = record { base = root_alone; marks = []; format = Two; version = 1 }

-- A disk has a new image: whatever a crash leaves of it is one of these sizes that stands for the root alone, by the
-- first checkpoint, of the newer format, without marks and clean; and nothing waits for a flush.
pub record IsNewImage (geom : ImageGeometry) (lists : Contents) : Type 0 where
  pub safe : IsSafe lists (initial new_image)
  pub sized : (image : Image) → IsImage lists image → IsSized image geom
  pub settled : All (λ contents. length contents ≡ 1) lists

-- a disk of any content that has a new image afterwards
abbrev pub HasNewImage : ImageGeometry → Contents → Contents → Type 0
HasNewImage geom before after = IsNewImage geom after
