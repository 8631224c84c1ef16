-- What contracts see of a running volume.
use Rattle.f2_format.specs.Geometry.{ImageGeometry}
use Rattle.f2_model.specs.History.{History}
use Rattle.f2_model.specs.declared.modes.Mode.{Mode}
use Rattle.f2_files.specs.Known.{Known}
use Rattle.f2_pages.specs.Kept.{Kept}

-- its disk, the sizes of its image, whether it is open, what it knows of its files, the pages that it keeps in memory, and its history
pub record Seen (D : Type 0) : Type 0 where
  pub disk : D
  pub geometry : ImageGeometry
  pub mode : Mode
  pub files : Known
  pub pages : Kept
  pub history : History
