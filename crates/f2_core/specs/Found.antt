-- What a core finds on its disk.
use Rattle.std.specs.Prelude.{◌≡◌, ◌≤◌, IfSome, Option}
use Rattle.f2_format.specs.Geometry.{ImageGeometry}
use Rattle.f2_disk.specs.Contents.{Contents}
use Rattle.f2_model.specs.Tree.{Rows}
use Rattle.f2_image.specs.Faults.{MOST_VERSION}
use Rattle.f2_laid.specs.Laid.{IsKept}
use Rattle.f2_laid.specs.declared.stored.Stored.{Stored}
use Rattle.f2_flat.specs.Flat.{IsFlat}
use Rattle.f2_core.specs.Seen.{IsHeld}
use Rattle.f2_core.specs.declared.volumes.Volume.{Volume}

-- where a disk holds one image with a flat tree, this volume is that tree, as its checkpoint tells
abbrev pub FindsHeld : ImageGeometry → Option Contents → Volume → Type 0
FindsHeld geom told volume =
    IfSome told (λ lists. (base : Rows) (stored : Stored) → IsFlat geom base → IsHeld geom lists base stored → (volume.files ≡ base) × (volume.stored ≡ stored))

-- what holds of a volume that was found on any disk
pub record IsSoundlyFound (geom : ImageGeometry) (volume : Volume) : Type 0 where
  pub flat : IsFlat geom volume.files
  pub sizes : volume.stored.geometry ≡ geom
  pub kept : IsKept geom volume.stored.places
  pub version : volume.stored.version ≤ MOST_VERSION

-- no disk that holds one image with a flat tree and a version that is taken
abbrev pub NoneIsHeld : ImageGeometry → Option Contents → Type 0
NoneIsHeld geom told = IfSome told (λ lists. (base : Rows) (stored : Stored) → IsFlat geom base → stored.version ≤ MOST_VERSION → ¬ (IsHeld geom lists base stored))

-- a disk that holds one image holds it still
abbrev pub StaysHeld : ImageGeometry → Option Contents → Option Contents → Type 0
StaysHeld geom before after = IfSome before (λ lists. (base : Rows) (stored : Stored) → IsHeld geom lists base stored → after ≡ before)
