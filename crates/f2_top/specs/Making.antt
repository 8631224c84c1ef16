-- What the command does that makes an image.
use Rattle.std.specs.Prelude.{◌≡◌, ℕ, ◌<◌, ◌≤◌, ◌^◌, List, [], ◌∷◌, codes, decimal, Option, Ok, Err}
use Rattle.std.specs.Io.KnownBytes.{Appends}
use Rattle.f2_format.specs.Geometry.{ImageGeometry, node_third, data_third}
use Rattle.f2_disk.specs.Contents.{Contents, WhereTold, latest}
use Rattle.f2_disk.specs.Meter.{Meter, HasFailed}
use Rattle.f2_layout.specs.Refusal.{geometry_of}
use Rattle.f2_layout.specs.declared.geometry.Limit.{Limit}
use Rattle.f2_layout.specs.declared.geometry.Limit.TheVariants.{Device}
use Rattle.f2_mount.specs.Making.{HasNewImage}
use Rattle.f2_script.specs.Steps.{made_spelling}
use Rattle.f2_play.specs.declared.status.Status.{Status}
use Rattle.f2_play.specs.declared.status.Status.TheVariants.{Done, Usage, TooLong, Script, SourceFault, SinkFault, DiskFault, BadImage, Geometry, Memory}
use Rattle.f2_play.specs.Endings.{last_line}
use Rattle.f2_play.specs.Lines.{ended}
use Rattle.f2_top.specs.Streams.{IsCutAfter}

-- its words: `mkfs`, the image's name, and the image's sizes as scripts spell numbers
pub record IsMkfs (words : List (List ℕ)) (geom : ImageGeometry) : Type 0 where
  pub image : List ℕ
  pub are : words ≡ codes "mkfs" ∷ image ∷ decimal geom.blocks ∷ decimal geom.nat ∷ []
  pub blocks : geom.blocks < 2 ^ 32
  pub nat : geom.nat < 2 ^ 32

-- no words of a new image
abbrev pub IsNoMkfs : List (List ℕ) → Type 0
IsNoMkfs words = (geom : ImageGeometry) → ¬ (IsMkfs words geom)

-- sizes that an image can have and that a device has room for
pub record IsGranted (geom : ImageGeometry) (blocks : ℕ) : Type 0 where
  pub own : geometry_of geom ≡ Ok geom
  pub room : geom.blocks ≤ blocks

-- sizes that break a limit: one of images, or the device's
pub data Breaks (geom : ImageGeometry) (blocks : ℕ) (limit : Limit) (value : ℕ) : Type 0 where
  own : geometry_of geom ≡ Err record { limit = limit; value = value } → Breaks geom blocks limit value
  room : geometry_of geom ≡ Ok geom → blocks < geom.blocks → limit ≡ Device → value ≡ blocks → Breaks geom blocks limit value

-- what reads give stays
abbrev pub ReadsTheSame : Contents → Contents → Type 0
ReadsTheSame before after = latest after ≡ latest before

-- What was done, and what is printed of it, by the status. Of the disk this says what it told before and tells now, and
-- its numbers before and now.
abbrev pub MakesBy : ImageGeometry → Option Contents → Option Contents → Meter → Meter → Status → List ℕ → Type 0
MakesBy geom told now old new Done text =
    IsGranted geom old.blocks × WhereTold told now (HasNewImage geom) × (text ≡ ended (made_spelling (node_third geom) (data_third geom)))
MakesBy geom told now old new (Geometry limit value) text =
    Breaks geom old.blocks limit value × WhereTold told now ReadsTheSame × (text ≡ last_line (Geometry limit value))
MakesBy geom told now old new DiskFault text = (geometry_of geom ≡ Ok geom) × HasFailed old new × (text ≡ last_line DiskFault)
MakesBy geom told now old new Memory text = IsGranted geom old.blocks × WhereTold told now ReadsTheSame × (text ≡ [])
MakesBy geom told now old new Usage text = ⊥
MakesBy geom told now old new TooLong text = ⊥
MakesBy geom told now old new (Script line) text = ⊥
MakesBy geom told now old new SourceFault text = ⊥
MakesBy geom told now old new SinkFault text = ⊥
MakesBy geom told now old new (BadImage bad) text = ⊥

-- the text of another status was cut off where the sink failed
pub record IsCutMaking (geom : ImageGeometry) (told now : Option Contents) (old new : Meter) (out : List ℕ) : Type 0 where
  pub status : Status
  pub text : List ℕ
  pub makes : MakesBy geom told now old new status text
  pub cut : IsCutAfter out text

-- what was done, and what went out of the text that is printed of it
abbrev pub Makes : ImageGeometry → Option Contents → Option Contents → Meter → Meter → Status → List ℕ → Type 0
Makes geom told now old new SinkFault out = IsCutMaking geom told now old new out
Makes geom told now old new status out = MakesBy geom told now old new status out

-- the whole command: what went out, and by it what was done
pub record IsMade (geom : ImageGeometry) (told now : Option Contents) (old new : Meter) (before after : Option (List ℕ)) (status : Status) : Type 0 where
  pub out : List ℕ
  pub written : Appends before after out
  pub makes : Makes geom told now old new status out
