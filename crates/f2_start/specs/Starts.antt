-- The superblock and the newest pack of an image, as they were read.
use Rattle.std.specs.Prelude.{◌≡◌, ⊤}
use Rattle.f2_format.specs.Geometry.{ImageGeometry}
use Rattle.f2_format.specs.Pack.{head_of}
use Rattle.f2_image.specs.Images.{Image, block_at}
use Rattle.f2_image.specs.Packs as image
use Rattle.f2_image.specs.Packs.{Checkpoint, IsNewest, head_address, summary_address}
use Rattle.f2_image.specs.Faults.{Stands}
use Rattle.f2_pack.specs.Packs.{fields_of}
use Rattle.f2_pack.specs.declared.packs.Pack.{Pack}
use Rattle.f2_pack.specs.declared.packs.Side.{Side}
use Rattle.f2_pack.specs.declared.packs.Side.TheVariants.{A, B}
use Rattle.f2_recover.specs.Faults.{which_of, number_of}
use Rattle.f2_recover.specs.declared.faults.MountFault.{MountFault}
use Rattle.f2_recover.specs.declared.faults.MountFault.TheVariants.{Bad, Read, Memory}
use Rattle.f2_start.specs.declared.reading.Start.{Start}

-- the side of an image on which a pack stands
abbrev pub side_of : Side → image.Side
side_of A = image.A
side_of B = image.B

-- the newest pack of an image, and its side
pub record IsNewestPack (geom : ImageGeometry) (image : Image) (pack : Pack) (side : Side) : Type 0 where
  pub newest : IsNewest geom image (side_of side)
  pub head : fields_of pack.head geom.nat ≡ head_of (block_at image (head_address (side_of side)))
  pub summary : pack.summary ≡ block_at image (summary_address (side_of side))

-- what was read of a checkpoint
pub record IsStartOf (start : Start) (ckpt : Checkpoint) : Type 0 where
  pub geom_is : ckpt.geom ≡ start.geometry
  pub side_is : ckpt.side ≡ side_of start.side
  pub head_is : ckpt.head ≡ fields_of start.pack.head start.geometry.nat
  pub summary_is : ckpt.summary ≡ start.pack.summary

-- a condition that is told stands in the image; the other faults say nothing of it
abbrev pub IsStanding : Image → MountFault → Type 0
IsStanding image (Bad bad) = Stands (which_of bad) image (number_of bad)
IsStanding image Read = ⊤
IsStanding image Memory = ⊤
