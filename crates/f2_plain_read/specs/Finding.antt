-- What was found of an image.
use Rattle.std.specs.Prelude.{◌≡◌, ℕ}
use Rattle.f2_format.specs.Geometry.{nid_limit}
use Rattle.f2_image.specs.Images.{Image}
use Rattle.f2_model.specs.Tree.{Rows}
use Rattle.f2_laid.specs.declared.stored.Stored.{Stored}
use Rattle.f2_plain_read.specs.Building.{IsBuilt}
use Rattle.f2_plain_read.specs.Points.{IsPointOf}
use Rattle.f2_plain_read.specs.Reads.{IsLaidOut}
use Rattle.f2_plain_read.specs.declared.built.Built.{Built}
use Rattle.f2_plain_read.specs.declared.ckpt.Point.{Point}

-- all files of a tree that is laid out were built, as its checkpoint tells of them
pub record IsReadOf (image : Image) (tree : Rows) (stored : Stored) (ckpt : Point) (limit : ℕ) (built : Built) : Type 0 where
  pub out : IsLaidOut image tree stored
  pub ckpt_is : IsPointOf stored ckpt
  pub all : limit ≡ nid_limit stored.geometry
  pub files : IsBuilt tree stored.places limit built
