-- A dentry that names a file of the base.
use Rattle.std.specs.Prelude.{◌≡◌, ℕ}
use Rattle.f2_format.specs.Dentry.{Dentry}
use Rattle.f2_model.specs.declared.rows.Kind.{Kind}
use Rattle.f2_image.specs.Images.{Image}
use Rattle.f2_image.specs.Packs.{Checkpoint}
use Rattle.f2_image.specs.Bases.{IsReached, HasDentry}
use Rattle.f2_image.specs.Faults.{type_of_kind}

-- a dentry of a directory of the base names an ino as a file of this kind
pub record IsNamedAs (image : Image) (ckpt : Checkpoint) (ino : ℕ) (kind : Kind) : Type 0 where
  pub directory : ℕ
  pub dentry : Dentry
  pub reached : IsReached image ckpt directory
  pub has : HasDentry image ckpt directory dentry
  pub is : dentry.ino ≡ ino
  pub typed : dentry.type ≡ type_of_kind kind
