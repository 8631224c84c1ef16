-- What is right of the names that marks bring.
use Rattle.std.specs.Prelude.{◌≡◌, ◌≢◌, ℕ, true, List, Some}
use Rattle.f2_format.specs.Dentry.{Dentry}
use Rattle.f2_format.specs.Footer.{footer_ino, has_dentry_mark}
use Rattle.f2_model.specs.Names.{is_good_name}
use Rattle.f2_model.specs.declared.rows.Kind.TheVariants.{Directory}
use Rattle.f2_image.specs.Images.{Image}
use Rattle.f2_image.specs.Packs.{Checkpoint}
use Rattle.f2_image.specs.Bases.{IsReached, HasDentry, inode_kind}
use Rattle.f2_image.specs.Reached.{IsMarkedAt}
use Rattle.f2_image.specs.Faults.{BringsName, IsDirectoryOf}

-- a marked block is that of a regular file, and says that it brings a name where the base hasn't the file
pub record IsRightMark (image : Image) (ckpt : Checkpoint) (block : List ℕ) : Type 0 where
  pub kind : inode_kind block ≢ Some Directory
  pub file : ¬ (IsDirectoryOf image ckpt (footer_ino block))
  pub bound : ¬ (IsReached image ckpt (footer_ino block)) → has_dentry_mark block ≡ true

-- a name that a mark brings is good, goes into a directory of the base that hasn't it, and no other file brings it
pub record IsRightName (image : Image) (ckpt : Checkpoint) (ino parent : ℕ) (name : List ℕ) : Type 0 where
  pub good : is_good_name name ≡ true
  pub under : IsDirectoryOf image ckpt parent
  pub free : (dentry : Dentry) → HasDentry image ckpt parent dentry → dentry.name ≢ name
  pub alone : (place other : ℕ) → BringsName image ckpt place other parent name → other ≡ ino

pub record HasRightMarks (image : Image) (ckpt : Checkpoint) : Type 0 where
  pub marks : (place : ℕ) (block : List ℕ) → IsMarkedAt image ckpt place block → IsRightMark image ckpt block
  pub names : (place ino parent : ℕ) (name : List ℕ) → BringsName image ckpt place ino parent name → IsRightName image ckpt ino parent name
