-- The names that marks bring are right.
use Rattle.std.proofs.Common.{◌≡◌, ◌⊎◌, inl, inr, ℕ, List, sym, subst}
use Rattle.std.specs.Prelude.{Some}
use Rattle.f2_format.specs.Footer.{footer_ino}
use Rattle.f2_model.specs.declared.rows.Kind.TheVariants.{Directory}
use Rattle.f2_image.specs.Images.{Image}
use Rattle.f2_image.specs.Packs.{Checkpoint}
use Rattle.f2_image.specs.Bases.{inode_kind}
use Rattle.f2_image.specs.Faults as faults
use Rattle.f2_image.specs.Faults.{IsConflict, HasNoParent, IsDirectoryOf}
use Rattle.f2_overlay.specs.Names.{IsRightMark, HasRightMarks}

module _ (image : Image) (ckpt : Checkpoint) (right : HasRightMarks image ckpt) where
  pub no_conflict : (ino : ℕ) → IsConflict image ckpt ino → ⊥
  no_conflict ino (faults.in_base place parent name dentry brings reached has same) = (right.names place ino parent name brings).free dentry has same
  no_conflict ino (faults.in_log place earlier other parent name brings before lower differ) = differ ((right.names place ino parent name brings).alone earlier other before)

  pub has_parent : (ino : ℕ) → HasNoParent image ckpt ino → ⊥
  has_parent ino bad = bad.none (right.names bad.place ino bad.parent bad.name bad.brings).under

  -- a marked file is no directory
  pub no_directory : (ino : ℕ) (block : List ℕ) → IsRightMark image ckpt block → footer_ino block ≡ ino → (inode_kind block ≡ Some Directory) ⊎ IsDirectoryOf image ckpt ino → ⊥
  no_directory ino block mark own (inl kind) = mark.kind kind
  no_directory ino block mark own (inr directory) = mark.file (subst (λ n. IsDirectoryOf image ckpt n) (sym own) directory)
