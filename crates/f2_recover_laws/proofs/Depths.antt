-- An ino of a base that was read stands at one depth, which it may have.
use Rattle.std.proofs.Common.{◌≡◌, ℕ, ◌+◌, ◌≤◌, List, refl, sym, ap, subst}
use Rattle.f2_model.specs.Tree.{most_depth}
use Rattle.f2_model.specs.declared.rows.Kind.{Kind}
use Rattle.f2_image.specs.Images.{Image}
use Rattle.f2_image.specs.Packs.{Checkpoint}
use Rattle.f2_image.specs.Bases.{IsInode}
use Rattle.f2_image.specs.Faults.{IsBelow, root, deeper}
use Rattle.f2_image.proofs.Depths.{reached_of}
use Rattle.f2_recover.specs.Walking.{IsWalked, IsBaseRead}
use Rattle.f2_recover.specs.declared.walk.Walk.{Walk}
use Rattle.f2_recover.proofs.Walked.{one_kind, row_of}
use Rattle.f2_recover_laws.proofs.Stands.{not_root, one_dentry}

module _ (image : Image) (ckpt : Checkpoint) (walk : Walk) (is : IsWalked image ckpt walk) where
  one_depth : (a b ino other : ℕ) → ino ≡ other → IsBelow image ckpt a ino → IsBelow image ckpt b other → a ≡ b
  one_depth _ _ _ _ same root root = refl
  one_depth _ _ _ _ same root (deeper depth directory dentry up has) = absurd (not_root image ckpt walk is directory has.0 has.1 dentry (reached_of image ckpt depth directory up) has.2 (sym same))
  one_depth _ _ _ _ same (deeper depth directory dentry up has) root = absurd (not_root image ckpt walk is directory has.0 has.1 dentry (reached_of image ckpt depth directory up) has.2 same)
  one_depth _ _ _ _ same (deeper depth directory dentry up has) (deeper other above entry down there) =
      let one = one_dentry image ckpt walk is directory has.0 has.1 above there.0 there.1 dentry entry (reached_of image ckpt depth directory up) (reached_of image ckpt other above down) has.2 there.2 same in
      ap (λ n. n + 1) (one_depth depth other directory above one.0 up down)

pub fit_depth : (image : Image) (ckpt : Checkpoint) (walk : Walk) → IsBaseRead image ckpt walk → (depth ino : ℕ) (kind : Kind) (inode : List ℕ) → IsBelow image ckpt depth ino → IsInode image ckpt ino kind inode → depth ≤ most_depth kind
fit_depth image ckpt walk read depth ino kind inode under own =
    let has = row_of image ckpt walk read.walked ino (reached_of image ckpt depth ino under) in
    let depths : depth ≡ has.row.depth = one_depth image ckpt walk read.walked depth has.row.depth ino ino refl under has.is.below in
    let kinds : has.row.file.kind ≡ kind = one_kind image ckpt ino has.row.file.kind kind has.is.file.inode inode has.is.file.is own in
    subst (λ d. d ≤ most_depth kind) (sym depths) (subst (λ k. has.row.depth ≤ most_depth k) kinds (read.deep ino has.row has.there))
