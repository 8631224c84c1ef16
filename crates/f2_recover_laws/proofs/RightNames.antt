-- The names of a base that was read make a good tree.
use Rattle.std.proofs.Common.{◌≡◌, ℕ, List, refl, sym, ap, ◌∙◌, subst}
use Rattle.std.specs.Prelude.{None}
use Rattle.std.proofs.lemmas.Option.{same_Some}
use Rattle.f2_format.specs.Dentry.{Dentry, dentry_fault}
use Rattle.f2_format.specs.Inode.{inode_of}
use Rattle.f2_model.specs.Tree.{ROOT}
use Rattle.f2_model.specs.declared.rows.Kind.{Kind}
use Rattle.f2_model.specs.declared.rows.Kind.TheVariants.{Regular, Directory}
use Rattle.f2_dentry_block.specs.Dents.{type_of}
use Rattle.f2_image.specs.Images.{Image, block_at}
use Rattle.f2_image.specs.Packs.{Checkpoint}
use Rattle.f2_image.specs.Bases.{IsInode, IsReached, IsDirectoryBlock, HasDentry}
use Rattle.f2_image.specs.Reached.{IsBasePage}
use Rattle.f2_image.specs.Faults.{IsPastSize, type_of_kind}
use Rattle.f2_recover.specs.Walking.{IsWalked, IsBaseRead}
use Rattle.f2_recover.specs.declared.walk.Walk.{Walk}
use Rattle.f2_recover.proofs.Walked.{one_kind, was_walked, row_of}
use Rattle.f2_recover_laws.specs.Sound.{HasRightNames}
use Rattle.f2_recover_laws.proofs.Stands.{stands_by, one_name, one_dentry}
use Rattle.f2_recover_laws.proofs.Depths.{fit_depth}

same_type : (kind : Kind) → type_of_kind kind ≡ type_of kind
same_type Regular = refl
same_type Directory = refl

not_both_kinds : Directory ≡ Regular → ⊥
not_both_kinds e = cc

module _ (image : Image) (ckpt : Checkpoint) (walk : Walk) (is : IsWalked image ckpt walk) where
  root_directory : (inode : List ℕ) → IsInode image ckpt ROOT Regular inode → ⊥
  root_directory inode own =
      let root = is.to.root in
      let file = (is.to.rows ROOT root.row root.there).file in
      not_both_kinds (sym root.is.kind ∙ one_kind image ckpt ROOT root.row.file.kind Regular file.inode inode file.is own)

  whole : (directory page at : ℕ) → IsReached image ckpt directory → IsDirectoryBlock image ckpt directory page at → dentry_fault (block_at image at) ≡ None
  whole directory page at reached block = (is.to.walked directory (was_walked image ckpt walk is directory block.inode (row_of image ckpt walk is directory reached) block.is)).whole page at block

  kinds : (directory : ℕ) (dentry : Dentry) (kind : Kind) (inode : List ℕ) → IsReached image ckpt directory → HasDentry image ckpt directory dentry → IsInode image ckpt dentry.ino kind inode → type_of_kind kind ≡ dentry.type
  kinds directory dentry kind inode reached has own =
      let row = stands_by image ckpt walk is directory has.0 has.1 dentry reached has.2 in
      let file = (is.to.rows dentry.ino row.row row.there).file in
      same_type kind ∙ ap type_of (one_kind image ckpt dentry.ino kind row.row.file.kind inode file.inode own file.is) ∙ sym row.is.typed

  ends : (ino page at : ℕ) (inode : List ℕ) → IsReached image ckpt ino → IsInode image ckpt ino Regular inode → IsBasePage image ckpt ino page at → IsPastSize image (inode_of inode).size page at → ⊥
  ends ino page at inode reached own base past =
      let has = row_of image ckpt walk is ino reached in
      let file = has.is.file in
      let regular : has.row.file.kind ≡ Regular = one_kind image ckpt ino has.row.file.kind Regular file.inode inode file.is own in
      let size : (inode_of inode).size ≡ has.row.file.size = ap (λ n. (inode_of n).size) (same_Some inode file.inode (sym own.there ∙ file.is.there)) ∙ sym file.size in
      has.is.ends regular page at base (subst (λ s. IsPastSize image s page at) size past)

pub right_names : (image : Image) (ckpt : Checkpoint) (walk : Walk) → IsBaseRead image ckpt walk → HasRightNames image ckpt
right_names image ckpt walk read =
    let is = read.walked in
    record {
      root = root_directory image ckpt walk is;
      whole = whole image ckpt walk is;
      least = λ directory dentry reached has. (stands_by image ckpt walk is directory has.0 has.1 dentry reached has.2).is.least;
      good = λ directory dentry reached has. (stands_by image ckpt walk is directory has.0 has.1 dentry reached has.2).is.good;
      kinds = kinds image ckpt walk is;
      once = one_dentry image ckpt walk is;
      names = one_name image ckpt walk is;
      depth = fit_depth image ckpt walk read;
      ends = ends image ckpt walk is;
    }
