-- A base of one of two images that are alike is that of the other.
use Rattle.std.proofs.Common.{◌≡◌, inl, ℕ, ◌<◌, List, refl, ap, ◌∙◌}
use Rattle.f2_format.specs.Offsets.{page_limit}
use Rattle.f2_model.specs.Tree.{Rows}
use Rattle.f2_model.specs.declared.rows.Row.{Row}
use Rattle.f2_model.specs.declared.rows.Kind.{Kind}
use Rattle.f2_model.specs.declared.rows.Kind.TheVariants.{Regular, Directory}
use Rattle.f2_image.specs.Images.{Image}
use Rattle.f2_image.specs.Packs.{Checkpoint}
use Rattle.f2_image.specs.Nodes.{block_there, page_address}
use Rattle.f2_image.specs.Bases.{IsInode, IsReached, HasContent, IsBaseRow, IsBase}
use Rattle.f2_image_laws.proofs.SameNodes.{same_page_address, inode_of_other}
use Rattle.f2_image_laws.proofs.Agreeing.{block_there-same}
use Rattle.f2_image_laws.proofs.Alike.{IsAlike, alike_back, dentry_of_other, reached_of_other}

module _ (image other : Image) (ckpt : Checkpoint) (alike : IsAlike image other ckpt) where
  same_there : (ino : ℕ) (kind : Kind) (inode : List ℕ) (page : ℕ) → IsReached image ckpt ino → IsInode image ckpt ino kind inode → page < page_limit
      → block_there other (page_address other ckpt inode page) ≡ block_there image (page_address image ckpt inode page)
  same_there ino kind inode page reach is within =
      ap (block_there other) (same_page_address image other ckpt alike.same inode page)
      ∙ block_there-same image other (page_address image ckpt inode page) (λ there. alike.pages ino page (page_address image ckpt inode page) (inl (record {
        reached = reach;
        kind = kind;
        inode = inode;
        is = is;
        within = within;
        address = refl;
        there = there;
      })))

  content_of_other : (ino : ℕ) (inode : List ℕ) (kind : Kind) (row : Row) → IsReached image ckpt ino → IsInode image ckpt ino kind inode → HasContent other ckpt inode kind row → HasContent image ckpt inode kind row
  content_of_other ino inode Regular row reach is content = (content.0, (λ page within. content.1 page within ∙ same_there ino Regular inode page reach is within), content.2)
  content_of_other ino inode Directory row reach is content = content

  row_of_other : (ino : ℕ) (row : Row) → IsBaseRow other ckpt ino row → IsBaseRow image ckpt ino row
  row_of_other ino row at =
      let reach = reached_of_other image other ckpt alike ino at.reached in
      let is = inode_of_other image other ckpt alike.same ino row.kind at.inode at.is in
      record { own = at.own; reached = reach; inode = at.inode; is = is; content = content_of_other ino at.inode row.kind row reach is at.content }

  pub base_of_other : (base : Rows) → IsBase other ckpt base → IsBase image ckpt base
  base_of_other base is = record {
    rows = λ ino row there. row_of_other ino row (is.rows ino row there);
    root = is.root;
    names = λ directory dentry reach has.
        let back = alike_back image other ckpt alike in
        let there = reached_of_other other image ckpt back directory reach in
        is.names directory dentry there (dentry_of_other other image ckpt back directory dentry there has);
    named = λ ino row there directory name among.
        let at = is.named ino row there directory name among in
        let reach = reached_of_other image other ckpt alike directory at.reached in
        record { reached = reach; dentry = at.dentry; has = dentry_of_other image other ckpt alike directory at.dentry reach at.has; own = at.own; named = at.named };
  }
