-- The pages that are kept of a directory are its blocks.
use Rattle.std.proofs.Common.{◌≡◌, ℕ, ap, ◌∙◌, subst}
use Rattle.f2_model.specs.declared.rows.Kind.TheVariants.{Directory}
use Rattle.f2_image.specs.Images.{Image}
use Rattle.f2_image.specs.Packs.{Checkpoint}
use Rattle.f2_image.specs.Nodes.{page_address}
use Rattle.f2_image.specs.Bases.{IsInode, IsDirectoryBlock}
use Rattle.f2_image.specs.Reached.{IsBasePage}
use Rattle.f2_image.proofs.Dentries.{same_inode}
use Rattle.f2_recover.specs.Dents.{AreBlocksOf}
use Rattle.f2_recover.specs.Walking.{IsRowOf}
use Rattle.f2_recover.specs.declared.rows.BaseRow.{BaseRow}

module _ (image : Image) (ckpt : Checkpoint) (ino : ℕ) (row : BaseRow) (is : IsRowOf image ckpt ino row) (directory : row.file.kind ≡ Directory) where
  block_of : (page at : ℕ) → IsBasePage image ckpt ino page at → IsDirectoryBlock image ckpt ino page at
  block_of page at base = record {
    inode = is.file.inode;
    is = subst (λ k. IsInode image ckpt ino k is.file.inode) directory is.file.is;
    within = base.within;
    at_page = ap (λ inode. page_address image ckpt inode page) (same_inode image ckpt ino row.file.kind base.kind is.file.inode base.inode is.file.is base.is) ∙ base.address;
    there = base.there;
  }

  page_of : (page at : ℕ) → IsDirectoryBlock image ckpt ino page at → IsBasePage image ckpt ino page at
  page_of page at block = record { reached = is.file.reached; kind = Directory; inode = block.inode; is = block.is; within = block.within; address = block.at_page; there = block.there }

  pub blocks_of : AreBlocksOf image ckpt ino row.file.nodes.list.items
  blocks_of = record {
    only = λ x has. block_of x.page x.at (is.file.part.pages x.page x.at (is.file.part.listed.only x has)).is;
    all = λ page at block. is.file.part.listed.all page at (is.file.part.all_pages page at (page_of page at block) block.within);
    rising = is.file.part.listed.rising;
  }
