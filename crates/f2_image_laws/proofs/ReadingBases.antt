-- Images with the same nodes that agree on the pages of the base of one of them read alike.
use Rattle.std.proofs.Common.{◌≡◌, inl, ℕ, sym, ◌∙◌}
use Rattle.f2_format.specs.Dentry.{Dentry}
use Rattle.f2_model.specs.declared.rows.Kind.TheVariants.{Directory}
use Rattle.f2_image.specs.Images.{Image, block_at}
use Rattle.f2_image.specs.Packs.{Checkpoint}
use Rattle.f2_image.specs.Bases.{IsDirectoryBlock, HasDentryAt, HasDentry, IsReached, root, below}
use Rattle.f2_image.specs.Reached.{IsBasePage, IsNode}
use Rattle.f2_image.specs.Reached as reached
use Rattle.f2_image.specs.Faults.{IsSound}
use Rattle.f2_image_laws.specs.Alike.{ReadsSo, ReadAlike}
use Rattle.f2_image_laws.specs.Depending.{DependsOn}
use Rattle.f2_image_laws.specs.Depending as depending
use Rattle.f2_image_laws.proofs.ReadingNodes.{SameTable, same_table_back, same_table, read_page_address, read_marked_address, read_inode, read_directory_block, read_dentry_in}

-- the same blocks where the pages of a base stand
abbrev SamePages : Image → Image → Checkpoint → Type 0
SamePages image other ckpt = (ino page at : ℕ) → IsBasePage image ckpt ino page at → block_at other at ≡ block_at image at

module _ (image other : Image) (ckpt : Checkpoint) (same : SameTable image other ckpt) (pages : SamePages image other ckpt) where
  same_directory_block : (directory page at : ℕ) → IsReached image ckpt directory → IsDirectoryBlock image ckpt directory page at → block_at other at ≡ block_at image at
  same_directory_block directory page at reach is = pages directory page at (record {
    reached = reach;
    kind = Directory;
    inode = is.inode;
    is = is.is;
    within = is.within;
    address = is.at_page;
    there = is.there;
  })

  read_dentry_at : (directory page slot : ℕ) (dentry : Dentry) → IsReached image ckpt directory → HasDentryAt other ckpt directory page slot dentry → HasDentryAt image ckpt directory page slot dentry
  read_dentry_at directory page slot dentry reach has =
      read_dentry_in image other ckpt same directory page slot dentry has (same_directory_block directory page has.at reach (read_directory_block image other ckpt same directory page has.at has.block))

  read_dentry : (directory : ℕ) (dentry : Dentry) → IsReached image ckpt directory → HasDentry other ckpt directory dentry → HasDentry image ckpt directory dentry
  read_dentry directory dentry reach (page, slot, has) = (page, slot, read_dentry_at directory page slot dentry reach has)

  read_reached : (ino : ℕ) → IsReached other ckpt ino → IsReached image ckpt ino
  read_reached _ root = root
  read_reached _ (below directory dentry up has) = let before = read_reached directory up in below directory dentry before (read_dentry directory dentry before has)

  read_page : (ino page at : ℕ) → IsBasePage other ckpt ino page at → IsBasePage image ckpt ino page at
  read_page ino page at is = record {
    reached = read_reached ino is.reached;
    kind = is.kind;
    inode = is.inode;
    is = read_inode image other ckpt same ino is.kind is.inode is.is;
    within = is.within;
    address = sym (read_page_address image other ckpt same is.inode page) ∙ is.address;
    there = is.there;
  }

  read_node : (ino offset nid : ℕ) → IsNode other ckpt ino offset nid → IsNode image ckpt ino offset nid
  read_node _ _ _ (reached.inode ino reach) = reached.inode ino (read_reached ino reach)
  read_node _ _ _ (reached.named ino offset nid slot lower block is there small under named) =
      reached.named ino offset nid slot lower block (read_node ino offset nid is) (sym (same.nodes nid) ∙ there) small under named

  pages_back : SamePages other image ckpt
  pages_back ino page at is = sym (pages ino page at (read_page ino page at is))

  reads_so : ReadsSo other image ckpt
  reads_so = record {
    reached = read_reached;
    node = read_node;
    inode = read_inode image other ckpt same;
    directory_block = read_directory_block image other ckpt same;
    dentry_at = λ directory page slot dentry reach. read_dentry_at directory page slot dentry (read_reached directory reach);
    dentry = λ directory dentry reach. read_dentry directory dentry (read_reached directory reach);
    page = read_page;
  }

pub read_alike : (image other : Image) (ckpt : Checkpoint) → IsSound image ckpt → ((at : ℕ) → DependsOn image ckpt at → block_at other at ≡ block_at image at) → ReadAlike image other ckpt
read_alike image other ckpt sound agree =
    let same = same_table image other ckpt sound agree in
    let pages : SamePages image other ckpt = λ ino page at is. agree at (depending.page ino page (inl is)) in
    record {
      places = same.places;
      addresses = same.addresses;
      nodes = same.nodes;
      page_addresses = read_page_address image other ckpt same;
      marked_addresses = read_marked_address image other ckpt same;
      pages = pages;
      there = reads_so other image ckpt (same_table_back image other ckpt same) (pages_back image other ckpt same pages);
      back = reads_so image other ckpt same pages;
    }
