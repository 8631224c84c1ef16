-- Images with the same nodes and node log that agree on the pages of one of them: their bases and marks have the same pages.
use Rattle.std.proofs.Common.{◌≡◌, inl, inr, ℕ, sym, ap, ◌∙◌}
use Rattle.f2_format.specs.Dentry.{Dentry}
use Rattle.f2_model.specs.declared.rows.Kind.TheVariants.{Directory}
use Rattle.f2_image.specs.Images.{Image, block_at}
use Rattle.f2_image.specs.Packs.{Checkpoint}
use Rattle.f2_image.specs.Bases.{IsDirectoryBlock, HasDentryAt, HasDentry, IsReached, root, below}
use Rattle.f2_image.specs.Chains.{chain, marked_address}
use Rattle.f2_image.specs.Reached.{IsBasePage, IsMarkedPage, IsPage, IsNode}
use Rattle.f2_image.specs.Reached as reached
use Rattle.f2_image_laws.proofs.SameNodes.{HasSameNodes, same_nodes_back, same_page_address, same_marked_address, inode_of_other, block_of_other, dentry_with_block, marked_of_other}

-- the same nodes, and the same blocks where the pages of the first image stand
pub record IsAlike (image other : Image) (ckpt : Checkpoint) : Type 0 where
  pub same : HasSameNodes image other ckpt
  pub pages : (ino page at : ℕ) → IsPage image ckpt ino page at → block_at other at ≡ block_at image at

module _ (image other : Image) (ckpt : Checkpoint) (alike : IsAlike image other ckpt) where
  pub same_directory_block : (directory page at : ℕ) → IsReached image ckpt directory → IsDirectoryBlock image ckpt directory page at → block_at other at ≡ block_at image at
  same_directory_block directory page at reach is = alike.pages directory page at (inl (record {
    reached = reach;
    kind = Directory;
    inode = is.inode;
    is = is.is;
    within = is.within;
    address = is.at_page;
    there = is.there;
  }))

  pub dentry_at_of_other : (directory page slot : ℕ) (dentry : Dentry) → IsReached image ckpt directory → HasDentryAt other ckpt directory page slot dentry → HasDentryAt image ckpt directory page slot dentry
  dentry_at_of_other directory page slot dentry reach has =
      dentry_with_block image other ckpt alike.same directory page slot dentry has (same_directory_block directory page has.at reach (block_of_other image other ckpt alike.same directory page has.at has.block))

  pub dentry_of_other : (directory : ℕ) (dentry : Dentry) → IsReached image ckpt directory → HasDentry other ckpt directory dentry → HasDentry image ckpt directory dentry
  dentry_of_other directory dentry reach (page, slot, has) = (page, slot, dentry_at_of_other directory page slot dentry reach has)

  pub reached_of_other : (ino : ℕ) → IsReached other ckpt ino → IsReached image ckpt ino
  reached_of_other _ root = root
  reached_of_other _ (below directory dentry up has) =
      let before = reached_of_other directory up in
      below directory dentry before (dentry_of_other directory dentry before has)

  pub base_page_of_other : (ino page at : ℕ) → IsBasePage other ckpt ino page at → IsBasePage image ckpt ino page at
  base_page_of_other ino page at is = record {
    reached = reached_of_other ino is.reached;
    kind = is.kind;
    inode = is.inode;
    is = inode_of_other image other ckpt alike.same ino is.kind is.inode is.is;
    within = is.within;
    address = sym (same_page_address image other ckpt alike.same is.inode page) ∙ is.address;
    there = is.there;
  }

  marked_page_of_other : (ino page at : ℕ) → IsMarkedPage other ckpt ino page at → IsMarkedPage image ckpt ino page at
  marked_page_of_other ino page at is = record {
    place = is.place;
    inode = is.inode;
    marked = marked_of_other image other ckpt alike.same is.place is.inode is.marked;
    own = is.own;
    within = is.within;
    address = sym (ap (λ log. marked_address other ckpt log is.place page) alike.same.log ∙ same_marked_address image other ckpt alike.same (chain image ckpt) is.place page) ∙ is.address;
    there = is.there;
  }

  pub page_of_other : (ino page at : ℕ) → IsPage other ckpt ino page at → IsPage image ckpt ino page at
  page_of_other ino page at (inl is) = inl (base_page_of_other ino page at is)
  page_of_other ino page at (inr is) = inr (marked_page_of_other ino page at is)

  pub alike_back : IsAlike other image ckpt
  alike_back = record { same = same_nodes_back image other ckpt alike.same; pages = λ ino page at is. sym (alike.pages ino page at (page_of_other ino page at is)) }

  -- the nodes of the base
  pub node_of_other : (ino offset nid : ℕ) → IsNode other ckpt ino offset nid → IsNode image ckpt ino offset nid
  node_of_other _ _ _ (reached.inode ino reach) = reached.inode ino (reached_of_other ino reach)
  node_of_other _ _ _ (reached.named ino offset nid slot lower block is there small under named) =
      reached.named ino offset nid slot lower block (node_of_other ino offset nid is) (sym (alike.same.nodes nid) ∙ there) small under named
