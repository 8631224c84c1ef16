-- Images with the same nodes and the same node log: what is read from these alone is the same.
use Rattle.std.proofs.Common.{◌≡◌, ℕ, ◌<◌, IsTrue, List, [], ◌∷◌, length, slice_index_or, refl, sym, ap, ◌∙◌, subst}
use Rattle.std.specs.Prelude.{Option, Some, None}
use Rattle.f2_format.specs.Offsets.{direct_of}
use Rattle.f2_format.specs.Geometry.{nid_limit}
use Rattle.f2_format.specs.Footer.{footer_ino}
use Rattle.f2_format.specs.Inode.{inode_of, node_word}
use Rattle.f2_format.specs.Dentry.{Dentry, dentry_at, begins_name}
use Rattle.f2_model.specs.declared.rows.Kind.{Kind}
use Rattle.f2_image.specs.Images.{Image, block_at}
use Rattle.f2_image.specs.Packs.{Checkpoint}
use Rattle.f2_image.specs.Nodes.{place_of_nid, node_address, node, node_along, node_below, direct_node, address_in, page_address}
use Rattle.f2_image.specs.Bases.{IsInode, IsDirectoryBlock, HasDentryAt}
use Rattle.f2_image.specs.Chains.{Logged, chain, block_in, or_below, base_direct, logged_direct, marked_address}
use Rattle.f2_image.specs.Reached.{IsMarkedAt, IsCounted, IsTaken}
use Rattle.f2_image.specs.Reached as reached

-- the same node address table, as far as it goes, the same nodes and the same node log
pub record HasSameNodes (image other : Image) (ckpt : Checkpoint) : Type 0 where
  pub places : (nid : ℕ) → nid < nid_limit ckpt.geom → place_of_nid other ckpt nid ≡ place_of_nid image ckpt nid
  pub addresses : (nid : ℕ) → node_address other ckpt nid ≡ node_address image ckpt nid
  pub nodes : (nid : ℕ) → node other ckpt nid ≡ node image ckpt nid
  pub log : chain other ckpt ≡ chain image ckpt

pub same_nodes_back : (image other : Image) (ckpt : Checkpoint) → HasSameNodes image other ckpt → HasSameNodes other image ckpt
same_nodes_back image other ckpt same = record {
  places = λ nid small. sym (same.places nid small);
  addresses = λ nid. sym (same.addresses nid);
  nodes = λ nid. sym (same.nodes nid);
  log = sym same.log;
}

-- from here on things move from the other image to the first
module _ (image other : Image) (ckpt : Checkpoint) (same : HasSameNodes image other ckpt) where
  -- the ways to pages
  same_along : (from : Option (List ℕ)) (slots : List ℕ) → node_along other ckpt from slots ≡ node_along image ckpt from slots
  same_along from [] = refl
  same_along None (slot ∷ slots) = refl
  same_along (Some block) (slot ∷ slots) = ap (λ x. node_along other ckpt x slots) (same.nodes (node_word block slot)) ∙ same_along (node image ckpt (node_word block slot)) slots

  same_below : (inode : List ℕ) (slots : List ℕ) → node_below other ckpt inode slots ≡ node_below image ckpt inode slots
  same_below inode [] = refl
  same_below inode (slot ∷ slots) =
      let nid = slice_index_or (inode_of inode).nids slot 0 in
      ap (λ x. node_along other ckpt x slots) (same.nodes nid) ∙ same_along (node image ckpt nid) slots

  same_direct : (inode : List ℕ) (page : ℕ) → direct_node other ckpt inode page ≡ direct_node image ckpt inode page
  unfolding direct_node
  same_direct inode page = same_below inode _

  pub same_page_address : (inode : List ℕ) (page : ℕ) → page_address other ckpt inode page ≡ page_address image ckpt inode page
  same_page_address inode page = ap (λ direct. address_in inode direct page) (same_direct inode page)

  same_base_direct : (inode : Option (List ℕ)) (page : ℕ) → base_direct other ckpt inode page ≡ base_direct image ckpt inode page
  same_base_direct None page = refl
  same_base_direct (Some inode) page = same_direct inode page

  pub same_marked_address : (log : List Logged) (place page : ℕ) → marked_address other ckpt log place page ≡ marked_address image ckpt log place page
  same_marked_address log place page =
      let ino = footer_ino (block_in log place) in
      ap (λ base. address_in (block_in log place) (or_below (logged_direct log place ino (direct_of page)) base) page)
      (ap (λ inode. base_direct other ckpt inode page) (same.nodes ino) ∙ same_base_direct (node image ckpt ino) page)

  -- inodes and blocks of directories
  pub inode_of_other : (ino : ℕ) (kind : Kind) (inode : List ℕ) → IsInode other ckpt ino kind inode → IsInode image ckpt ino kind inode
  inode_of_other ino kind inode is = record { there = sym (same.nodes ino) ∙ is.there; is_kind = is.is_kind }

  pub block_of_other : (directory page at : ℕ) → IsDirectoryBlock other ckpt directory page at → IsDirectoryBlock image ckpt directory page at
  block_of_other directory page at is = record {
    inode = is.inode;
    is = inode_of_other directory _ is.inode is.is;
    within = is.within;
    at_page = sym (same_page_address is.inode page) ∙ is.at_page;
    there = is.there;
  }

  pub dentry_with_block : (directory page slot : ℕ) (dentry : Dentry) (has : HasDentryAt other ckpt directory page slot dentry) → block_at other has.at ≡ block_at image has.at → HasDentryAt image ckpt directory page slot dentry
  dentry_with_block directory page slot dentry has block = record {
    at = has.at;
    block = block_of_other directory page has.at has.block;
    within = has.within;
    begins = subst (λ b. IsTrue (begins_name b slot)) block has.begins;
    is = ap (λ b. dentry_at b slot) (sym block) ∙ has.is;
  }

  -- blocks of the node log
  pub marked_of_other : (place : ℕ) (block : List ℕ) → IsMarkedAt other ckpt place block → IsMarkedAt image ckpt place block
  marked_of_other place block is = record {
    within = subst (λ log. place < length log) same.log is.within;
    stands = is.stands ∙ ap (λ log. block_in log place) same.log;
    marked = is.marked;
  }

  pub taken_of_other : (place : ℕ) (block : List ℕ) → IsTaken other ckpt place block → IsTaken image ckpt place block
  taken_of_other place block (reached.marked is) = reached.marked (marked_of_other place block is)
  taken_of_other place block (reached.direct is direct) = reached.direct (record {
    stands = is.stands ∙ ap (λ log. block_in log place) same.log;
    mark = is.mark;
    inode = is.inode;
    later = is.later;
    marked = marked_of_other is.mark is.inode is.marked;
    same = is.same;
  }) direct
