-- Images that read alike as far as a base goes, whatever their node logs are.
use Rattle.std.specs.Prelude.{◌≡◌, ℕ, ◌<◌, List}
use Rattle.f2_format.specs.Geometry.{nid_limit}
use Rattle.f2_format.specs.Dentry.{Dentry}
use Rattle.f2_model.specs.declared.rows.Kind.{Kind}
use Rattle.f2_image.specs.Images.{Image, block_at}
use Rattle.f2_image.specs.Packs.{Checkpoint}
use Rattle.f2_image.specs.Nodes.{place_of_nid, node_address, node, page_address}
use Rattle.f2_image.specs.Bases.{IsInode, IsDirectoryBlock, HasDentryAt, HasDentry, IsReached}
use Rattle.f2_image.specs.Chains.{Logged, marked_address}
use Rattle.f2_image.specs.Reached.{IsNode, IsBasePage}
use Rattle.f2_image.specs.Faults.{IsSound}
use Rattle.f2_image_laws.specs.Depending.{DependsOn}

-- what is read of the base of one image is read so in another one
pub record ReadsSo (image other : Image) (ckpt : Checkpoint) : Type 0 where
  pub reached : (ino : ℕ) → IsReached image ckpt ino → IsReached other ckpt ino
  pub node : (ino offset nid : ℕ) → IsNode image ckpt ino offset nid → IsNode other ckpt ino offset nid
  pub inode : (ino : ℕ) (kind : Kind) (inode : List ℕ) → IsInode image ckpt ino kind inode → IsInode other ckpt ino kind inode
  pub directory_block : (directory page at : ℕ) → IsDirectoryBlock image ckpt directory page at → IsDirectoryBlock other ckpt directory page at
  pub dentry_at : (directory page slot : ℕ) (dentry : Dentry) → IsReached image ckpt directory → HasDentryAt image ckpt directory page slot dentry → HasDentryAt other ckpt directory page slot dentry
  pub dentry : (directory : ℕ) (dentry : Dentry) → IsReached image ckpt directory → HasDentry image ckpt directory dentry → HasDentry other ckpt directory dentry
  pub page : (ino page at : ℕ) → IsBasePage image ckpt ino page at → IsBasePage other ckpt ino page at

-- both ways, by the same node address table, as far as it goes, with the same nodes, ways to pages and blocks at them
pub record ReadAlike (image other : Image) (ckpt : Checkpoint) : Type 0 where
  pub places : (nid : ℕ) → nid < nid_limit ckpt.geom → place_of_nid other ckpt nid ≡ place_of_nid image ckpt nid
  pub addresses : (nid : ℕ) → node_address other ckpt nid ≡ node_address image ckpt nid
  pub nodes : (nid : ℕ) → node other ckpt nid ≡ node image ckpt nid
  pub page_addresses : (inode : List ℕ) (page : ℕ) → page_address other ckpt inode page ≡ page_address image ckpt inode page
  pub marked_addresses : (log : List Logged) (place page : ℕ) → marked_address other ckpt log place page ≡ marked_address image ckpt log place page
  pub pages : (ino page at : ℕ) → IsBasePage image ckpt ino page at → block_at other at ≡ block_at image at
  pub there : ReadsSo image other ckpt
  pub back : ReadsSo other image ckpt

-- images that agree on what a sound one depends on read alike
abbrev pub ImagesReadAlike : Type 0
ImagesReadAlike = (image other : Image) (ckpt : Checkpoint) → IsSound image ckpt → ((at : ℕ) → DependsOn image ckpt at → block_at other at ≡ block_at image at) → ReadAlike image other ckpt
