-- An image with a checkpoint whose node address table was read, and a node that was read of it.
use Rattle.std.specs.Prelude.{◌≡◌, ◌⊎◌, ℕ, ◌<◌, ◌≤◌, IsTrue, List, length, slice_index, Option, Some}
use Rattle.f2_disk.specs.Contents.{Contents}
use Rattle.f2_format.specs.Geometry.{ImageGeometry, nid_limit, is_in_node}
use Rattle.f2_format.specs.Footer.{footer_nid, footer_ino, footer_offset}
use Rattle.f2_model.specs.Tree.{ROOT}
use Rattle.f2_model.specs.declared.rows.Kind.{Kind}
use Rattle.f2_image.specs.Images.{Image}
use Rattle.f2_image.specs.Packs.{Checkpoint}
use Rattle.f2_image.specs.Nodes.{place_of_nid, node_address, node, page_address}
use Rattle.f2_image.specs.Bases.{IsInode, IsReached}
use Rattle.f2_image.specs.Faults.{HasTable}
use Rattle.f2_recover.specs.Told.{Tells}

-- a disk tells an image of these sizes, and the addresses of its nids with a checkpoint are these
pub record IsRead (held : Option Contents) (geom : ImageGeometry) (table : List ℕ) (image : Image) (ckpt : Checkpoint) : Type 0 where
  pub tells : Tells held image
  pub geom_is : ckpt.geom ≡ geom
  pub has : HasTable ckpt
  pub size : length table ≡ nid_limit geom
  pub told : (nid : ℕ) → nid < nid_limit geom → slice_index table nid ≡ (place_of_nid image ckpt nid).1

-- a node stands at an address of the node zone: the block there is its own, by the footer
pub record IsNodeRead (image : Image) (ckpt : Checkpoint) (ino offset nid at : ℕ) (block : List ℕ) : Type 0 where
  pub least : (4 ≤ nid) ⊎ ((ino ≡ ROOT) × (offset ≡ 0))
  pub address : node_address image ckpt nid ≡ at
  pub in_zone : IsTrue (is_in_node ckpt.geom at)
  pub there : node image ckpt nid ≡ Some block
  pub footer_nid_is : footer_nid block ≡ nid
  pub footer_ino_is : footer_ino block ≡ ino
  pub footer_offset_is : footer_offset block ≡ offset

-- a file of the base, with its inode
pub record IsFile (image : Image) (ckpt : Checkpoint) (ino : ℕ) (inode : List ℕ) : Type 0 where
  pub reached : IsReached image ckpt ino
  pub kind : Kind
  pub is : IsInode image ckpt ino kind inode

-- the address that stands for a page of a file of the base; 0 where the file hasn't the page
pub record IsPageOf (image : Image) (ckpt : Checkpoint) (ino page at : ℕ) : Type 0 where
  pub inode : List ℕ
  pub file : IsFile image ckpt ino inode
  pub address : page_address image ckpt inode page ≡ at
