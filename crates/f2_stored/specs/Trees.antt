-- A tree at its places: in an image, and on the disk of a running volume.
use Rattle.std.specs.Prelude.{◌≡◌, ◌≢◌, ℕ, ◌<◌, false, IsTrue, List, Some}
use Rattle.std.specs.FinMap as map
use Rattle.std.specs.FinSet as set
use Rattle.f2_format.specs.Geometry.{ImageGeometry, nid_limit, is_in_node, is_in_data}
use Rattle.f2_disk.specs.Contents.{Contents, last_of}
use Rattle.f2_model.specs.Tree.{Rows}
use Rattle.f2_model.specs.State.{Pairs}
use Rattle.f2_model.specs.declared.rows.Row.{Row}
use Rattle.f2_image.specs.Images.{Image, block_at}
use Rattle.f2_image.specs.Packs.{Checkpoint}
use Rattle.f2_image.specs.Nodes.{place_of_nid}
use Rattle.f2_image.specs.Faults.{HasTable, IsBadEntry}
use Rattle.f2_image_laws.specs.Chained.{contents_at}
use Rattle.f2_stored.specs.Places.{NodeAt, Places, HasPlaces, IsNodeBlock, IsInodeOf, IsPageBlock, HasItsPages}

-- a node stands at an address of the node zone: the block there is its own, and a row's where it is an inode
pub record IsNodeHere (geom : ImageGeometry) (tree : Rows) (places : Places) (ino offset : ℕ) (node : NodeAt) (block : List ℕ) : Type 0 where
  pub in_zone : IsTrue (is_in_node geom node.at)
  pub own : IsNodeBlock places ino offset node block
  pub inode : offset ≡ 0 → (row : Row) → map.get tree ino ≡ Some row → IsInodeOf places row block

-- a page stands at an address of the data zone: the block there is its own
pub record IsPageHere (geom : ImageGeometry) (tree : Rows) (places : Places) (ino page at : ℕ) (block : List ℕ) : Type 0 where
  pub in_zone : IsTrue (is_in_data geom at)
  pub own : (row : Row) → map.get tree ino ≡ Some row → IsPageBlock places row page block

-- the node address table of an image tells the addresses of a tree's nodes, and of no other node
pub record IsTableOf (image : Image) (ckpt : Checkpoint) (places : Places) : Type 0 where
  pub read : HasTable ckpt
  pub entries : (nid : ℕ) → ¬ (IsBadEntry ckpt nid)
  pub told : (ino offset : ℕ) (node : NodeAt) → map.get places.nodes (ino, offset) ≡ Some node → (place_of_nid image ckpt node.nid).1 ≡ node.at
  pub only : (nid : ℕ) → nid < nid_limit ckpt.geom → (place_of_nid image ckpt nid).1 ≢ 0 → (ino offset : ℕ) × ((node : NodeAt) × (map.get places.nodes (ino, offset) ≡ Some node) × (node.nid ≡ nid))

-- a tree stands at its places in an image with a checkpoint
pub record IsTreeAt (image : Image) (ckpt : Checkpoint) (tree : Rows) (places : Places) : Type 0 where
  pub laid : HasPlaces ckpt.geom tree places
  pub table : IsTableOf image ckpt places
  pub nodes : (ino offset : ℕ) (node : NodeAt) → map.get places.nodes (ino, offset) ≡ Some node → IsNodeHere ckpt.geom tree places ino offset node (block_at image node.at)
  pub pages : (ino page at : ℕ) → map.get places.pages (ino, page) ≡ Some at → IsPageHere ckpt.geom tree places ino page at (block_at image at)
  pub rows : (ino : ℕ) (row : Row) → map.get tree ino ≡ Some row → HasItsPages places row

-- what a checkpoint has still to write of a tree: nodes by ino and offset, and pages by ino and page
pub record Unwritten : Type 0 where
  pub nodes : Pairs
  pub pages : Pairs

-- the live tree of a running volume on its disk: each node and each page that isn't to be written stands at its place, by what reads give
pub record IsLiveAt (lists : Contents) (geom : ImageGeometry) (tree : Rows) (places : Places) (unwritten : Unwritten) : Type 0 where
  pub laid : HasPlaces geom tree places
  pub nodes : (ino offset : ℕ) (node : NodeAt) → map.get places.nodes (ino, offset) ≡ Some node → set.contains unwritten.nodes (ino, offset) ≡ false
      → IsNodeHere geom tree places ino offset node (last_of (contents_at lists node.at))
  pub pages : (ino page at : ℕ) → map.get places.pages (ino, page) ≡ Some at → set.contains unwritten.pages (ino, page) ≡ false
      → IsPageHere geom tree places ino page at (last_of (contents_at lists at))
  pub rows : (ino : ℕ) (row : Row) → map.get tree ino ≡ Some row → HasItsPages places row
