-- An image in which each node is an inode, the node log and the journal are empty, and the same copy of every block of
-- the node address table counts.
use Rattle.std.specs.Prelude.{◌≡◌, ◌≢◌, ℕ, ◌^◌, ◌<◌, ◌≤◌, ◌==◌, true, not, List, length, IsTrue, All, slice_index_or, Option, Some, None}
use Rattle.std.specs.List.{count_by, slice_get, sum_by}
use Rattle.std.specs.Ordering.{nat_cmp}
use Rattle.std.specs.FinMap as map
use Rattle.f2_format.specs.Offsets.{inode_pages}
use Rattle.f2_format.specs.Geometry.{ImageGeometry, node_third, data_third, nid_limit, is_in_node, is_in_data}
use Rattle.f2_format.specs.Nat.{is_second_copy}
use Rattle.f2_format.specs.Footer.{footer_nid, footer_ino, footer_offset, footer_version}
use Rattle.f2_format.specs.Inode.{inode_of, NAME_BYTES, NIDS_AN_INODE, SIZE_LIMIT}
use Rattle.f2_format.specs.Journal.{journal_count}
use Rattle.f2_format.specs.Pack.{head_of, is_newer_format}
use Rattle.f2_format.specs.Dentry.{Dentry}
use Rattle.f2_model.specs.Rising.{rising}
use Rattle.f2_model.specs.Tree.{Rows, ROOT, IsGoodTree, names_in}
pub use Rattle.f2_model.specs.Tree.{root_row, root_alone}
use Rattle.f2_model.specs.Count.{nodes_of_tree, data_of_tree, dentry_blocks}
use Rattle.f2_model.specs.declared.rows.Row.{Row}
use Rattle.f2_model.specs.declared.rows.Kind.TheVariants.{Regular, Directory}
use Rattle.f2_dentry_block.specs.Packed.{names_of, packed_blocks}
use Rattle.f2_image.specs.Images.{Image, block_at}
use Rattle.f2_image.specs.Packs.{Side, A, B}
use Rattle.f2_image.specs.Packs.{Checkpoint, IsCheckpoint, tail_address}
use Rattle.f2_image.specs.Nodes.{place_of_nid, block_there}
use Rattle.f2_image.specs.Bases.{inode_kind}
use Rattle.f2_image.specs.Faults.{type_of_kind}
use Rattle.f2_pack.specs.declared.packs.Side as pack
use Rattle.f2_pack.specs.declared.packs.Side.TheVariants as pack_side
use Rattle.f2_laid.specs.declared.places.Place.{Place}
use Rattle.f2_laid.specs.declared.stored.Stored.{Stored}

-- where files stand, by their inos
abbrev pub PlaceMap : Type 0
PlaceMap = map.FinMap nat_cmp Place

-- the address of a file's inode, and 0 where there is no such file
abbrev pub at_of : Option Place → ℕ
at_of None = 0
at_of (Some place) = place.at

-- the address of a page of a file
abbrev pub page_at : Place → ℕ → ℕ
page_at place page = slice_index_or place.addresses page 0

-- the pages of a file that are there
abbrev pub pages_of_place : Place → ℕ
pages_of_place place = count_by (λ at. not (at == 0)) place.addresses

-- a side of an image as the codec of packs names it
abbrev pub side_of : pack.Side → Side
side_of pack_side.A = A
side_of pack_side.B = B

-- A tree that can be stored so: it is good, its numbers are in the node address table, it has at most a third of each
-- zone, and an inode has room for the addresses of each file's pages.
pub record IsStorable (geom : ImageGeometry) (tree : Rows) : Type 0 where
  pub good : IsGoodTree SIZE_LIMIT tree
  pub low : (ino : ℕ) (row : Row) → map.get tree ino ≡ Some row → ino ≢ ROOT → 4 ≤ ino
  pub numbered : (ino : ℕ) (row : Row) → map.get tree ino ≡ Some row → ino < nid_limit geom
  pub nodes : nodes_of_tree tree ≤ node_third geom
  pub blocks : data_of_tree tree ≤ data_third geom
  pub short_files : (ino page : ℕ) (row : Row) (bytes : List ℕ) → map.get tree ino ≡ Some row → map.get row.pages page ≡ Some bytes → page < inode_pages
  pub short_directories : (ino : ℕ) (row : Row) → map.get tree ino ≡ Some row → row.kind ≡ Directory → dentry_blocks (map.values tree) ino ≤ inode_pages

-- addresses in their zones, no two alike
pub record IsPlaced (geom : ImageGeometry) (places : PlaceMap) : Type 0 where
  pub whole : (ino : ℕ) (place : Place) → map.get places ino ≡ Some place → length place.addresses ≡ inode_pages
  pub nodes : (ino : ℕ) (place : Place) → map.get places ino ≡ Some place → IsTrue (is_in_node geom place.at)
  pub nodes_apart : (ino other : ℕ) (a b : Place) → map.get places ino ≡ Some a → map.get places other ≡ Some b → a.at ≡ b.at → ino ≡ other
  pub pages : (ino page : ℕ) (place : Place) → map.get places ino ≡ Some place → page_at place page ≢ 0 → IsTrue (is_in_data geom (page_at place page))
  pub pages_apart : (ino page other more : ℕ) (a b : Place) → map.get places ino ≡ Some a → map.get places other ≡ Some b → page_at a page ≢ 0 → page_at a page ≡ page_at b more
      → (ino ≡ other) × (page ≡ more)

-- places that a third of each zone has room for
pub record IsKept (geom : ImageGeometry) (places : PlaceMap) : Type 0 where
  pub placed : IsPlaced geom places
  pub files : map.len places ≤ node_third geom
  pub pages : sum_by pages_of_place (map.values places) ≤ data_third geom

-- a block is the inode of a row at a place, as a checkpoint writes it
pub record IsInodeOf (row : Row) (place : Place) (block : List ℕ) : Type 0 where
  pub kind : inode_kind block ≡ Some row.kind
  pub size : (inode_of block).size ≤ SIZE_LIMIT
  pub own_size : row.kind ≡ Regular → (inode_of block).size ≡ row.size
  pub name_length : (inode_of block).name_length ≤ NAME_BYTES
  pub addresses : (inode_of block).addresses ≡ place.addresses
  pub no_nids : (slot : ℕ) → slot < NIDS_AN_INODE → slice_index_or (inode_of block).nids slot 0 ≡ 0
  pub nid : footer_nid block ≡ row.ino
  pub ino : footer_ino block ≡ row.ino
  pub offset : footer_offset block ≡ 0

-- a dentry binds a name of a directory to the row that has it
pub record IsBound (tree : Rows) (directory : ℕ) (dentry : Dentry) : Type 0 where
  pub row : Row
  pub there : map.get tree dentry.ino ≡ Some row
  pub below : dentry.ino ≢ ROOT
  pub parent : row.parent ≡ directory
  pub named : row.name ≡ dentry.name
  pub typed : dentry.type ≡ type_of_kind row.kind

-- the dentries of a directory of a tree, in the order of their names' bytes
pub record AreDentries (tree : Rows) (directory : ℕ) (dentries : List Dentry) : Type 0 where
  pub names : names_of dentries ≡ rising (names_in (map.values tree) directory)
  pub bound : All (IsBound tree directory) dentries

-- what the pages of a row hold: a file's own bytes, or the dentry blocks of a directory
pub data HoldsContent (tree : Rows) (row : Row) (contents : ℕ → Option (List ℕ)) : Type 0 where
  file : row.kind ≡ Regular → ((page : ℕ) → page < inode_pages → contents page ≡ map.get row.pages page) → HoldsContent tree row contents
  directory : (dentries : List Dentry) → row.kind ≡ Directory → AreDentries tree row.ino dentries
      → ((page : ℕ) → page < inode_pages → contents page ≡ slice_get (packed_blocks dentries) page) → HoldsContent tree row contents

-- what an image has at the address of a page
abbrev pub page_in : Image → Place → ℕ → Option (List ℕ)
page_in image place page = block_there image (page_at place page)

-- a row of a tree stands in an image
pub record StandsIn (image : Image) (tree : Rows) (row : Row) (places : PlaceMap) : Type 0 where
  pub place : Place
  pub there : map.get places row.ino ≡ Some place
  pub inode : IsInodeOf row place (block_at image place.at)
  pub content : HoldsContent tree row (page_in image place)

-- an image with a checkpoint has a tree laid out plainly, as a checkpoint of this project tells of it
pub record IsLaidAt (image : Image) (ckpt : Checkpoint) (tree : Rows) (stored : Stored) : Type 0 where
  pub checkpoint : IsCheckpoint image ckpt
  pub geom : ckpt.geom ≡ stored.geometry
  pub side : ckpt.side ≡ side_of stored.side
  pub version : ckpt.head.version ≡ stored.version
  pub low : ckpt.head.version < 2 ^ 32
  pub newer : is_newer_format ckpt.head ≡ true
  pub copies : (block : ℕ) → block < stored.geometry.nat → is_second_copy ckpt.head.bitmap block ≡ stored.second
  pub journal : journal_count ckpt.summary ≡ 0
  pub table : (nid : ℕ) → nid < nid_limit ckpt.geom → (place_of_nid image ckpt nid).1 ≡ at_of (map.get stored.places nid)
  pub rows : (ino : ℕ) (row : Row) → map.get tree ino ≡ Some row → StandsIn image tree row stored.places
  pub only : (ino : ℕ) (place : Place) → map.get stored.places ino ≡ Some place → (row : Row) × map.get tree ino ≡ Some row
  pub placed : IsPlaced ckpt.geom stored.places
  -- no block of the node zone is of the node log, and no tail is of a later version
  pub unlogged : (at : ℕ) → IsTrue (is_in_node ckpt.geom at) → footer_version (block_at image at) ≡ 0
  pub tails : (each : Side) → (head_of (block_at image (tail_address each))).version ≤ ckpt.head.version

abbrev pub IsLaid : Image → Rows → Stored → Type 0
IsLaid image tree stored = (ckpt : Checkpoint) × IsLaidAt image ckpt tree stored
