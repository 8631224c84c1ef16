-- A base that was read: none of the conditions under which an image stands for no tree stands in it, and its rows are those of the tree.
use Rattle.std.specs.Prelude.{◌≡◌, ◌≢◌, ℕ, ◌<◌, ◌≤◌, true, IsTrue, List, Option, Some, None}
use Rattle.std.specs.Option.{option_map}
use Rattle.std.specs.FinMap as map
use Rattle.f2_format.specs.Dentry.{Dentry, dentry_fault}
use Rattle.f2_format.specs.Geometry.{node_third, data_third, nid_limit, is_in_data}
use Rattle.f2_format.specs.Inode.{inode_of}
use Rattle.f2_model.specs.Names.{is_good_name}
use Rattle.f2_model.specs.Tree.{Rows, ROOT, most_depth}
use Rattle.f2_model.specs.declared.rows.Row.{Row}
use Rattle.f2_model.specs.declared.rows.Kind.{Kind}
use Rattle.f2_model.specs.declared.rows.Kind.TheVariants.{Regular}
use Rattle.f2_image.specs.Images.{Image, block_at}
use Rattle.f2_image.specs.Packs.{Checkpoint}
use Rattle.f2_image.specs.Nodes.{node_address, place_of_nid}
use Rattle.f2_image.specs.Bases.{IsInode, IsReached, IsDirectoryBlock, HasDentryAt, HasDentry, IsBase}
use Rattle.f2_image.specs.Reached.{IsNode, IsBasePage, HasMore}
use Rattle.f2_image.specs.Faults.{IsBadEntry, IsForeign, IsBelow, IsPastSize, type_of_kind, IsSomeNode, IsBaseBlock}
use Rattle.f2_recover.specs.Reading.{IsNodeRead}
use Rattle.f2_recover.specs.Walking.{IsBaseRead}
use Rattle.f2_recover.specs.declared.rows.BaseRow.{BaseRow}
use Rattle.f2_recover.specs.declared.walk.Walk.{Walk}

-- an ino of the base has an inode that is one of ours
pub record HasInode (image : Image) (ckpt : Checkpoint) (ino : ℕ) : Type 0 where
  pub kind : Kind
  pub inode : List ℕ
  pub is : IsInode image ckpt ino kind inode
  pub own : ¬ (IsForeign inode)

-- the table, the nodes and the pages of a base are right
pub record HasRightNodes (image : Image) (ckpt : Checkpoint) : Type 0 where
  pub entries : (nid : ℕ) → ¬ (IsBadEntry ckpt nid)
  pub reached : (nid : ℕ) → nid < nid_limit ckpt.geom → (place_of_nid image ckpt nid).1 ≢ 0 → (ino offset : ℕ) × IsNode image ckpt ino offset nid
  pub nodes : (ino offset nid : ℕ) → IsNode image ckpt ino offset nid → (block : List ℕ) × IsNodeRead image ckpt ino offset nid (node_address image ckpt nid) block
  pub nodes_apart : (ino offset nid other more own : ℕ) → IsNode image ckpt ino offset nid → IsNode image ckpt other more own → node_address image ckpt nid ≡ node_address image ckpt own → (ino ≡ other) × (offset ≡ more)
  pub inodes : (ino : ℕ) → IsReached image ckpt ino → HasInode image ckpt ino
  pub pages : (ino page at : ℕ) → IsBasePage image ckpt ino page at → IsTrue (is_in_data ckpt.geom at)
  pub pages_apart : (ino page other more at : ℕ) → IsBasePage image ckpt ino page at → IsBasePage image ckpt other more at → (ino ≡ other) × (page ≡ more)
  pub few_nodes : ¬ (HasMore (ℕ × ℕ) (IsSomeNode image ckpt) (node_third ckpt.geom))
  pub few_blocks : ¬ (HasMore ℕ (IsBaseBlock image ckpt) (data_third ckpt.geom))

-- the names of a base make a good tree
pub record HasRightNames (image : Image) (ckpt : Checkpoint) : Type 0 where
  pub root : (inode : List ℕ) → ¬ (IsInode image ckpt ROOT Regular inode)
  pub whole : (directory page at : ℕ) → IsReached image ckpt directory → IsDirectoryBlock image ckpt directory page at → dentry_fault (block_at image at) ≡ None
  pub least : (directory : ℕ) (dentry : Dentry) → IsReached image ckpt directory → HasDentry image ckpt directory dentry → 4 ≤ dentry.ino
  pub good : (directory : ℕ) (dentry : Dentry) → IsReached image ckpt directory → HasDentry image ckpt directory dentry → is_good_name dentry.name ≡ true
  pub kinds : (directory : ℕ) (dentry : Dentry) (kind : Kind) (inode : List ℕ) → IsReached image ckpt directory → HasDentry image ckpt directory dentry → IsInode image ckpt dentry.ino kind inode → type_of_kind kind ≡ dentry.type
  pub once : (directory page slot other more place : ℕ) (a b : Dentry) → IsReached image ckpt directory → IsReached image ckpt other → HasDentryAt image ckpt directory page slot a → HasDentryAt image ckpt other more place b
      → a.ino ≡ b.ino → (directory ≡ other) × (page ≡ more) × (slot ≡ place)
  pub names : (directory page slot more place : ℕ) (a b : Dentry) → IsReached image ckpt directory → HasDentryAt image ckpt directory page slot a → HasDentryAt image ckpt directory more place b
      → a.name ≡ b.name → (page ≡ more) × (slot ≡ place)
  pub depth : (depth ino : ℕ) (kind : Kind) (inode : List ℕ) → IsBelow image ckpt depth ino → IsInode image ckpt ino kind inode → depth ≤ most_depth kind
  pub ends : (ino page at : ℕ) (inode : List ℕ) → IsReached image ckpt ino → IsInode image ckpt ino Regular inode → IsBasePage image ckpt ino page at → ¬ (IsPastSize image (inode_of inode).size page at)

abbrev pub BasesAreRight : Type 0
BasesAreRight = (image : Image) (ckpt : Checkpoint) (walk : Walk) → IsBaseRead image ckpt walk → HasRightNodes image ckpt × HasRightNames image ckpt

-- a row of the tree is a row that was read: a file's pages stand at the addresses that are known of it
pub record IsRowLike (image : Image) (row : Row) (base : BaseRow) : Type 0 where
  pub kind : row.kind ≡ base.file.kind
  pub parent : row.parent ≡ base.parent
  pub named : row.name ≡ base.name
  pub size : row.kind ≡ Regular → row.size ≡ base.file.size
  pub pages : row.kind ≡ Regular → (page : ℕ) → map.get row.pages page ≡ option_map (block_at image) (map.get base.file.nodes.pages.pages page)

-- both are there and alike, or neither is
abbrev pub AreAlike : Image → Option Row → Option BaseRow → Type 0
AreAlike image None None = Unit {0}
AreAlike image None (Some base) = ⊥
AreAlike image (Some row) None = ⊥
AreAlike image (Some row) (Some base) = IsRowLike image row base

abbrev pub RowsAreAlike : Type 0
RowsAreAlike = (image : Image) (ckpt : Checkpoint) (walk : Walk) (tree : Rows) → IsBaseRead image ckpt walk → IsBase image ckpt tree → (ino : ℕ) → AreAlike image (map.get tree ino) (map.get walk.rows ino)

-- a base that was read is there
abbrev pub BasesAreThere : Type 0
BasesAreThere = (image : Image) (ckpt : Checkpoint) (walk : Walk) → IsBaseRead image ckpt walk → (base : Rows) × IsBase image ckpt base
