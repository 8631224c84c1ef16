-- The base of an image: the rows that are reached from the root along the names of directories.
use Rattle.std.specs.Prelude.{◌≡◌, ◌≢◌, ℕ, ◌<◌, ◌==◌, if◌then◌else◌, IsTrue, List, [], Contains, Option, Some, None}
use Rattle.std.specs.FinMap as map
use Rattle.f2_format.specs.Offsets.{page_limit}
use Rattle.f2_format.specs.Inode.{inode_of, mode_kind, REGULAR_KIND, DIRECTORY_KIND}
use Rattle.f2_format.specs.Packing.{SLOTS_A_BLOCK}
use Rattle.f2_format.specs.Dentry.{Dentry, dentry_at, begins_name}
use Rattle.f2_model.specs.Content.{PageMap}
use Rattle.f2_model.specs.Tree.{Rows, ROOT, names_of}
use Rattle.f2_model.specs.declared.rows.Row.{Row}
use Rattle.f2_model.specs.declared.rows.Kind.{Kind}
use Rattle.f2_model.specs.declared.rows.Kind.TheVariants.{Regular, Directory}
use Rattle.f2_image.specs.Images.{Image, block_at}
use Rattle.f2_image.specs.Packs.{Checkpoint}
use Rattle.f2_image.specs.Nodes.{node, block_there, page_address}

-- the kind that a mode tells
abbrev pub kind_of_mode : ℕ → Option Kind
kind_of_mode mode = if mode_kind mode == REGULAR_KIND then Some Regular else (if mode_kind mode == DIRECTORY_KIND then Some Directory else None)

-- the kind of the file whose inode this is
abbrev pub inode_kind : List ℕ → Option Kind
inode_kind inode = kind_of_mode (inode_of inode).mode

-- an ino has this inode, which is of this kind
pub record IsInode (image : Image) (ckpt : Checkpoint) (ino : ℕ) (kind : Kind) (inode : List ℕ) : Type 0 where
  pub there : node image ckpt ino ≡ Some inode
  pub is_kind : inode_kind inode ≡ Some kind

-- a block of a directory: its page and its address
pub record IsDirectoryBlock (image : Image) (ckpt : Checkpoint) (directory page at : ℕ) : Type 0 where
  pub inode : List ℕ
  pub is : IsInode image ckpt directory Directory inode
  pub within : page < page_limit
  pub at_page : page_address image ckpt inode page ≡ at
  pub there : at ≢ 0

-- a name begins in this slot of this block of a directory: a dentry of it
pub record HasDentryAt (image : Image) (ckpt : Checkpoint) (directory page slot : ℕ) (dentry : Dentry) : Type 0 where
  pub at : ℕ
  pub block : IsDirectoryBlock image ckpt directory page at
  pub within : slot < SLOTS_A_BLOCK
  pub begins : IsTrue (begins_name (block_at image at) slot)
  pub is : dentry_at (block_at image at) slot ≡ dentry

-- a directory has a dentry
abbrev pub HasDentry : Image → Checkpoint → ℕ → Dentry → Type 0
HasDentry image ckpt directory dentry = (page slot : ℕ) × HasDentryAt image ckpt directory page slot dentry

-- the inos of the base: the root, and each that a dentry of such a directory names
pub data IsReached (image : Image) (ckpt : Checkpoint) : ℕ → Type 0 where
  root : IsReached image ckpt ROOT
  below : (directory : ℕ) (dentry : Dentry) → IsReached image ckpt directory → HasDentry image ckpt directory dentry → IsReached image ckpt dentry.ino

-- the pages of a file are the blocks that are there
abbrev pub ArePages : Image → Checkpoint → List ℕ → PageMap → Type 0
ArePages image ckpt inode pages = (page : ℕ) → page < page_limit → map.get pages page ≡ block_there image (page_address image ckpt inode page)

-- a file's size and pages; a directory has neither
abbrev pub HasContent : Image → Checkpoint → List ℕ → Kind → Row → Type 0
HasContent image ckpt inode Regular row = (row.size ≡ (inode_of inode).size) × ArePages image ckpt inode row.pages × ((page : ℕ) (bytes : List ℕ) → map.get row.pages page ≡ Some bytes → page < page_limit)
HasContent image ckpt inode Directory row = (row.size ≡ 0) × (row.pages ≡ map.empty)

-- a row of the base, but for its names
pub record IsBaseRow (image : Image) (ckpt : Checkpoint) (ino : ℕ) (row : Row) : Type 0 where
  pub own : row.ino ≡ ino
  pub reached : IsReached image ckpt ino
  pub inode : List ℕ
  pub is : IsInode image ckpt ino row.kind inode
  pub content : HasContent image ckpt inode row.kind row

-- a row that stands in a directory under a name: that is one of its names
pub record StandsAs (tree : Rows) (ino directory : ℕ) (name : List ℕ) : Type 0 where
  pub row : Row
  pub there : map.get tree ino ≡ Some row
  pub named : Contains (names_of row) (directory, name)

-- a dentry of a directory of the base that gives an ino this name
pub record IsNameOf (image : Image) (ckpt : Checkpoint) (ino directory : ℕ) (name : List ℕ) : Type 0 where
  pub reached : IsReached image ckpt directory
  pub dentry : Dentry
  pub has : HasDentry image ckpt directory dentry
  pub own : dentry.ino ≡ ino
  pub named : dentry.name ≡ name

-- the root's row: no name is its own, and so what it carries as parent and name is told apart
pub record HasRoot (tree : Rows) : Type 0 where
  pub row : Row
  pub there : map.get tree ROOT ≡ Some row
  pub unnamed : names_of row ≡ []
  pub parent : row.parent ≡ ROOT
  pub named : row.name ≡ []

-- the base of an image; its rows' names are the dentries of its directories, no more and no fewer. So a tree with a row under a name
-- that no dentry has is no base: `named` refuses it, also where the row's ino is reached by another name
pub record IsBase (image : Image) (ckpt : Checkpoint) (tree : Rows) : Type 0 where
  pub rows : (ino : ℕ) (row : Row) → map.get tree ino ≡ Some row → IsBaseRow image ckpt ino row
  pub root : HasRoot tree
  pub names : (directory : ℕ) (dentry : Dentry) → IsReached image ckpt directory → HasDentry image ckpt directory dentry → StandsAs tree dentry.ino directory dentry.name
  pub named : (ino : ℕ) (row : Row) → map.get tree ino ≡ Some row → (directory : ℕ) (name : List ℕ) → Contains (names_of row) (directory, name) → IsNameOf image ckpt ino directory name
