-- Where the nodes and the data blocks of a tree stand.
use Rattle.std.specs.Prelude.{◌≡◌, ◌≢◌, ◌⊎◌, ℕ, ◌<◌, ◌≤◌, List, [], slice_index_or, Option, Some, None, IsSome}
use Rattle.std.specs.List.{slice_get}
use Rattle.std.specs.Option.{unwrap_or}
use Rattle.std.specs.FinMap as map
use Rattle.f2_format.specs.Offsets.{inode_pages, page_limit, direct_of, direct_slot}
use Rattle.f2_format.specs.Geometry.{ImageGeometry, node_third, data_third, nid_limit}
use Rattle.f2_format.specs.Footer.{footer_nid, footer_ino, footer_offset}
use Rattle.f2_format.specs.Inode.{inode_of, node_word}
use Rattle.f2_format.specs.Dentry.{Dentry, dentry_fault, dentries_of}
use Rattle.f2_model.specs.Tree.{Rows, ROOT}
use Rattle.f2_model.specs.State.{pair_cmp}
use Rattle.f2_model.specs.declared.rows.Row.{Row}
use Rattle.f2_model.specs.declared.rows.Kind.{Kind}
use Rattle.f2_model.specs.declared.rows.Kind.TheVariants.{Regular, Directory}
use Rattle.f2_image.specs.Bases.{inode_kind}
use Rattle.f2_image.specs.Reached.{offset_below, nids_of_node, nid_in}
use Rattle.f2_image.specs.Faults.{IsForeign, type_of_kind}

-- the nid and the address of a node
pub record NodeAt : Type 0 where
  pub nid : ℕ
  pub at : ℕ

-- where a tree stands
pub record Places : Type 0 where
  -- its nodes by ino and offset, also those above no page
  pub nodes : map.FinMap pair_cmp NodeAt
  -- the addresses of its pages by ino and page: a directory's dentry blocks are its pages
  pub pages : map.FinMap pair_cmp ℕ
  -- the dentries of its dentry blocks in the order of their slots, by ino and page
  pub dentries : map.FinMap pair_cmp (List Dentry)

-- the nid of a node, and 0 where the tree hasn't the node
abbrev pub nid_of : Option NodeAt → ℕ
nid_of None = 0
nid_of (Some node) = node.nid

abbrev pub nid_at : Places → ℕ → ℕ → ℕ
nid_at places ino offset = nid_of (map.get places.nodes (ino, offset))

-- the address of a page, and 0 where the tree hasn't the page
abbrev pub page_at : Places → ℕ → ℕ → ℕ
page_at places ino page = unwrap_or (map.get places.pages (ino, page)) 0

-- the dentries of a page of a directory
abbrev pub dentries_at : Places → ℕ → ℕ → List Dentry
dentries_at places ino page = unwrap_or (map.get places.dentries (ino, page)) []

-- a dentry stands in a page of a directory at a place of the page's list
pub record IsDentryAt (places : Places) (directory page place : ℕ) (dentry : Dentry) : Type 0 where
  pub page_there : IsSome (map.get places.pages (directory, page))
  pub is : slice_get (dentries_at places directory page) place ≡ Some dentry

-- a dentry binds a name of a directory to the row that has it
pub record IsBound (tree : Rows) (directory : ℕ) (dentry : Dentry) : Type 0 where
  pub row : Row
  pub there : map.get tree dentry.ino ≡ Some row
  pub below : dentry.ino ≢ ROOT
  pub parent : row.parent ≡ directory
  pub named : row.name ≡ dentry.name
  pub typed : dentry.type ≡ type_of_kind row.kind

-- the dentries of a directory's pages are the names of its rows, each once
pub record HasNames (tree : Rows) (places : Places) (directory : ℕ) : Type 0 where
  pub bound : (page place : ℕ) (dentry : Dentry) → IsDentryAt places directory page place dentry → IsBound tree directory dentry
  pub all : (ino : ℕ) (row : Row) → map.get tree ino ≡ Some row → ino ≢ ROOT → row.parent ≡ directory
      → (page place : ℕ) × ((dentry : Dentry) × IsDentryAt places directory page place dentry × (dentry.ino ≡ ino))
  pub once : (page place other more : ℕ) (a b : Dentry) → IsDentryAt places directory page place a → IsDentryAt places directory other more b → a.ino ≡ b.ino → (page ≡ other) × (place ≡ more)

-- a node below an inode is named by a node above it that is there
pub record IsNamedAbove (places : Places) (ino offset : ℕ) : Type 0 where
  pub upper : ℕ
  pub slot : ℕ
  pub small : slot < nids_of_node upper
  pub names : offset_below upper slot ≡ Some offset
  pub there : IsSome (map.get places.nodes (ino, upper))

-- a node of a row of the tree has a nid that it may have
pub record IsNodePlaced (geom : ImageGeometry) (tree : Rows) (places : Places) (ino offset : ℕ) (node : NodeAt) : Type 0 where
  pub row : IsSome (map.get tree ino)
  pub least : (4 ≤ node.nid) ⊎ ((ino ≡ ROOT) × (offset ≡ 0))
  pub most : node.nid < nid_limit geom
  pub inode : offset ≡ 0 → node.nid ≡ ino
  pub above : offset ≢ 0 → IsNamedAbove places ino offset

-- a page of a row of the tree is one that a file can have, and the direct node that tells its address is there
pub record IsPagePlaced (tree : Rows) (places : Places) (ino page : ℕ) : Type 0 where
  pub row : IsSome (map.get tree ino)
  pub within : page < page_limit
  pub direct : (offset : ℕ) → direct_of page ≡ Some offset → IsSome (map.get places.nodes (ino, offset))

-- a tree has places: nodes with nids of their own, pages, names in the pages of directories, and no more of them than an image grants;
-- where an address is known no other node or page has it
pub record HasPlaces (geom : ImageGeometry) (tree : Rows) (places : Places) : Type 0 where
  pub nodes : (ino offset : ℕ) (node : NodeAt) → map.get places.nodes (ino, offset) ≡ Some node → IsNodePlaced geom tree places ino offset node
  pub nids_apart : (one other : ℕ × ℕ) (a b : NodeAt) → map.get places.nodes one ≡ Some a → map.get places.nodes other ≡ Some b → a.nid ≡ b.nid → one ≡ other
  pub nodes_apart : (one other : ℕ × ℕ) (a b : NodeAt) → map.get places.nodes one ≡ Some a → map.get places.nodes other ≡ Some b → a.at ≢ 0 → a.at ≡ b.at → one ≡ other
  pub pages : (ino page at : ℕ) → map.get places.pages (ino, page) ≡ Some at → IsPagePlaced tree places ino page
  pub pages_apart : (one other : ℕ × ℕ) (at : ℕ) → map.get places.pages one ≡ Some at → map.get places.pages other ≡ Some at → at ≢ 0 → one ≡ other
  pub inodes : (ino : ℕ) (row : Row) → map.get tree ino ≡ Some row → IsSome (map.get places.nodes (ino, 0))
  pub names : (ino : ℕ) (row : Row) → map.get tree ino ≡ Some row → row.kind ≡ Directory → HasNames tree places ino
  pub few_nodes : map.len places.nodes ≤ node_third geom
  pub few_pages : map.len places.pages ≤ data_third geom

-- a block is that of a node: it has its footer, the nids of the nodes below it and the addresses of its pages
pub record IsNodeBlock (places : Places) (ino offset : ℕ) (node : NodeAt) (block : List ℕ) : Type 0 where
  pub footer_nid : footer_nid block ≡ node.nid
  pub footer_ino : footer_ino block ≡ ino
  pub footer_offset : footer_offset block ≡ offset
  pub lower : (slot low : ℕ) → slot < nids_of_node offset → offset_below offset slot ≡ Some low → nid_in block offset slot ≡ nid_at places ino low
  pub pages : (page : ℕ) → direct_of page ≡ Some offset → node_word block (direct_slot page) ≡ page_at places ino page

-- a block is the inode of a row: it tells the kind and a file's size, and the addresses of the first pages
pub record IsInodeOf (places : Places) (row : Row) (block : List ℕ) : Type 0 where
  pub kind : inode_kind block ≡ Some row.kind
  pub own : ¬ (IsForeign block)
  pub size : row.kind ≡ Regular → (inode_of block).size ≡ row.size
  pub addresses : (page : ℕ) → page < inode_pages → slice_index_or (inode_of block).addresses page 0 ≡ page_at places row.ino page

-- a block is that of a page of a row: a file's own bytes, or a directory's dentries
abbrev pub IsPageBlock : Places → Row → ℕ → List ℕ → Type 0
IsPageBlock places row page block = IsPageOf row.kind
  where
    IsPageOf : Kind → Type 0
    IsPageOf Regular = map.get row.pages page ≡ Some block
    IsPageOf Directory = (dentry_fault block ≡ None) × (dentries_of block ≡ dentries_at places row.ino page)

-- the pages that a file's row has are those that have places
abbrev pub HasItsPages : Places → Row → Type 0
HasItsPages places row = row.kind ≡ Regular → (page : ℕ) → IsSome (map.get row.pages page) → IsSome (map.get places.pages (row.ino, page))
