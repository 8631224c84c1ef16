-- Why an image stands for no tree: each condition by its name, with the number that is told of it. This project's own.
use Rattle.std.specs.Prelude.{◌≡◌, ◌≢◌, ◌⊎◌, ℕ, ◌+◌, ◌*◌, ◌<◌, ◌≤◌, ◌==◌, false, List, length, take, slice_index, slice_index_or, Some, None}
use Rattle.std.specs.List.{count_by}
use Rattle.f2_format.specs.Bytes.{BLOCK_BYTES}
use Rattle.f2_format.specs.Offsets.{page_limit}
use Rattle.f2_format.specs.Geometry.{ImageGeometry, node_third, data_third, nid_limit, is_in_node, is_in_data}
use Rattle.f2_format.specs.Footer.{footer_nid, footer_ino, footer_offset, footer_next, has_dentry_mark}
use Rattle.f2_format.specs.Inode.{inode_of, SIZE_LIMIT, NAME_BYTES}
use Rattle.f2_format.specs.Journal.{journal_count, MOST_JOURNAL_ENTRIES}
use Rattle.f2_format.specs.Dentry.{Dentry, dentry_fault, REGULAR_TYPE, DIRECTORY_TYPE}
use Rattle.f2_model.specs.Names.{is_good_name}
use Rattle.f2_model.specs.Tree.{Rows, ROOT, most_depth}
use Rattle.f2_model.specs.Count.{nodes_of_tree, data_of_tree}
use Rattle.f2_model.specs.State.{Mark, rolled}
use Rattle.f2_model.specs.declared.rows.Kind.{Kind}
use Rattle.f2_model.specs.declared.rows.Kind.TheVariants.{Regular, Directory}
use Rattle.f2_image.specs.Images.{Image, block_at, IsSized, IsRightCopy}
use Rattle.f2_image.specs.Packs.{A, B, IsValid, Checkpoint, IsCheckpoint, journal}
use Rattle.f2_image.specs.Nodes.{node, node_address, place_of_nid}
use Rattle.f2_image.specs.Bases.{IsInode, IsReached, IsDirectoryBlock, HasDentryAt, HasDentry, IsBase, inode_kind}
use Rattle.f2_image.specs.Chains.{chain, no_block, marked_address, AreMarks}
use Rattle.f2_image.specs.Reached.{IsNode, IsMarkedAt, IsTaken, IsBasePage, IsPage, HasMore}

-- the greatest version with which an image is taken
abbrev pub MOST_VERSION : ℕ
MOST_VERSION = 4000000000

-- neither copy of the superblock is right
abbrev pub IsBadSuper : Image → ℕ → Type 0
IsBadSuper image at = (at ≡ 0) × ¬ (IsRightCopy image 0) × ¬ (IsRightCopy image 1)

-- neither pack counts
pub record HasNoCheckpoint (image : Image) (at : ℕ) : Type 0 where
  pub none : at ≡ 0
  pub geom : ImageGeometry
  pub sized : IsSized image geom
  pub first : ¬ (IsValid geom image A)
  pub second : ¬ (IsValid geom image B)

-- the version is the last one that this project writes, or past it; such an image may stand for a tree
abbrev pub IsVersionEnd : Checkpoint → ℕ → Type 0
IsVersionEnd ckpt at = (MOST_VERSION < ckpt.head.version) × (at ≡ ckpt.head.version)

-- the journal says that it has more entries than it can
abbrev pub IsBadJournal : Checkpoint → ℕ → Type 0
IsBadJournal ckpt at = (MOST_JOURNAL_ENTRIES < journal_count ckpt.summary) × (at ≡ journal_count ckpt.summary)

-- the node address table can be read: its journal has no more entries than it can; no condition that needs the table stands where it
-- can't
abbrev pub HasTable : Checkpoint → Type 0
HasTable ckpt = journal_count ckpt.summary ≤ MOST_JOURNAL_ENTRIES

-- nids of the journal: twice there, or past the table
pub data IsBadEntry (ckpt : Checkpoint) (nid : ℕ) : Type 0 where
  twice : 2 ≤ count_by (λ entry. entry.0 == nid) (journal ckpt) → IsBadEntry ckpt nid
  past : 1 ≤ count_by (λ entry. entry.0 == nid) (journal ckpt) → nid_limit ckpt.geom ≤ nid → IsBadEntry ckpt nid

-- a nid that no file can have
abbrev pub IsNoNid : Checkpoint → ℕ → Type 0
IsNoNid ckpt nid = (nid < 4) ⊎ (nid_limit ckpt.geom ≤ nid)

-- a node of the base, or a block of the node log that recovery takes, has this nid
pub data HasNid (image : Image) (ckpt : Checkpoint) (ino offset nid : ℕ) : Type 0 where
  in_base : IsNode image ckpt ino offset nid → HasNid image ckpt ino offset nid
  in_log : (place : ℕ) (block : List ℕ) → IsTaken image ckpt place block → footer_ino block ≡ ino → footer_offset block ≡ offset → footer_nid block ≡ nid → HasNid image ckpt ino offset nid

-- the footer of a node tells another node
abbrev pub IsMisplaced : List ℕ → ℕ → ℕ → ℕ → Type 0
IsMisplaced block ino offset nid = (footer_nid block ≢ nid) ⊎ (footer_ino block ≢ ino) ⊎ (footer_offset block ≢ offset)

-- what the node address table, the nodes and the node log say of a nid doesn't go together
pub data IsBadNat (image : Image) (ckpt : Checkpoint) (nid : ℕ) : Type 0 where
  entry : IsBadEntry ckpt nid → IsBadNat image ckpt nid
  unreached : nid < nid_limit ckpt.geom → (place_of_nid image ckpt nid).1 ≢ 0 → ((ino offset : ℕ) → ¬ (IsNode image ckpt ino offset nid)) → IsBadNat image ckpt nid
  too_low : (ino offset : ℕ) → IsNode image ckpt ino offset nid → nid < 4 → (ino ≢ ROOT) ⊎ (offset ≢ 0) → IsBadNat image ckpt nid
  nowhere : (ino offset : ℕ) → IsNode image ckpt ino offset nid → is_in_node ckpt.geom (node_address image ckpt nid) ≡ false → IsBadNat image ckpt nid
  misplaced : (ino offset : ℕ) (block : List ℕ) → IsNode image ckpt ino offset nid → node image ckpt nid ≡ Some block → IsMisplaced block ino offset nid → IsBadNat image ckpt nid
  no_nid : (place : ℕ) (block : List ℕ) → IsTaken image ckpt place block → footer_nid block ≡ nid → IsNoNid ckpt nid → IsBadNat image ckpt nid
  taken : (place : ℕ) (block : List ℕ) (ino offset : ℕ) → IsTaken image ckpt place block → footer_nid block ≡ nid → HasNid image ckpt ino offset nid
      → (footer_ino block ≢ ino) ⊎ (footer_offset block ≢ offset) → IsBadNat image ckpt nid
  no_ino : (place : ℕ) (block : List ℕ) → IsTaken image ckpt place block → footer_nid block ≡ nid → footer_offset block ≡ 0 → nid ≢ footer_ino block → IsBadNat image ckpt nid
  other : (place : ℕ) (block : List ℕ) (own : ℕ) → IsTaken image ckpt place block → footer_nid block ≡ nid → IsNode image ckpt (footer_ino block) (footer_offset block) own → own ≢ nid → IsBadNat image ckpt nid

-- an inode that is none of ours: its mode, the length of its name, or its size
abbrev pub IsForeign : List ℕ → Type 0
IsForeign block = (inode_kind block ≡ None) ⊎ (NAME_BYTES < (inode_of block).name_length) ⊎ (SIZE_LIMIT < (inode_of block).size)

pub data IsBadInode (image : Image) (ckpt : Checkpoint) (at : ℕ) : Type 0 where
  in_base : HasTable ckpt → (ino : ℕ) (block : List ℕ) → IsReached image ckpt ino → node image ckpt ino ≡ Some block → node_address image ckpt ino ≡ at → IsForeign block → IsBadInode image ckpt at
  in_log : (place : ℕ) (block : List ℕ) → IsMarkedAt image ckpt place block → (slice_index_or (chain image ckpt) place no_block).at ≡ at → IsForeign block → IsBadInode image ckpt at

-- a block of a directory has a wrong name in it
pub record HasDentryFault (image : Image) (ckpt : Checkpoint) (at : ℕ) : Type 0 where
  pub directory : ℕ
  pub page : ℕ
  pub slot : ℕ
  pub reached : IsReached image ckpt directory
  pub block : IsDirectoryBlock image ckpt directory page at
  pub fault : dentry_fault (block_at image at) ≡ Some slot

-- the chain goes on after a third of the node zone
abbrev pub IsChainLong : Image → Checkpoint → ℕ → Type 0
IsChainLong image ckpt at =
    (node_third ckpt.geom < length (chain image ckpt)) × (at ≡ (slice_index_or (chain image ckpt) (node_third ckpt.geom) no_block).at)

-- an address outside its zone: of a page, or of the next block of the node log
pub data IsOutOfZone (image : Image) (ckpt : Checkpoint) (at : ℕ) : Type 0 where
  page : HasTable ckpt → (ino page : ℕ) → IsPage image ckpt ino page at → is_in_data ckpt.geom at ≡ false → IsOutOfZone image ckpt at
  next : (place : ℕ) → place < length (chain image ckpt) → footer_next (slice_index_or (chain image ckpt) place no_block).block ≡ at → at ≢ 0 → is_in_node ckpt.geom at ≡ false → IsOutOfZone image ckpt at

-- an address that two have: two pages, two nodes of the base, a node of the base and a block of the node log
pub data IsShared (image : Image) (ckpt : Checkpoint) (at : ℕ) : Type 0 where
  pages : (ino page other more : ℕ) → IsPage image ckpt ino page at → IsPage image ckpt other more at → (ino ≢ other) ⊎ (page ≢ more) → IsShared image ckpt at
  nodes : (ino offset nid other more own : ℕ) → IsNode image ckpt ino offset nid → IsNode image ckpt other more own → (ino ≢ other) ⊎ (offset ≢ more)
      → at ≢ 0 → node_address image ckpt nid ≡ at → node_address image ckpt own ≡ at → IsShared image ckpt at
  logged : (ino offset nid place : ℕ) → IsNode image ckpt ino offset nid → node_address image ckpt nid ≡ at → place < length (chain image ckpt)
      → (slice_index_or (chain image ckpt) place no_block).at ≡ at → IsShared image ckpt at

-- the name that a marked block brings: its ino isn't in the base
pub record BringsName (image : Image) (ckpt : Checkpoint) (place ino parent : ℕ) (name : List ℕ) : Type 0 where
  pub block : List ℕ
  pub marked : IsMarkedAt image ckpt place block
  pub own : footer_ino block ≡ ino
  pub fresh : ¬ (IsReached image ckpt ino)
  pub under : (inode_of block).parent ≡ parent
  pub named : take (inode_of block).name_length (inode_of block).name ≡ name

-- a name that is bound already: in the base, or by an earlier mark
pub data IsConflict (image : Image) (ckpt : Checkpoint) (ino : ℕ) : Type 0 where
  in_base : (place parent : ℕ) (name : List ℕ) (dentry : Dentry) → BringsName image ckpt place ino parent name → IsReached image ckpt parent → HasDentry image ckpt parent dentry → dentry.name ≡ name → IsConflict image ckpt ino
  in_log : (place earlier other parent : ℕ) (name : List ℕ) → BringsName image ckpt place ino parent name → BringsName image ckpt earlier other parent name → earlier < place → other ≢ ino → IsConflict image ckpt ino

-- a directory of the base
abbrev pub IsDirectoryOf : Image → Checkpoint → ℕ → Type 0
IsDirectoryOf image ckpt ino = IsReached image ckpt ino × ((inode : List ℕ) × IsInode image ckpt ino Directory inode)

-- a marked block brings a name into no directory
pub record HasNoParent (image : Image) (ckpt : Checkpoint) (ino : ℕ) : Type 0 where
  pub place : ℕ
  pub parent : ℕ
  pub name : List ℕ
  pub brings : BringsName image ckpt place ino parent name
  pub none : ¬ (IsDirectoryOf image ckpt parent)

-- the type of a dentry as a kind
abbrev pub type_of_kind : Kind → ℕ
type_of_kind Regular = REGULAR_TYPE
type_of_kind Directory = DIRECTORY_TYPE

-- an ino of the base stands that many names below the root
pub data IsBelow (image : Image) (ckpt : Checkpoint) : ℕ → ℕ → Type 0 where
  root : IsBelow image ckpt 0 ROOT
  deeper : (depth directory : ℕ) (dentry : Dentry) → IsBelow image ckpt depth directory → HasDentry image ckpt directory dentry → IsBelow image ckpt (depth + 1) dentry.ino

-- a page, by its address, at or past a size, or with a byte other than 0 there
pub data IsPastSize (image : Image) (size page at : ℕ) : Type 0 where
  whole : size ≤ page * BLOCK_BYTES → IsPastSize image size page at
  partly : (place : ℕ) → place < BLOCK_BYTES → size ≤ page * BLOCK_BYTES + place → slice_index (block_at image at) place ≢ 0 → IsPastSize image size page at

-- base and marks are no good tree
pub data IsBadTree (image : Image) (ckpt : Checkpoint) (ino : ℕ) : Type 0 where
  too_low : (directory : ℕ) (dentry : Dentry) → IsReached image ckpt directory → HasDentry image ckpt directory dentry → dentry.ino ≡ ino → ino < 4 → IsBadTree image ckpt ino
  twice : (directory page slot other more place : ℕ) (a b : Dentry) → IsReached image ckpt directory → IsReached image ckpt other → HasDentryAt image ckpt directory page slot a → HasDentryAt image ckpt other more place b
      → (directory ≢ other) ⊎ (page ≢ more) ⊎ (slot ≢ place) → a.ino ≡ ino → b.ino ≡ ino → IsBadTree image ckpt ino
  other_kind : (directory : ℕ) (dentry : Dentry) (kind : Kind) (inode : List ℕ) → IsReached image ckpt directory → HasDentry image ckpt directory dentry → dentry.ino ≡ ino
      → IsInode image ckpt ino kind inode → type_of_kind kind ≢ dentry.type → IsBadTree image ckpt ino
  same_name : (directory page slot more place : ℕ) (a b : Dentry) → IsReached image ckpt directory → HasDentryAt image ckpt directory page slot a → HasDentryAt image ckpt directory more place b
      → (page ≢ more) ⊎ (slot ≢ place) → a.name ≡ b.name → a.ino ≡ ino → IsBadTree image ckpt ino
  bad_name : (directory : ℕ) (dentry : Dentry) → IsReached image ckpt directory → HasDentry image ckpt directory dentry → is_good_name dentry.name ≡ false → dentry.ino ≡ ino → IsBadTree image ckpt ino
  too_deep : (depth : ℕ) (kind : Kind) (inode : List ℕ) → IsBelow image ckpt depth ino → IsInode image ckpt ino kind inode → most_depth kind < depth → IsBadTree image ckpt ino
  past_size : (page at : ℕ) (inode : List ℕ) → IsReached image ckpt ino → IsInode image ckpt ino Regular inode → IsBasePage image ckpt ino page at → IsPastSize image (inode_of inode).size page at → IsBadTree image ckpt ino
  marked_past_size : (place page at : ℕ) (inode : List ℕ) → IsMarkedAt image ckpt place inode → footer_ino inode ≡ ino → page < page_limit → marked_address image ckpt (chain image ckpt) place page ≡ at → at ≢ 0
      → IsPastSize image (inode_of inode).size page at → IsBadTree image ckpt ino
  marked_directory : (place : ℕ) (inode : List ℕ) → IsMarkedAt image ckpt place inode → footer_ino inode ≡ ino → (inode_kind inode ≡ Some Directory) ⊎ IsDirectoryOf image ckpt ino → IsBadTree image ckpt ino
  unbound : (place : ℕ) (inode : List ℕ) → IsMarkedAt image ckpt place inode → footer_ino inode ≡ ino → ¬ (IsReached image ckpt ino) → has_dentry_mark inode ≡ false → IsBadTree image ckpt ino
  marked_bad_name : (place parent : ℕ) (name : List ℕ) → BringsName image ckpt place ino parent name → is_good_name name ≡ false → IsBadTree image ckpt ino
  root_file : (inode : List ℕ) → IsInode image ckpt ROOT Regular inode → ino ≡ ROOT → IsBadTree image ckpt ino

-- the tree of an image, where it has one
pub record HasTree (image : Image) (ckpt : Checkpoint) (tree : Rows) : Type 0 where
  pub base : Rows
  pub marks : List Mark
  pub is_base : IsBase image ckpt base
  pub are_marks : AreMarks image ckpt base marks
  pub is : tree ≡ rolled base marks

-- a node of the base by its ino and offset, and a data block that rows name
abbrev pub IsSomeNode : Image → Checkpoint → ℕ × ℕ → Type 0
IsSomeNode image ckpt at = (nid : ℕ) × IsNode image ckpt at.0 at.1 nid

abbrev pub IsBaseBlock : Image → Checkpoint → ℕ → Type 0
IsBaseBlock image ckpt at = (ino page : ℕ) × IsBasePage image ckpt ino page at

abbrev pub IsSomeBlock : Image → Checkpoint → ℕ → Type 0
IsSomeBlock image ckpt at = (ino page : ℕ) × IsPage image ckpt ino page at

-- more nodes or blocks than a third of their zone, or than two thirds for base and marks together
pub data IsTooFull (image : Image) (ckpt : Checkpoint) (limit : ℕ) : Type 0 where
  base_nodes : limit ≡ node_third ckpt.geom → HasMore (ℕ × ℕ) (IsSomeNode image ckpt) limit → IsTooFull image ckpt limit
  base_blocks : limit ≡ data_third ckpt.geom → HasMore ℕ (IsBaseBlock image ckpt) limit → IsTooFull image ckpt limit
  tree_nodes : (tree : Rows) → HasTree image ckpt tree → limit ≡ node_third ckpt.geom → limit < nodes_of_tree tree → IsTooFull image ckpt limit
  tree_blocks : (tree : Rows) → HasTree image ckpt tree → limit ≡ data_third ckpt.geom → limit < data_of_tree tree → IsTooFull image ckpt limit
  all_blocks : limit ≡ 2 * data_third ckpt.geom → HasMore ℕ (IsSomeBlock image ckpt) limit → IsTooFull image ckpt limit

-- the conditions by their names
pub data Which : Type 0 where
  BadSuper : Which
  NoCheckpoint : Which
  VersionEnd : Which
  Journal : Which
  BadNat : Which
  BadInode : Which
  DentFault : Which
  ChainLong : Which
  OutOfZone : Which
  Shared : Which
  Conflict : Which
  NoParent : Which
  BadTree : Which
  TooFull : Which

-- a condition stands in an image with a checkpoint, with this number
abbrev pub StandsAt : Which → Image → Checkpoint → ℕ → Type 0
StandsAt BadSuper image ckpt at = ⊥
StandsAt NoCheckpoint image ckpt at = ⊥
StandsAt VersionEnd image ckpt at = IsVersionEnd ckpt at
StandsAt Journal image ckpt at = IsBadJournal ckpt at
StandsAt BadNat image ckpt at = HasTable ckpt × IsBadNat image ckpt at
StandsAt BadInode image ckpt at = IsBadInode image ckpt at
StandsAt DentFault image ckpt at = HasTable ckpt × HasDentryFault image ckpt at
StandsAt ChainLong image ckpt at = IsChainLong image ckpt at
StandsAt OutOfZone image ckpt at = IsOutOfZone image ckpt at
StandsAt Shared image ckpt at = HasTable ckpt × IsShared image ckpt at
StandsAt Conflict image ckpt at = HasTable ckpt × IsConflict image ckpt at
StandsAt NoParent image ckpt at = HasTable ckpt × HasNoParent image ckpt at
StandsAt BadTree image ckpt at = HasTable ckpt × IsBadTree image ckpt at
StandsAt TooFull image ckpt at = HasTable ckpt × IsTooFull image ckpt at

-- a condition stands in an image, with this number
abbrev pub Stands : Which → Image → ℕ → Type 0
Stands BadSuper image at = IsBadSuper image at
Stands NoCheckpoint image at = HasNoCheckpoint image at
Stands which image at = (ckpt : Checkpoint) × IsCheckpoint image ckpt × StandsAt which image ckpt at

-- an image stands for a tree: it has a checkpoint, and of the conditions none stands but that of a last version
abbrev pub IsSound : Image → Checkpoint → Type 0
IsSound image ckpt = (which : Which) (at : ℕ) → which ≢ VersionEnd → ¬ (StandsAt which image ckpt at)
