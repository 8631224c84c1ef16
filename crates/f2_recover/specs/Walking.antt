-- The base of an image as far as its directories were walked.
use Rattle.std.specs.Prelude.{◌≡◌, ◌≢◌, ◌⊎◌, ℕ, ◌+◌, ◌<◌, ◌≤◌, true, false, List, [], length, slice_index_or, Contains, Option, Some, None}
use Rattle.std.specs.Ordering.{nat_cmp}
use Rattle.std.specs.FinMap as map
use Rattle.std.specs.FinSet as set
use Rattle.f2_disk.specs.Contents.{Contents}
use Rattle.f2_format.specs.Dentry.{Dentry, dentry_fault}
use Rattle.f2_format.specs.Geometry.{ImageGeometry, nid_limit, node_third, data_third}
use Rattle.f2_format.specs.Inode.{inode_of}
use Rattle.f2_format.specs.Offsets.{page_limit}
use Rattle.f2_model.specs.Tree.{ROOT, most_depth}
use Rattle.f2_model.specs.Names.{is_good_name}
use Rattle.f2_model.specs.declared.rows.Kind.{Kind}
use Rattle.f2_model.specs.declared.rows.Kind.TheVariants.{Regular, Directory}
use Rattle.f2_dir.specs.Entries.{Entries}
use Rattle.f2_dentry_block.specs.Dents.{type_of}
use Rattle.f2_dentry_block.specs.declared.dents.Dent.{Dent}
use Rattle.f2_image.specs.Images.{Image, block_at}
use Rattle.f2_image.specs.Packs.{Checkpoint}
use Rattle.f2_image.specs.Nodes.{place_of_nid}
use Rattle.f2_image.specs.Bases.{IsInode, IsReached, IsDirectoryBlock, HasDentryAt, HasDentry}
use Rattle.f2_image.specs.Faults.{HasTable, IsForeign, IsBelow, IsPastSize, IsBadEntry}
use Rattle.f2_image.specs.Reached.{IsBasePage}
use Rattle.f2_recover.specs.Dents.{no_dent, AreDentsAt}
use Rattle.f2_recover.specs.Reading.{IsRead}
use Rattle.f2_recover.specs.Seeing.{IsPart, node_limit}
use Rattle.f2_recover.specs.Taking.{Taken, AreTaken}
use Rattle.f2_recover.specs.declared.files.File.{File}
use Rattle.f2_recover.specs.declared.rows.BaseRow.{BaseRow}
use Rattle.f2_recover.specs.declared.walk.Walk.{Walk}

-- rows, and the names of directories, by their inos
abbrev pub BaseRows : Type 0
BaseRows = map.FinMap nat_cmp BaseRow

-- what is kept of a file of the base: its kind and size, its nodes, and the addresses of its pages
pub record IsFileOf (image : Image) (ckpt : Checkpoint) (ino : ℕ) (file : File) : Type 0 where
  pub reached : IsReached image ckpt ino
  pub inode : List ℕ
  pub is : IsInode image ckpt ino file.kind inode
  pub own : ¬ (IsForeign inode)
  pub size : file.size ≡ (inode_of inode).size
  pub part : IsPart image ckpt ino node_limit page_limit file.nodes

-- a row of the base as it was read: its file, how many names it stands below the root, and that a regular file ends where its inode says
pub record IsRowOf (image : Image) (ckpt : Checkpoint) (ino : ℕ) (row : BaseRow) : Type 0 where
  pub file : IsFileOf image ckpt ino row.file
  pub below : IsBelow image ckpt row.depth ino
  pub ends : row.file.kind ≡ Regular → (page at : ℕ) → IsBasePage image ckpt ino page at → ¬ (IsPastSize image row.file.size page at)

-- a row stands in a directory under the name of a dentry, as of the kind that the dentry tells
pub record StandsBy (row : BaseRow) (directory : ℕ) (dentry : Dentry) : Type 0 where
  pub parent : row.parent ≡ directory
  pub named : row.name ≡ dentry.name
  pub typed : dentry.type ≡ type_of row.file.kind
  pub least : 4 ≤ dentry.ino
  pub good : is_good_name dentry.name ≡ true

-- the place of a dentry was passed: its directory was walked to the end, or it is among so many first ones of the directory that is walked
abbrev pub IsPassed : set.FinSet nat_cmp → ℕ → List (ℕ × ℕ) → ℕ → ℕ → ℕ → ℕ → Type 0
IsPassed done directory places count of page slot =
    (set.contains done of ≡ true) ⊎ ((of ≡ directory) × ((k : ℕ) × ((k < count) × (slice_index_or places k (0, 0) ≡ (page, slot)))))

-- a row has such a dentry
pub record IsBoundBy (image : Image) (ckpt : Checkpoint) (done : set.FinSet nat_cmp) (directory : ℕ) (places : List (ℕ × ℕ)) (count ino : ℕ) (row : BaseRow) : Type 0 where
  pub page : ℕ
  pub slot : ℕ
  pub dentry : Dentry
  pub has : HasDentryAt image ckpt row.parent page slot dentry
  pub passed : IsPassed done directory places count row.parent page slot
  pub own : dentry.ino ≡ ino
  pub stands : StandsBy row row.parent dentry

-- the root stands for itself
pub record IsRootRow (row : BaseRow) : Type 0 where
  pub kind : row.file.kind ≡ Directory
  pub parent : row.parent ≡ ROOT
  pub named : row.name ≡ []

-- there is a row that is so
pub record HasRow (rows : BaseRows) (ino : ℕ) (IsSo : BaseRow → Type 0) : Type 0 where
  pub row : BaseRow
  pub there : map.get rows ino ≡ Some row
  pub is : IsSo row

-- the names that are known of a directory are its dentries
pub record AreNamesOf (image : Image) (ckpt : Checkpoint) (directory : ℕ) (names : Entries) : Type 0 where
  pub only : (name : List ℕ) (ino : ℕ) (kind : Kind) → map.get names name ≡ Some (ino, kind) → HasDentry image ckpt directory (record { name = name; ino = ino; type = type_of kind })
  pub all : (dentry : Dentry) → HasDentry image ckpt directory dentry → (kind : Kind) × ((map.get names dentry.name ≡ Some (dentry.ino, kind)) × (dentry.type ≡ type_of kind))

-- of a directory that was walked the names are known, and no block has a wrong one
pub record IsWalkedDirectory (image : Image) (ckpt : Checkpoint) (walk : Walk) (directory : ℕ) : Type 0 where
  pub row : HasRow walk.rows directory (λ row. row.file.kind ≡ Directory)
  pub names : Entries
  pub known : map.get walk.names directory ≡ Some names
  pub are : AreNamesOf image ckpt directory names
  pub whole : (page at : ℕ) → IsDirectoryBlock image ckpt directory page at → dentry_fault (block_at image at) ≡ None

-- the addresses of all files that were read were taken, so that any other may be read next
pub record AreAllTaken (image : Image) (ckpt : Checkpoint) (rows : BaseRows) (taken : Taken) : Type 0 where
  pub inos : set.FinSet nat_cmp
  pub are_rows : (ino : ℕ) → set.contains inos ino ≡ map.contains_key rows ino
  pub next : (ino : ℕ) → map.contains_key rows ino ≡ false → AreTaken image ckpt inos ino 0 0 taken

-- the base as far as some directories were walked, and one of them up to so many of its dentries
pub record IsWalkedTo (image : Image) (ckpt : Checkpoint) (done : set.FinSet nat_cmp) (directory : ℕ) (places : List (ℕ × ℕ)) (count : ℕ) (walk : Walk) : Type 0 where
  pub taken : AreAllTaken image ckpt walk.rows walk.zones
  pub rows : (ino : ℕ) (row : BaseRow) → map.get walk.rows ino ≡ Some row → IsRowOf image ckpt ino row
  pub root : HasRow walk.rows ROOT IsRootRow
  pub bound : (ino : ℕ) (row : BaseRow) → map.get walk.rows ino ≡ Some row → ino ≢ ROOT → IsBoundBy image ckpt done directory places count ino row
  pub found : (of page slot : ℕ) (dentry : Dentry) → HasDentryAt image ckpt of page slot dentry → IsPassed done directory places count of page slot
      → HasRow walk.rows dentry.ino (λ row. StandsBy row of dentry)
  pub once : (of page slot other more : ℕ) (a b : Dentry) → HasDentryAt image ckpt of page slot a → HasDentryAt image ckpt of other more b
      → IsPassed done directory places count of page slot → IsPassed done directory places count of other more → a.name ≡ b.name → (page ≡ other) × (slot ≡ more)
  pub walked : (of : ℕ) → set.contains done of ≡ true → IsWalkedDirectory image ckpt walk of
  pub others : (of : ℕ) → map.contains_key walk.names of ≡ set.contains done of

-- the rows in the order in which they were reached: each once, none past the table, and none below a depth that no row has
pub record IsQueue (geom : ImageGeometry) (rows : BaseRows) (order : List ℕ) : Type 0 where
  pub there : (k : ℕ) → k < length order → HasRow rows (slice_index_or order k 0) (λ row. row.depth ≤ most_depth row.file.kind)
  pub within : (k : ℕ) → k < length order → slice_index_or order k 0 < nid_limit geom
  pub apart : (j k : ℕ) → j < length order → k < length order → slice_index_or order j 0 ≡ slice_index_or order k 0 → j ≡ k
  pub all : (ino : ℕ) (row : BaseRow) → map.get rows ino ≡ Some row → Contains order ino

-- a walk went on from another: its rows stay, and stand in the queue where they stood
pub record IsLonger (old new : Walk) : Type 0 where
  pub rows : (ino : ℕ) (row : BaseRow) → map.get old.rows ino ≡ Some row → map.get new.rows ino ≡ Some row
  pub grows : length old.order.items ≤ length new.order.items
  pub order : (k : ℕ) → k < length old.order.items → slice_index_or new.order.items k 0 ≡ slice_index_or old.order.items k 0

-- the names that were taken of a directory are those of so many first ones of its dents
pub record AreFirstNames (dents : List Dent) (count : ℕ) (names : Entries) : Type 0 where
  pub only : (name : List ℕ) (ino : ℕ) (kind : Kind) → map.get names name ≡ Some (ino, kind)
      → (k : ℕ) × ((k < count) × (slice_index_or dents k no_dent ≡ record { name = name; ino = ino; kind = kind }))
  pub all : (k : ℕ) → k < count → map.get names (slice_index_or dents k no_dent).name ≡ Some ((slice_index_or dents k no_dent).ino, (slice_index_or dents k no_dent).kind)

-- the whole base was walked: all rows that are reached, each directory with its names
pub record IsWalked (image : Image) (ckpt : Checkpoint) (walk : Walk) : Type 0 where
  pub done : set.FinSet nat_cmp
  pub to : IsWalkedTo image ckpt done 0 [] 0 walk
  pub all : (ino : ℕ) (row : BaseRow) → map.get walk.rows ino ≡ Some row → row.file.kind ≡ Directory → set.contains done ino ≡ true

-- a checkpoint of an image of these sizes has this bitmap and this summary
pub record IsCkptOf (geom : ImageGeometry) (bitmap summary : List ℕ) (ckpt : Checkpoint) : Type 0 where
  pub geom_is : ckpt.geom ≡ geom
  pub bitmap_is : ckpt.head.bitmap ≡ bitmap
  pub summary_is : ckpt.summary ≡ summary

-- the base of an image was read, and nothing is wrong with it
pub record IsBaseRead (image : Image) (ckpt : Checkpoint) (walk : Walk) : Type 0 where
  pub has : HasTable ckpt
  pub walked : IsWalked image ckpt walk
  pub geom_is : walk.zones.geom ≡ ckpt.geom
  pub entries : (nid : ℕ) → ¬ (IsBadEntry ckpt nid)
  pub reached : (nid : ℕ) → nid < nid_limit ckpt.geom → (place_of_nid image ckpt nid).1 ≢ 0 → set.contains walk.zones.nids nid ≡ true
  pub few_nodes : set.len walk.zones.nodes ≤ node_third ckpt.geom
  pub few_pages : set.len walk.zones.pages ≤ data_third ckpt.geom
  pub deep : (ino : ℕ) (row : BaseRow) → map.get walk.rows ino ≡ Some row → row.depth ≤ most_depth row.file.kind
