-- What makes a tree storable, one thing at a time: the parts of `IsStorable` as they are tested.
use Rattle.std.specs.Prelude.{◌≡◌, ◌≢◌, ℕ, ◌+◌, ◌*◌, ◌<◌, ◌≤◌, List, length, IsTrue, slice_index, Some, All}
use Rattle.std.specs.Ordering.{nat_cmp}
use Rattle.std.specs.FinMap as map
use Rattle.f2_format.specs.Offsets.{inode_pages}
use Rattle.f2_format.specs.Geometry.{ImageGeometry, node_third, data_third, nid_limit}
use Rattle.f2_format.specs.Inode.{SIZE_LIMIT}
use Rattle.f2_model.specs.Content.{PAGE}
use Rattle.f2_model.specs.Names.{is_good_name}
use Rattle.f2_model.specs.Tree.{Rows, ROOT, IsRoot, IsAtDepth, HasGoodPages, most_depth}
use Rattle.f2_model.specs.Count.{nodes_of_tree, data_of_tree, dentry_blocks}
use Rattle.f2_model.specs.declared.rows.Row.{Row}
use Rattle.f2_model.specs.declared.rows.Kind.TheVariants.{Directory}

-- what a map has at a key, if anything, is so, and what it has at each key
pub record IsSoAt {X : Type 0} (m : map.FinMap nat_cmp X) (IsSo : ℕ → X → Type 0) (key : ℕ) : Type 0 where
  pub so : (x : X) → map.get m key ≡ Some x → IsSo key x

abbrev pub EachIsSo : {X : Type 0} → map.FinMap nat_cmp X → (ℕ → X → Type 0) → Type 0
EachIsSo {X} m IsSo = (key : ℕ) (x : X) → map.get m key ≡ Some x → IsSo key x

-- a row stands under its own ino
abbrev pub HasIno : ℕ → Row → Type 0
HasIno ino row = row.ino ≡ ino

-- the root is there
abbrev pub HasRoot : Rows → Type 0
HasRoot tree = (row : Row) × (map.get tree ROOT ≡ Some row) × IsRoot row

-- a row stands in a directory of the tree
abbrev pub HasParent : Rows → Row → Type 0
HasParent tree row = (up : Row) × (map.get tree row.parent ≡ Some up) × (up.kind ≡ Directory)

-- a row but the root has a good name
abbrev pub IsNamed : Row → Type 0
IsNamed row = row.ino ≢ ROOT → IsTrue (is_good_name row.name)

-- an ino stands at most that many names below the root
abbrev pub StandsWithin : Rows → ℕ → ℕ → Type 0
StandsWithin tree most ino = (depth : ℕ) × (depth ≤ most) × IsAtDepth tree depth ino

-- a row stands no deeper than its kind may
abbrev pub IsReached : Rows → Row → Type 0
IsReached tree row = StandsWithin tree (most_depth row.kind) row.ino

-- no two rows but the root have one name in one directory
abbrev pub AreApart : Rows → Type 0
AreApart tree =
    (i j : ℕ) (a b : Row) → map.get tree i ≡ Some a → map.get tree j ≡ Some b → i ≢ ROOT → j ≢ ROOT → a.parent ≡ b.parent → a.name ≡ b.name → i ≡ j

-- the number of a row is one that a row may have: the root's, or one from 4 on that the node address table has
abbrev pub IsNumbered : ImageGeometry → Row → Type 0
IsNumbered geom row = (row.ino ≢ ROOT → 4 ≤ row.ino) × (row.ino < nid_limit geom)

-- each byte of a page is 0 that lies at a size or past it
abbrev pub EndsInZeros : ℕ → ℕ → List ℕ → Type 0
EndsInZeros size page bytes = (at : ℕ) → size ≤ page * PAGE + at → slice_index bytes at ≡ 0

-- a page of a file of a size begins before the size, and is 0 past it
pub record IsGoodPage (size page : ℕ) (bytes : List ℕ) : Type 0 where
  pub whole : length bytes ≡ PAGE
  pub before : page * PAGE < size
  pub zeros : EndsInZeros size page bytes

-- a directory has no bytes of its own
abbrev pub IsPlainDirectory : Row → Type 0
IsPlainDirectory row = row.kind ≡ Directory → (row.size ≡ 0) × (row.pages ≡ map.empty)

-- and no file has more bytes than its pages have room for
abbrev pub HasGoodSize : Row → Type 0
HasGoodSize row = IsPlainDirectory row × (row.size ≤ SIZE_LIMIT)

-- a row has a place in a tree, whatever other rows have its name
abbrev pub HasPlace : Rows → Row → Type 0
HasPlace tree row = HasParent tree row × IsNamed row × IsReached tree row

-- a row is good where it stands in a tree
pub record IsGoodRow (tree : Rows) (row : Row) : Type 0 where
  pub place : HasPlace tree row
  pub pages : HasGoodPages SIZE_LIMIT row

-- an inode has room for the addresses of a file's pages, and of the dentry blocks that a directory among rows has
abbrev pub HasShortFile : Row → Type 0
HasShortFile row = EachIsSo row.pages (λ page bytes. page < inode_pages)

abbrev pub IsShortDirectory : List Row → Row → Type 0
IsShortDirectory rows row = row.kind ≡ Directory → dentry_blocks rows row.ino ≤ inode_pages

-- a row among rows has a number and a length that an image of these sizes has room for
pub record HasRoom (geom : ImageGeometry) (rows : List Row) (row : Row) : Type 0 where
  pub numbered : IsNumbered geom row
  pub file : HasShortFile row
  pub directory : IsShortDirectory rows row

-- an image of these sizes has space for all of a tree in a third of each zone
abbrev pub HasSpace : ImageGeometry → Rows → Type 0
HasSpace geom tree = (nodes_of_tree tree ≤ node_third geom) × (data_of_tree tree ≤ data_third geom)

-- an image of these sizes has room for a tree: for each row, and for all of them
pub record HasRoomForAll (geom : ImageGeometry) (tree : Rows) : Type 0 where
  pub rows : All (HasRoom geom (map.values tree)) (map.values tree)
  pub space : HasSpace geom tree
