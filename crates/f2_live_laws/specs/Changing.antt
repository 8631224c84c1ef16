-- Changes of the live tree in memory alone.
use Rattle.std.specs.Prelude.{◌≡◌, ℕ, ◌<◌, false, Some}
use Rattle.std.specs.FinMap as map
use Rattle.std.specs.FinSet as set
use Rattle.f2_format.specs.Offsets.{inode_pages, direct_of}
use Rattle.f2_format.specs.Geometry.{ImageGeometry}
use Rattle.f2_disk.specs.Contents.{Contents}
use Rattle.f2_model.specs.Tree.{Rows}
use Rattle.f2_model.specs.declared.rows.Row.{Row}
use Rattle.f2_model.specs.declared.rows.Kind.TheVariants.{Regular, Directory}
use Rattle.f2_image.specs.Reached.{offset_below, nids_of_node}
use Rattle.f2_stored.specs.Places.{NodeAt, Places, nid_at, page_at, dentries_at, HasPlaces, HasItsPages}
use Rattle.f2_stored.specs.Trees.{Unwritten, IsLiveAt}

-- a row's inode would be written as before: its kind, a file's size and the first pages' addresses are the same
pub record IsSameInode (tree : Rows) (places now : Places) (ino : ℕ) (row : Row) : Type 0 where
  pub before : Row
  pub there : map.get tree ino ≡ Some before
  pub own : before.ino ≡ row.ino
  pub kind : before.kind ≡ row.kind
  pub size : row.kind ≡ Regular → before.size ≡ row.size
  pub addresses : (page : ℕ) → page < inode_pages → page_at now row.ino page ≡ page_at places row.ino page

-- a row's page would be written as before: a file's own bytes, or a directory's dentries
pub record IsSamePage (tree : Rows) (places now : Places) (ino page : ℕ) (row : Row) : Type 0 where
  pub before : Row
  pub there : map.get tree ino ≡ Some before
  pub own : before.ino ≡ row.ino
  pub kind : before.kind ≡ row.kind
  pub bytes : row.kind ≡ Regular → map.get before.pages page ≡ map.get row.pages page
  pub dentries : row.kind ≡ Directory → dentries_at now row.ino page ≡ dentries_at places row.ino page

-- what is there after a change and isn't to be written wasn't to be written before it, stands where it stood, and would be written as before
pub record IsSameNode (tree after : Rows) (places now : Places) (unwritten : Unwritten) (ino offset : ℕ) (node : NodeAt) : Type 0 where
  pub stood : map.get places.nodes (ino, offset) ≡ Some node
  pub written : set.contains unwritten.nodes (ino, offset) ≡ false
  pub lower : (slot low : ℕ) → slot < nids_of_node offset → offset_below offset slot ≡ Some low → nid_at now ino low ≡ nid_at places ino low
  pub addresses : (page : ℕ) → direct_of page ≡ Some offset → page_at now ino page ≡ page_at places ino page
  pub inode : offset ≡ 0 → (row : Row) → map.get after ino ≡ Some row → IsSameInode tree places now ino row

pub record StaysAtPage (tree after : Rows) (places now : Places) (unwritten : Unwritten) (ino page at : ℕ) : Type 0 where
  pub stood : map.get places.pages (ino, page) ≡ Some at
  pub written : set.contains unwritten.pages (ino, page) ≡ false
  pub content : (row : Row) → map.get after ino ≡ Some row → IsSamePage tree places now ino page row

pub record ChangesInMemory (tree after : Rows) (places now : Places) (unwritten left : Unwritten) : Type 0 where
  pub nodes : (ino offset : ℕ) (node : NodeAt) → map.get now.nodes (ino, offset) ≡ Some node → set.contains left.nodes (ino, offset) ≡ false → IsSameNode tree after places now unwritten ino offset node
  pub pages : (ino page at : ℕ) → map.get now.pages (ino, page) ≡ Some at → set.contains left.pages (ino, page) ≡ false → StaysAtPage tree after places now unwritten ino page at

-- such a change keeps the live tree at its places
abbrev pub ChangesInMemoryKeepLive : Type 0
ChangesInMemoryKeepLive =
    (lists : Contents) (geom : ImageGeometry) (tree after : Rows) (places now : Places) (unwritten left : Unwritten) →
    IsLiveAt lists geom tree places unwritten →
    HasPlaces geom after now →
    ((ino : ℕ) (row : Row) → map.get after ino ≡ Some row → HasItsPages now row) →
    ChangesInMemory tree after places now unwritten left →
    IsLiveAt lists geom after now left
