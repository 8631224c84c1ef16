-- What a running volume keeps besides, so that calls and the events of fsyncs find it.
use Rattle.std.specs.Prelude.{◌≡◌, ◌≢◌, ℕ, ◌<◌, true, false, length, Some, IsSome}
use Rattle.std.specs.FinMap as map
use Rattle.std.specs.FinSet as set
use Rattle.f2_format.specs.Footer.{footer_ino}
use Rattle.f2_disk.specs.Contents.{Contents}
use Rattle.f2_model.specs.Tree.{Rows}
use Rattle.f2_model.specs.State.{State, Progress, InFsync}
use Rattle.f2_model.specs.declared.rows.Row.{Row}
use Rattle.f2_model.specs.declared.rows.Kind.TheVariants.{Regular}
use Rattle.f2_image.specs.Chains.{block_in}
use Rattle.f2_stored.specs.Places.{NodeAt, Places}
use Rattle.f2_stored.specs.Trees.{Unwritten}
use Rattle.f2_stored.specs.Layout.{Layout, chained}
use Rattle.f2_stored.specs.Numbers.{MayCount}
use Rattle.f2_stored.specs.Kept.{IsKept}

-- a page is one that the row of a file has
pub record IsFilePage (tree : Rows) (ino page : ℕ) : Type 0 where
  pub row : Row
  pub there : map.get tree ino ≡ Some row
  pub regular : row.kind ≡ Regular
  pub has : IsSome (map.get row.pages page)

-- a node has a nid of its own: the one by which base and log know the node, where they do, and one by which they know no other node
pub record IsOwnNid (layout : Layout) (ino offset nid : ℕ) : Type 0 where
  pub known : (other : ℕ) → map.get layout.nids (ino, offset) ≡ Some other → other ≡ nid
  pub own : (other : ℕ × ℕ) → map.get layout.nids other ≡ Some nid → other ≡ (ino, offset)

-- a disk keeps a state, and what is known of it goes together
pub record IsKeptWhole (lists : Contents) (layout : Layout) (state : State) (places : Places) (unwritten : Unwritten) : Type 0 where
  pub kept : IsKept lists layout state places unwritten
  -- a dirty page is a file's own, and what is to be written has a place
  pub dirty : (ino page : ℕ) → set.contains state.dirty_pages (ino, page) ≡ true → IsFilePage state.live ino page
  pub nodes : (ino offset : ℕ) → set.contains unwritten.nodes (ino, offset) ≡ true → IsSome (map.get places.nodes (ino, offset))
  pub pages : (ino page : ℕ) → set.contains unwritten.pages (ino, page) ≡ true → IsSome (map.get places.pages (ino, page))
  -- the live tree's nids are its nodes' own, so any of them may be drawn
  pub nids : (ino offset : ℕ) (node : NodeAt) → map.get places.nodes (ino, offset) ≡ Some node → IsOwnNid layout ino offset node.nid
  -- a page of it that stands where base or marks have a page is that page, so the pages of any file may be a mark's
  pub owners : (ino page at : ℕ) (owner : ℕ × ℕ) → map.get places.pages (ino, page) ≡ Some at → at ≢ 0 → map.get layout.owners at ≡ Some owner → owner ≡ (ino, page)
  -- and a file in fsync lost no direct node since the base
  pub unshrunk : (seat ino : ℕ) (progress : Progress) → map.get state.flights seat ≡ Some (InFsync ino progress) → set.contains state.shrunk ino ≡ false
  -- the files of the log are known, and all that it has of a row may count
  pub logged : (place : ℕ) → place < length (chained layout) → set.contains state.logged (footer_ino (block_in (chained layout) place)) ≡ true
  pub counts : (ino : ℕ) (row : Row) → map.get state.live ino ≡ Some row → MayCount layout ino
