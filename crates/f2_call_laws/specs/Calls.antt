-- How a call changes what a volume knows of places, and that it keeps what a running volume keeps.
use Rattle.std.specs.Prelude.{◌≡◌, ◌≢◌, ◌⊎◌, ℕ, ◌<◌, ◌≤◌, true, Some, None, IsSome}
use Rattle.std.specs.FinMap as map
use Rattle.std.specs.FinSet as set
use Rattle.f2_format.specs.Geometry.{node_third, data_third, nid_limit}
use Rattle.f2_disk.specs.Contents.{Contents}
use Rattle.f2_model.specs.Tree.{Rows, ROOT}
use Rattle.f2_model.specs.Call.{refusal, effect, space_refusal}
use Rattle.f2_model.specs.declared.bounds.Limits.{Limits}
use Rattle.f2_model.specs.State.{State, IsFreeIno}
use Rattle.f2_model.specs.Step.{freezing, adds_row, called}
use Rattle.f2_model.specs.declared.requests.Request.{Request}
use Rattle.f2_model.specs.declared.rows.Row.{Row}
use Rattle.f2_model.specs.declared.rows.Kind.TheVariants.{Regular, Directory}
use Rattle.f2_image_laws.specs.Rolled.{image_limits}
use Rattle.f2_live_laws.specs.Changing.{ChangesInMemory}
use Rattle.f2_stored.specs.Places.{NodeAt, Places, dentries_at, HasNames, IsNamedAbove, IsPagePlaced, HasItsPages}
use Rattle.f2_stored.specs.Trees.{Unwritten}
use Rattle.f2_stored.specs.Layout.{Layout}
use Rattle.f2_stored.specs.Whole.{IsOwnNid, IsKeptWhole}

-- a call of one event takes effect: nothing refuses it, no fsync holds its file, there is room for the tree after it, and a new row gets a
-- free ino
pub record TakesPlace (limits : Limits) (state : State) (request : Request) (ino : ℕ) : Type 0 where
  pub passes : refusal limits state.live request ≡ None
  pub thawed : freezing state request ≡ None
  pub space : space_refusal limits (effect state.live request limits.nids) ≡ None
  pub free : adds_row request ≡ true → IsFreeIno limits state ino

-- a node that the tree hadn't before: it has no address yet, and a nid of its own, which no other node of the tree has; that of a row's
-- inode is the row's ino
pub record IsNewNode (layout : Layout) (places now : Places) (ino offset : ℕ) (node : NodeAt) : Type 0 where
  pub new : map.get places.nodes (ino, offset) ≡ None
  pub nowhere : node.at ≡ 0
  pub inode : offset ≡ 0 → node.nid ≡ ino
  pub least : 4 ≤ node.nid
  pub most : node.nid < nid_limit layout.base.ckpt.geom
  pub own : IsOwnNid layout ino offset node.nid
  pub apart : (other : ℕ × ℕ) (more : NodeAt) → map.get now.nodes other ≡ Some more → more.nid ≡ node.nid → other ≡ (ino, offset)

-- a row stands in the directory that it stood in, under the name that it had there
pub record StandsThere (tree : Rows) (ino : ℕ) (row : Row) : Type 0 where
  pub same : Row
  pub there : map.get tree ino ≡ Some same
  pub parent : same.parent ≡ row.parent
  pub name : same.name ≡ row.name
  pub kind : same.kind ≡ row.kind

-- the rows of a directory are those that it had, and so are its dentries
pub record KeepsNames (tree after : Rows) (places now : Places) (directory : ℕ) : Type 0 where
  pub before : (row : Row) × (map.get tree directory ≡ Some row) × (row.kind ≡ Directory)
  pub stay : (ino : ℕ) (row : Row) → map.get tree ino ≡ Some row → ino ≢ ROOT → row.parent ≡ directory → StandsThere after ino row
  pub stood : (ino : ℕ) (row : Row) → map.get after ino ≡ Some row → ino ≢ ROOT → row.parent ≡ directory → StandsThere tree ino row
  pub pages : (page : ℕ) → map.get now.pages (directory, page) ≡ map.get places.pages (directory, page)
  pub dentries : (page : ℕ) → dentries_at now directory page ≡ dentries_at places directory page

-- what a volume knows of places follows the tree from a state to the one after a call
pub record ArePlacesAfter (layout : Layout) (state after : State) (places now : Places) (unwritten left : Unwritten) : Type 0 where
  -- nodes and pages that the tree had keep nid and address, and new ones have no address; what the call took away is gone
  pub nodes : (ino offset : ℕ) (node : NodeAt) → map.get now.nodes (ino, offset) ≡ Some node → (map.get places.nodes (ino, offset) ≡ Some node) ⊎ IsNewNode layout places now ino offset node
  pub pages : (ino page at : ℕ) → map.get now.pages (ino, page) ≡ Some at → (map.get places.pages (ino, page) ≡ Some at) ⊎ ((map.get places.pages (ino, page) ≡ None) × (at ≡ 0))
  pub of_rows : (ino offset : ℕ) (node : NodeAt) → map.get now.nodes (ino, offset) ≡ Some node → IsSome (map.get after.live ino)
  -- each row has an inode, each node one that names it, each page one that tells its address; a file's pages are those of its row, and a
  -- directory's dentries bind its names; a file whose row stays has the nodes that it had
  pub inodes : (ino : ℕ) (row : Row) → map.get after.live ino ≡ Some row → IsSome (map.get now.nodes (ino, 0))
  pub above : (ino offset : ℕ) (node : NodeAt) → map.get now.nodes (ino, offset) ≡ Some node → offset ≢ 0 → IsNamedAbove now ino offset
  pub told : (ino page at : ℕ) → map.get now.pages (ino, page) ≡ Some at → IsPagePlaced after.live now ino page
  pub rows : (ino : ℕ) (row : Row) → map.get after.live ino ≡ Some row → HasItsPages now row
  pub names : (ino : ℕ) (row : Row) → map.get after.live ino ≡ Some row → row.kind ≡ Directory → HasNames after.live now ino ⊎ KeepsNames state.live after.live places now ino
  pub stay : (ino : ℕ) (row : Row) → map.get state.live ino ≡ Some row → map.get after.live ino ≡ Some row → row.kind ≡ Regular → (offset : ℕ) → map.get now.nodes (ino, offset) ≡ map.get places.nodes (ino, offset)
  -- an image grants as many
  pub few_nodes : map.len now.nodes ≤ node_third layout.base.ckpt.geom
  pub few_pages : map.len now.pages ≤ data_third layout.base.ckpt.geom
  -- what is dirty in a file is to be written, and so are nodes that are dirty; what else isn't stands as it stood and would be written as
  -- before; and what is to be written is there
  pub dirty : (ino page : ℕ) (row : Row) → map.get after.live ino ≡ Some row → row.kind ≡ Regular → set.contains left.pages (ino, page) ≡ set.contains after.dirty_pages (ino, page)
  pub dirty_nodes : (ino offset : ℕ) → set.contains after.dirty_nodes (ino, offset) ≡ true → set.contains left.nodes (ino, offset) ≡ true
  pub others : ChangesInMemory state.live after.live places now unwritten left
  pub left_nodes : (ino offset : ℕ) → set.contains left.nodes (ino, offset) ≡ true → IsSome (map.get now.nodes (ino, offset))
  pub left_pages : (ino page : ℕ) → set.contains left.pages (ino, page) ≡ true → IsSome (map.get now.pages (ino, page))

-- a call that takes place keeps it, where the volume's knowledge follows; a volume that forgot to write a node whose nids changed, gave a
-- new row an ino that a node of the log has, or left a removed page to be written, would break it
abbrev pub CallsKeep : Type 0
CallsKeep =
    (lists : Contents) (layout : Layout) (state : State) (places now : Places) (unwritten left : Unwritten) (request : Request) (ino : ℕ) →
    IsKeptWhole lists layout state places unwritten →
    TakesPlace (image_limits layout.base.ckpt.geom) state request ino →
    ArePlacesAfter layout state (called state request ino) places now unwritten left →
    IsKeptWhole lists layout (called state request ino) now left
