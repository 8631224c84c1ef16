-- Rows against what an image grants: each takes a node, and there is a number for one more.
use Rattle.std.specs.Prelude.{◌≡◌, ℕ, ◌+◌, ◌*◌, ◌≤◌, Some}
use Rattle.std.specs.FinMap as map
use Rattle.std.specs.FinSet as set
use Rattle.f2_model.specs.Tree.{Rows, ROOT}
use Rattle.f2_model.specs.Count.{nodes_of_tree}
use Rattle.f2_model.specs.declared.bounds.Limits.{Limits}
use Rattle.f2_model.specs.State.{State, IsFreeIno}
use Rattle.f2_model.specs.declared.rows.Row.{Row}

-- a tree has no more rows than nodes
abbrev pub RowsTakeNodes : Type 0
RowsTakeNodes = (tree : Rows) → map.len tree ≤ nodes_of_tree tree

-- the rows of the live tree, those of the base and the files of the log are each no more than the nodes that are granted, for each of which there are three numbers; and there is a root
pub record IsWithinLimits (limits : Limits) (state : State) : Type 0 where
  pub numbers : 3 * limits.nodes + 4 ≤ limits.nids
  pub live : map.len state.live ≤ limits.nodes
  pub base : map.len state.base ≤ limits.nodes
  pub logged : set.len state.logged ≤ limits.nodes
  pub root : (row : Row) × (map.get state.live ROOT ≡ Some row)

-- a free ino, and no free one is less
pub record IsLeastFreeIno (limits : Limits) (state : State) (ino : ℕ) : Type 0 where
  pub free : IsFreeIno limits state ino
  pub least : (other : ℕ) → IsFreeIno limits state other → ino ≤ other

-- within the limits a new row finds an ino, so also a least one
abbrev pub FreeInoIsThere : Type 0
FreeInoIsThere = (limits : Limits) (state : State) → IsWithinLimits limits state → (ino : ℕ) × IsLeastFreeIno limits state ino
