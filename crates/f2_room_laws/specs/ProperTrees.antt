-- Trees that an image can hold, and the tree of an image that was just made.
use Rattle.std.specs.Prelude.{◌≡◌, ℕ, ◌<◌, ◌≤◌, Some}
use Rattle.std.specs.FinMap as map
use Rattle.f2_format.specs.Geometry.{ImageGeometry, IsGeometry, node_third, nid_limit}
use Rattle.f2_model.specs.Tree.{Rows, ROOT, root_alone, IsGoodTree}
use Rattle.f2_model.specs.Count.{nodes_of_tree, data_of_tree}
use Rattle.f2_model.specs.declared.bounds.Limits.{Limits}
use Rattle.f2_model.specs.declared.rows.Row.{Row}

-- a number that a row can have: the root's or one above it, as far as the node address table goes
abbrev pub IsNumber : Limits → ℕ → Type 0
IsNumber limits ino = (ROOT ≤ ino) × (ino < limits.nids)

-- a good tree within the limits of an image: each row has such a number, and the nodes and data blocks fit the zones
pub record IsProperTree (limits : Limits) (tree : Rows) : Type 0 where
  pub good : IsGoodTree limits.size tree
  pub numbers : (ino : ℕ) (row : Row) → map.get tree ino ≡ Some row → IsNumber limits ino
  pub nodes : nodes_of_tree tree ≤ limits.nodes
  pub data_blocks : data_of_tree tree ≤ limits.data_blocks

-- there is a node for the root, and a number
pub record HasRoomForRoot (limits : Limits) : Type 0 where
  pub nodes : 1 ≤ limits.nodes
  pub numbers : ROOT < limits.nids

-- the limits of a geometry have room for the root
abbrev pub GeometriesHaveRoomForRoot : Type 0
GeometriesHaveRoomForRoot =
    (geom : ImageGeometry) (limits : Limits) →
    IsGeometry geom →
    limits.nodes ≡ node_third geom →
    limits.nids ≡ nid_limit geom →
    HasRoomForRoot limits

-- and then the tree of the root alone is proper
abbrev pub BareTreeIsProper : Type 0
BareTreeIsProper = (limits : Limits) → HasRoomForRoot limits → IsProperTree limits root_alone
