-- The nodes of a file that a running volume takes over: those that its pages need.
use Rattle.std.specs.Prelude.{◌≡◌, ◌⊎◌, ℕ, ◌<◌, List, length, slice_index, slice_index_or, Option, Some, None}
use Rattle.std.specs.Ordering.{nat_cmp}
use Rattle.std.specs.FinMap as map
use Rattle.f2_overlay.specs.declared.rolls.Roll.{Roll}
use Rattle.f2_overlay.specs.declared.taking.NodeAt.{NodeAt}
use Rattle.f2_recover.specs.declared.nodes.PageAt.{PageAt}
use Rattle.f2_recover.specs.declared.rows.BaseRow.{BaseRow}
use Rattle.f2_recover.specs.Seeing.{no_page}
use Rattle.f2_shape.specs.Routes.{route_of}
use Rattle.f2_shape.specs.declared.path.Route.{Route}

-- the nodes of a file, by their offsets
abbrev pub Nodes : Type 0
Nodes = map.FinMap nat_cmp NodeAt

-- the node at an offset that the node log has, and that of the base
abbrev pub node_of_roll : Option Roll → ℕ → Option NodeAt
node_of_roll None offset = None
node_of_roll (Some roll) offset = map.get roll.nodes offset

abbrev pub with_address : Option ℕ → Option ℕ → Option NodeAt
with_address None at = None
with_address (Some nid) None = None
with_address (Some nid) (Some at) = Some (record { nid = nid; at = at })

abbrev pub node_of_base : Option BaseRow → ℕ → Option NodeAt
node_of_base None offset = None
node_of_base (Some row) offset = with_address (map.get row.file.nodes.nids offset) (map.get row.file.nodes.addresses offset)

-- the node that a file has at an offset: that of the log where recovery takes one, else the base's
abbrev pub or_base : Option NodeAt → Option NodeAt → Option NodeAt
or_base None base = base
or_base (Some told) base = Some told

abbrev pub node_from : Option Roll → Option BaseRow → ℕ → Option NodeAt
node_from roll base offset = or_base (node_of_roll roll offset) (node_of_base base offset)

-- an offset stands among so many first ones of a list
abbrev pub IsAmong : List ℕ → ℕ → ℕ → Type 0
IsAmong offsets count offset = (k : ℕ) × ((k < count) × (slice_index offsets k ≡ offset))

-- a node stands on the way from the inode down to a page
pub record IsOnWay (page offset : ℕ) : Type 0 where
  pub route : Route
  pub leads : route_of page ≡ Some route
  pub among : IsAmong route.nodes 4 offset

-- a file with so many first ones of these pages needs a node: it is the inode, or stands on the way to one of them
pub data IsNeededTo (pages : List PageAt) (count offset : ℕ) : Type 0 where
  inode : offset ≡ 0 → IsNeededTo pages count offset
  above : (k : ℕ) → k < count → IsOnWay (slice_index_or pages k no_page).page offset → IsNeededTo pages count offset

-- the nodes of a file are those that so many of its pages need, as far as log or base have them, and no others
pub record AreNodesTo (roll : Option Roll) (base : Option BaseRow) (pages : List PageAt) (count : ℕ) (nodes : Nodes) : Type 0 where
  pub all : (offset : ℕ) (told : NodeAt) → IsNeededTo pages count offset → node_from roll base offset ≡ Some told → map.get nodes offset ≡ Some told
  pub needed : (offset : ℕ) (told : NodeAt) → map.get nodes offset ≡ Some told → IsNeededTo pages count offset
  pub only : (offset : ℕ) (told : NodeAt) → map.get nodes offset ≡ Some told → node_from roll base offset ≡ Some told

abbrev pub AreNodesOf : Option Roll → Option BaseRow → List PageAt → Nodes → Type 0
AreNodesOf roll base pages nodes = AreNodesTo roll base pages (length pages) nodes

-- nodes with one more, where it is there
abbrev pub with_node : Nodes → ℕ → Option NodeAt → Nodes
with_node nodes offset None = nodes
with_node nodes offset (Some told) = map.insert nodes offset told

-- so many first offsets of a list were looked at: their nodes were taken, where the file has them
pub record AreTakenTo (roll : Option Roll) (base : Option BaseRow) (offsets : List ℕ) (count : ℕ) (old new : Nodes) : Type 0 where
  pub all : (offset : ℕ) (told : NodeAt) → IsAmong offsets count offset → node_from roll base offset ≡ Some told → map.get new offset ≡ Some told
  pub kept : (offset : ℕ) (told : NodeAt) → node_from roll base offset ≡ Some told → map.get old offset ≡ Some told → map.get new offset ≡ Some told
  pub only : (offset : ℕ) (told : NodeAt) → map.get new offset ≡ Some told → (map.get old offset ≡ Some told) ⊎ (IsAmong offsets count offset × (node_from roll base offset ≡ Some told))
