-- How the direct nodes are stored: a table, and a list of the dirty ones.
use Rattle.std.specs.Prelude.{◌≡◌, ℕ, ◌<◌, ◌≤◌, List, length, Option, None, Some, is_some, slice_index, map as list_map}
use Rattle.std.specs.Ordering.{nat_cmp}
use Rattle.std.specs.FinMap as map
use Rattle.f2_index.specs.Nodes.{Nodes}
use Rattle.f2_index.specs.declared.nodes.Node.{Node}
use Rattle.f2_index.specs.declared.nodes.Slot.{Slot}

-- a map from a direct node's offset to how it is stored
abbrev pub Slots : Type 0
Slots = map.FinMap nat_cmp Slot

-- a node's place in the list of the dirty ones, where it has one
abbrev pub place_of : Option Slot → Option ℕ
place_of None = None
place_of (Some slot) = slot.place

-- a node is dirty where it has a place in the list
abbrev pub node_of : Slot → Node
node_of slot = record { pages = slot.pages; dirty = is_some slot.place }

-- the nodes that are stored so
abbrev pub nodes_of : Slots → Nodes
nodes_of slots = map.from_entries (list_map (λ (e : ℕ × Slot). (e.0, node_of e.1)) (map.entries slots))

-- each offset with a place stands there in the list, and the list has no other offset and none twice
pub record AreListed (places : ℕ → Option ℕ) (offsets : List ℕ) : Type 0 where
  pub placed : (offset place : ℕ) → places offset ≡ Some place → (place < length offsets) × (slice_index offsets place ≡ offset)
  pub listed : (place : ℕ) → place < length offsets → places (slice_index offsets place) ≡ Some place

-- the list is that of the dirty nodes, and has room for the offsets of all
pub record AreKept (slots : Slots) (offsets : List ℕ) (capacity : ℕ) : Type 0 where
  pub are_listed : AreListed (λ offset. place_of (map.get slots offset)) offsets
  pub room : map.len slots ≤ capacity
