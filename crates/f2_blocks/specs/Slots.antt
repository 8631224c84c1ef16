-- What the slots of a node stand for, as values of the program.
use Rattle.std.specs.Prelude.{◌≡◌, ℕ, ◌+◌, ◌*◌, ◌<◌, ◌≤◌, true, false}
use Rattle.f2_format.specs.Offsets.{node_slots, page_limit}
use Rattle.f2_blocks.specs.Blocks.{Numbered, address_of, nid_of}
use Rattle.f2_blocks.specs.Tree.{first_page_of, has_nids, node_at, node_limit}
use Rattle.f2_blocks.specs.declared.tree.Slots.{Slots}
use Rattle.f2_blocks.specs.declared.tree.Slots.TheVariants.{Pages, Nodes}

-- the slots of the node stand for these pages
pub record ArePagesOf (offset first : ℕ) : Type 0 where
  pub kind : has_nids offset ≡ false
  pub is : first ≡ first_page_of offset

-- the slots of the node stand for these nodes
pub record AreNodesOf (offset first apart : ℕ) : Type 0 where
  pub kind : has_nids offset ≡ true
  pub each : (slot : ℕ) → slot < node_slots → first + slot * apart ≡ node_at offset slot

-- this is what the slots of the node stand for
abbrev pub IsSlotsOf : ℕ → Slots → Type 0
IsSlotsOf offset (Pages first) = ArePagesOf offset first
IsSlotsOf offset (Nodes first apart) = AreNodesOf offset first apart

-- the nodes are below the inode and within a file's limit
pub record AreNodesWithin (first apart : ℕ) : Type 0 where
  pub below : 0 < first
  pub limit : (slot : ℕ) → slot < node_slots → first + slot * apart < node_limit

-- the pages or nodes are within a file's limits
abbrev pub AreWithin : Slots → Type 0
AreWithin (Pages first) = first + node_slots ≤ page_limit
AreWithin (Nodes first apart) = AreNodesWithin first apart

-- the word in a slot
abbrev pub word_in : Numbered → Numbered → Slots → ℕ → ℕ
word_in pages nids (Pages first) slot = address_of pages (first + slot)
word_in pages nids (Nodes first apart) slot = nid_of pages nids (first + slot * apart)
