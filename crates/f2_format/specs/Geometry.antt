-- Where the parts of an image stand. The order of the parts (superblock, checkpoint packs, node address
-- table, main area) is F2FS's; the sizes, the two zones of the main area and the limits are this project's
-- own. An address is the number of a block, and the address 0 means that there is no block (NULL_ADDR).
use Rattle.std.specs.Prelude.{◌≤◌, ℕ, ◌+◌, ◌-◌, ◌*◌, ◌/◌, nat_lt, Bool, not, ◌||◌, ◌&&◌, if◌then◌else◌}

-- the blocks of an image, and those of one copy of its node address table
pub record ImageGeometry : Type 0 where
  pub blocks : ℕ
  pub nat : ℕ

-- the fewest blocks that an image has
abbrev pub LEAST_BLOCKS : ℕ
LEAST_BLOCKS = 128

-- the most blocks that an image has
abbrev pub MOST_BLOCKS : ℕ
MOST_BLOCKS = 65536

-- the most blocks of one copy of the node address table
abbrev pub MOST_NAT : ℕ
MOST_NAT = 1024

-- the fewest blocks of a third of the node zone
abbrev pub LEAST_NODE_THIRD : ℕ
LEAST_NODE_THIRD = 4

-- the entries of a block of the node address table (NAT_ENTRY_PER_BLOCK)
abbrev pub ENTRIES_A_NAT_BLOCK : ℕ
ENTRIES_A_NAT_BLOCK = 455

-- where pack A begins: its head, its summary and its tail
abbrev pub PACK_A : ℕ
PACK_A = 2

-- where pack B begins
abbrev pub PACK_B : ℕ
PACK_B = 5

-- where the node address table begins: its first copies, and then its second copies
abbrev pub NAT_START : ℕ
NAT_START = 8

-- the blocks that are left for the zones
abbrev pub main_blocks : ImageGeometry → ℕ
main_blocks geom = geom.blocks - NAT_START - 2 * geom.nat

-- a third of the node zone: at most so many nodes a tree has, a log is long and a checkpoint writes
abbrev pub node_third : ImageGeometry → ℕ
node_third geom = main_blocks geom / 12

-- a third of the data zone: the same for data blocks
abbrev pub data_third : ImageGeometry → ℕ
data_third geom = (main_blocks geom - 3 * node_third geom) / 3

-- the first block of the node zone
abbrev pub node_start : ImageGeometry → ℕ
node_start geom = NAT_START + 2 * geom.nat

-- the first block of the data zone
abbrev pub data_start : ImageGeometry → ℕ
data_start geom = node_start geom + 3 * node_third geom

-- the address is in the node zone
abbrev pub is_in_node : ImageGeometry → ℕ → Bool
is_in_node geom at = not (nat_lt at (node_start geom)) && nat_lt at (node_start geom + 3 * node_third geom)

-- the address is in the data zone
abbrev pub is_in_data : ImageGeometry → ℕ → Bool
is_in_data geom at = not (nat_lt at (data_start geom)) && nat_lt at (data_start geom + 3 * data_third geom)

-- the address of a block of the node address table, in its first or its second copy
abbrev pub nat_address : ImageGeometry → ℕ → Bool → ℕ
nat_address geom block second = NAT_START + block + (if second then geom.nat else 0)

-- the numbers that a node can have are below this: one for each entry of the node address table
abbrev pub nid_limit : ImageGeometry → ℕ
nid_limit geom = ENTRIES_A_NAT_BLOCK * geom.nat

-- too few blocks, or too many
abbrev pub breaks_blocks : ImageGeometry → Bool
breaks_blocks geom = nat_lt geom.blocks LEAST_BLOCKS || nat_lt MOST_BLOCKS geom.blocks

-- no node address table, or too long a one
abbrev pub breaks_nat : ImageGeometry → Bool
breaks_nat geom = nat_lt geom.nat 1 || nat_lt MOST_NAT geom.nat

-- the zones are too small
abbrev pub breaks_zones : ImageGeometry → Bool
breaks_zones geom = nat_lt (node_third geom) LEAST_NODE_THIRD

-- too few nids for the node zone: 0 to 3 are no nid that is given out
abbrev pub breaks_nids : ImageGeometry → Bool
breaks_nids geom = nat_lt (nid_limit geom) (3 * node_third geom + 4)

-- sizes that break no limit
pub record IsGeometry (geom : ImageGeometry) : Type 0 where
  pub least_blocks : LEAST_BLOCKS ≤ geom.blocks
  pub most_blocks : geom.blocks ≤ MOST_BLOCKS
  pub least_nat : 1 ≤ geom.nat
  pub most_nat : geom.nat ≤ MOST_NAT
  pub zones : LEAST_NODE_THIRD ≤ node_third geom
  pub nids : 3 * node_third geom + 4 ≤ nid_limit geom
