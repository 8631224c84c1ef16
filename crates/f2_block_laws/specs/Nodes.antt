-- A block that reads as a node of a file is the block of that node, at the places of a tree.
use Rattle.std.specs.Prelude.{◌≡◌, ◌≢◌, ℕ, ◌<◌, ◌≤◌, List, length}
use Rattle.f2_format.specs.Offsets.{page_limit}
use Rattle.f2_format.specs.Footer.{footer_nid, footer_ino, footer_offset}
use Rattle.f2_format.specs.Inode.{SIZE_LIMIT, NAME_BYTES}
use Rattle.f2_model.specs.declared.rows.Row.{Row}
use Rattle.f2_model.specs.declared.rows.Kind.TheVariants.{Regular}
use Rattle.f2_blocks.specs.Blocks.{Numbered, ReadsAs, address_of, nid_of}
use Rattle.f2_blocks.specs.Tree.{node_limit}
use Rattle.f2_blocks.specs.declared.rows.NodeRow.{NodeRow}
use Rattle.f2_stored.specs.Places.{NodeAt, Places, nid_at, page_at, IsNodeBlock, IsInodeOf}

-- the addresses of a file's pages and the nids of its nodes below the inode are those that the places tell
pub record TellTheSame (places : Places) (ino : ℕ) (pages nids : Numbered) : Type 0 where
  pub addresses : (page : ℕ) → page < page_limit → address_of pages page ≡ page_at places ino page
  pub numbers : (offset : ℕ) → offset ≢ 0 → offset < node_limit → nid_of pages nids offset ≡ nid_at places ino offset

-- the footer of a node
pub record HasFooter (ino offset nid : ℕ) (block : List ℕ) : Type 0 where
  pub is_nid : footer_nid block ≡ nid
  pub is_ino : footer_ino block ≡ ino
  pub is_offset : footer_offset block ≡ offset

-- what an inode is made from tells a row: its kind, and a file's size; size and name are no longer than an inode's may be
pub record TellsRow (made : NodeRow) (row : Row) : Type 0 where
  pub kind : made.kind ≡ row.kind
  pub own_size : row.kind ≡ Regular → made.size ≡ row.size
  pub most_size : made.size ≤ SIZE_LIMIT
  pub most_name : length made.name.now ≤ NAME_BYTES

-- a block that reads as a node and has its footer is the block of the node
abbrev pub NodesAreTheirBlocks : Type 0
NodesAreTheirBlocks =
    (places : Places) (ino offset : ℕ) (node : NodeAt) (made : NodeRow) (pages nids : Numbered) (block : List ℕ)
    → TellTheSame places ino pages nids → ReadsAs made pages nids offset block → HasFooter ino offset node.nid block
    → IsNodeBlock places ino offset node block

-- a block that reads as an inode which tells a row is the inode of the row
abbrev pub InodesAreRows : Type 0
InodesAreRows =
    (places : Places) (row : Row) (made : NodeRow) (pages nids : Numbered) (block : List ℕ)
    → TellTheSame places row.ino pages nids → ReadsAs made pages nids 0 block → TellsRow made row
    → IsInodeOf places row block
