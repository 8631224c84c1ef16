-- The bytes of a file's nodes before their footers, as fs/f2fs/inode.c and node.c leave them.
use Rattle.std.specs.Prelude.{◌≡◌, ◌≢◌, ℕ, ◌-◌, ◌<◌, ◌+◌, ◌==◌, if◌then◌else◌, List, ◌++◌, map as map_list, length, take, IsSome, IsTrue}
use Rattle.std.specs.List.{flat_map, range_with_len}
use Rattle.std.specs.Option.{unwrap_or}
use Rattle.std.specs.Ordering.{nat_cmp}
use Rattle.std.specs.FinMap as map
use Rattle.std.specs.FinSet as set
use Rattle.f2_format.specs.Bytes.{number_bytes, zeros}
use Rattle.f2_format.specs.Footer.{FOOTER_START}
use Rattle.f2_format.specs.Inode.{InodeFields, NAME_BYTES, inode_of, inode_bytes, node_word}
use Rattle.f2_format.specs.Offsets.{inode_pages, node_slots}
use Rattle.f2_index.specs.Paged.{nodes_of_pages}
use Rattle.f2_node_block.specs.Inodes.{mode_of, links_of}
use Rattle.f2_blocks.specs.Tree.{nodes_of_inode, has_nids, node_at, first_page_of}
use Rattle.f2_blocks.specs.declared.rows.NodeRow.{NodeRow}

-- a map from page to address, or from a node's offset to its nid
abbrev pub Numbered : Type 0
Numbered = map.FinMap nat_cmp ℕ

-- each node below the inode that the pages need has a nid
abbrev pub HaveNids : Numbered → Numbered → Type 0
HaveNids pages nids = (offset : ℕ) → offset ≢ 0 → IsTrue (set.contains (nodes_of_pages pages) offset) → IsSome (map.get nids offset)

-- the address of a page; 0 where the file hasn't the page
abbrev pub address_of : Numbered → ℕ → ℕ
address_of pages page = unwrap_or (map.get pages page) 0

-- the nid by which the node above names a node; 0 where the file hasn't the node
abbrev pub nid_of : Numbered → Numbered → ℕ → ℕ
nid_of pages nids offset = if set.contains (nodes_of_pages pages) offset then unwrap_or (map.get nids offset) 0 else 0

-- the word in a slot of a node below the inode: a node's nid, or a page's address
abbrev pub word_of : Numbered → Numbered → ℕ → ℕ → ℕ
word_of pages nids offset slot =
    if has_nids offset then nid_of pages nids (node_at offset slot)
    else address_of pages (first_page_of offset + slot)

-- the words of the first slots, so many
unfoldable pub words_of : (ℕ → ℕ) → ℕ → List ℕ
words_of word count = map_list word (range_with_len 0 count)

-- the fields of a file's inode
abbrev pub fields_of : NodeRow → Numbered → Numbered → InodeFields
fields_of row pages nids =
    record {
      mode = mode_of row.kind;
      links = links_of row.kind;
      size = row.size;
      blocks = row.blocks;
      parent = row.pino;
      name_length = length row.name.now;
      name = row.name.now ++ zeros (NAME_BYTES - length row.name.now);
      addresses = words_of (address_of pages) inode_pages;
      nids = map_list (nid_of pages nids) nodes_of_inode;
    }

-- the bytes of a node: an inode's fields, or the words of its slots
abbrev pub node_bytes : NodeRow → Numbered → Numbered → ℕ → List ℕ
node_bytes row pages nids offset =
    if offset == 0 then inode_bytes (fields_of row pages nids)
    else flat_map (number_bytes 4) (words_of (word_of pages nids offset) node_slots)

-- what a reader gets back from a node's block: the inode's fields, or the word in each slot
pub record ReadsAs (row : NodeRow) (pages nids : Numbered) (offset : ℕ) (block : List ℕ) : Type 0 where
  pub inode : offset ≡ 0 → inode_of block ≡ fields_of row pages nids
  pub words : offset ≢ 0 → (slot : ℕ) → slot < node_slots → node_word block slot ≡ word_of pages nids offset slot

-- a block reads as a node where its bytes before the footer are those of a block that does
abbrev pub FootersChangeNoReading : Type 0
FootersChangeNoReading =
    (row : NodeRow) (pages nids : Numbered) (offset : ℕ) (old new : List ℕ)
    → length new ≡ length old → take FOOTER_START new ≡ take FOOTER_START old
    → ReadsAs row pages nids offset old → ReadsAs row pages nids offset new
