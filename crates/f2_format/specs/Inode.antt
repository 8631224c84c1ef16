-- An inode, and the nodes of addresses and nids below it: `struct f2fs_inode`, `struct direct_node` and
-- `struct indirect_node` of f2fs_fs.h. Only the fields named here are used; the others are written as 0 and
-- not looked at. i_links, i_blocks and the root's i_pino are written as this project's own rules say.
use Rattle.std.specs.Prelude.{ℕ, ◌+◌, ◌*◌, ◌/◌, List, [], ◌∷◌, slice_range}
use Rattle.std.specs.List.{flat_map}
use Rattle.f2_format.specs.Bytes.{BLOCK_BYTES, number_at, number_bytes, numbers_at, with_bytes, with_fields, zeros}
use Rattle.f2_format.specs.Footer.{FOOTER_START}
use Rattle.f2_format.specs.Offsets.{inode_pages, page_limit}

-- i_mode, two bytes
abbrev pub INODE_MODE : ℕ
INODE_MODE = 0

-- i_links
abbrev pub INODE_LINKS : ℕ
INODE_LINKS = 12

-- i_size, eight bytes
abbrev pub INODE_SIZE : ℕ
INODE_SIZE = 16

-- i_blocks, eight bytes
abbrev pub INODE_BLOCKS : ℕ
INODE_BLOCKS = 24

-- i_pino
abbrev pub INODE_PARENT : ℕ
INODE_PARENT = 84

-- i_namelen
abbrev pub INODE_NAME_LENGTH : ℕ
INODE_NAME_LENGTH = 88

-- i_name
abbrev pub INODE_NAME : ℕ
INODE_NAME = 92

-- the bytes of i_name, and the longest name (F2FS_NAME_LEN)
abbrev pub NAME_BYTES : ℕ
NAME_BYTES = 255

-- i_addr
abbrev pub INODE_ADDRESSES : ℕ
INODE_ADDRESSES = 360

-- i_nid: two direct nodes, two indirect nodes, one double indirect node
abbrev pub INODE_NIDS : ℕ
INODE_NIDS = 4052

-- the nids of an inode (DEF_NIDS_PER_INODE)
abbrev pub NIDS_AN_INODE : ℕ
NIDS_AN_INODE = 5

-- the mode of a regular file: S_IFREG, and read by all but written by its owner
abbrev pub REGULAR_MODE : ℕ
REGULAR_MODE = 0x81A4

-- the mode of a directory: S_IFDIR, and read and searched by all but written by its owner
abbrev pub DIRECTORY_MODE : ℕ
DIRECTORY_MODE = 0x41ED

-- the bits of a mode that tell the kind of a file (S_IFMT)
abbrev pub mode_kind : ℕ → ℕ
mode_kind mode = mode / 4096

-- the kind of a regular file
abbrev pub REGULAR_KIND : ℕ
REGULAR_KIND = 8

-- the kind of a directory
abbrev pub DIRECTORY_KIND : ℕ
DIRECTORY_KIND = 4

-- the bytes of the longest file
abbrev pub SIZE_LIMIT : ℕ
SIZE_LIMIT = page_limit * BLOCK_BYTES

-- the fields of an inode that are used: the name is all 255 bytes of i_name
pub record InodeFields : Type 0 where
  pub mode : ℕ
  pub links : ℕ
  pub size : ℕ
  pub blocks : ℕ
  pub parent : ℕ
  pub name_length : ℕ
  pub name : List ℕ
  pub addresses : List ℕ
  pub nids : List ℕ

-- the fields of the inode in a block
abbrev pub inode_of : List ℕ → InodeFields
inode_of block =
    record {
      mode = number_at 2 block INODE_MODE;
      links = number_at 4 block INODE_LINKS;
      size = number_at 8 block INODE_SIZE;
      blocks = number_at 8 block INODE_BLOCKS;
      parent = number_at 4 block INODE_PARENT;
      name_length = number_at 4 block INODE_NAME_LENGTH;
      name = slice_range block INODE_NAME (INODE_NAME + NAME_BYTES);
      addresses = numbers_at 4 block INODE_ADDRESSES inode_pages;
      nids = numbers_at 4 block INODE_NIDS NIDS_AN_INODE;
    }

-- the bytes of an inode, up to its footer
abbrev pub inode_bytes : InodeFields → List ℕ
inode_bytes inode =
    with_fields (zeros FOOTER_START)
    ((INODE_MODE, number_bytes 2 inode.mode)
    ∷ (INODE_LINKS, number_bytes 4 inode.links)
    ∷ (INODE_SIZE, number_bytes 8 inode.size)
    ∷ (INODE_BLOCKS, number_bytes 8 inode.blocks)
    ∷ (INODE_PARENT, number_bytes 4 inode.parent)
    ∷ (INODE_NAME_LENGTH, number_bytes 4 inode.name_length)
    ∷ (INODE_NAME, inode.name)
    ∷ (INODE_ADDRESSES, flat_map (number_bytes 4) inode.addresses)
    ∷ (INODE_NIDS, flat_map (number_bytes 4) inode.nids)
    ∷ [])

-- the word of a direct or an indirect node: direct_node.addr[slot], indirect_node.nid[slot]
abbrev pub node_word : List ℕ → ℕ → ℕ
node_word block slot = number_at 4 block (4 * slot)

-- the node with this word in this slot
abbrev pub with_node_word : List ℕ → ℕ → ℕ → List ℕ
with_node_word block slot word = with_bytes block (4 * slot) (number_bytes 4 word)
