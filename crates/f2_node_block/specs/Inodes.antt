-- An inode as a value of the program: the fields of `struct f2fs_inode` that are used, and the mode taken
-- for a kind of file.
use Rattle.std.specs.Prelude.{◌≡◌, ◌≤◌, ℕ, ◌-◌, ◌==◌, nat_lt, if◌then◌else◌, List, ◌++◌, take, slice_index, Option, Some, None, Result, Ok, Err}
use Rattle.f2_format.specs.Bytes.{zeros}
use Rattle.f2_format.specs.Inode.{InodeFields, mode_kind, NAME_BYTES, REGULAR_KIND, DIRECTORY_KIND, REGULAR_MODE, DIRECTORY_MODE, SIZE_LIMIT}
use Rattle.f2_model.specs.declared.rows.Kind.{Kind}
use Rattle.f2_model.specs.declared.rows.Kind.TheVariants.{Regular, Directory}
use Rattle.f2_node_block.specs.declared.inodes.Inode.{Inode}
use Rattle.f2_node_block.specs.declared.inodes.InodeFault.{InodeFault}
use Rattle.f2_node_block.specs.declared.inodes.InodeFault.TheVariants as fault

-- the kind of a file with this mode: a regular file or a directory (S_ISREG and S_ISDIR)
abbrev pub known_kind : ℕ → Option Kind
known_kind mode =
    if mode_kind mode == REGULAR_KIND then Some Regular
    else if mode_kind mode == DIRECTORY_KIND then Some Directory
    else None

-- the mode that a file of this kind is given
abbrev pub mode_of : Kind → ℕ
mode_of Regular = REGULAR_MODE
mode_of Directory = DIRECTORY_MODE

-- the links that a file of this kind is given (this project's own: a directory has two whatever it holds)
abbrev pub links_of : Kind → ℕ
links_of Regular = 1
links_of Directory = 2

-- the name of an inode, with zeros behind its length
abbrev pub padded_name : Inode → List ℕ
padded_name inode = take inode.name_len inode.name ++ zeros (NAME_BYTES - inode.name_len)

-- the fields that are written of an inode whose file has so many blocks
abbrev pub fields_of : Inode → ℕ → InodeFields
fields_of inode blocks =
    record {
      mode = mode_of inode.kind;
      links = links_of inode.kind;
      size = inode.size;
      blocks = blocks;
      parent = inode.pino;
      name_length = inode.name_len;
      name = padded_name inode;
      addresses = inode.addr;
      nids = inode.nid;
    }

-- the inode of this kind with these fields
abbrev pub inode_with : Kind → InodeFields → Inode
inode_with kind fields =
    record {
      kind = kind;
      size = fields.size;
      pino = fields.parent;
      name_len = fields.name_length;
      name = fields.name;
      addr = fields.addresses;
      nid = fields.nids;
    }

-- the inode with these fields, where the mode tells this kind, or what is first wrong with them
abbrev pub checked_with : Option Kind → InodeFields → Result Inode InodeFault
checked_with None fields = Err fault.Kind
checked_with (Some kind) fields =
    if nat_lt NAME_BYTES fields.name_length then Err fault.NameLength
    else if nat_lt SIZE_LIMIT fields.size then Err fault.SizeTooBig
    else Ok (inode_with kind fields)

-- the inode with these fields, or what is first wrong with them: kind, length of the name, size (this project's
-- own order)
abbrev pub checked_inode : InodeFields → Result Inode InodeFault
checked_inode fields = checked_with (known_kind fields.mode) fields

-- the bytes of i_name behind the name are all 0
abbrev pub IsPadded : Inode → Type 0
IsPadded inode = (k : ℕ) → inode.name_len ≤ k → slice_index inode.name k ≡ 0
