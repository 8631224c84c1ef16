-- The footer of a node: `struct node_footer` of f2fs_fs.h, with the bits of its flag (OFFSET_BIT_SHIFT and
-- the enum beside it). The cold bit, bit 0, is written as 0 and not looked at.
use Rattle.std.specs.Prelude.{ℕ, ◌+◌, ◌*◌, ◌/◌, ◌==◌, Bool, if◌then◌else◌, List, [], ◌∷◌}
use Rattle.std.specs.Int.{bit_at}
use Rattle.f2_format.specs.Bytes.{number_at, number_bytes, Field}

-- where a node's own bytes end and its footer begins
abbrev pub FOOTER_START : ℕ
FOOTER_START = 4072

-- node_footer.nid
abbrev pub FOOTER_NID : ℕ
FOOTER_NID = 4072

-- node_footer.ino
abbrev pub FOOTER_INO : ℕ
FOOTER_INO = 4076

-- node_footer.flag
abbrev pub FOOTER_FLAG : ℕ
FOOTER_FLAG = 4080

-- node_footer.cp_ver
abbrev pub FOOTER_VERSION : ℕ
FOOTER_VERSION = 4084

-- node_footer.next_blkaddr
abbrev pub FOOTER_NEXT : ℕ
FOOTER_NEXT = 4092

-- the bit of the flag that is the fsync mark (FSYNC_BIT_SHIFT)
abbrev pub FSYNC_BIT : ℕ
FSYNC_BIT = 1

-- the bit of the flag that is the dentry mark (DENT_BIT_SHIFT)
abbrev pub DENTRY_BIT : ℕ
DENTRY_BIT = 2

-- the node's own number
abbrev pub footer_nid : List ℕ → ℕ
footer_nid block = number_at 4 block FOOTER_NID

-- the number of the inode of the file that has the node
abbrev pub footer_ino : List ℕ → ℕ
footer_ino block = number_at 4 block FOOTER_INO

-- the flag as it stands
abbrev pub footer_flag : List ℕ → ℕ
footer_flag block = number_at 4 block FOOTER_FLAG

-- the version of the checkpoint that the node was written after
abbrev pub footer_version : List ℕ → ℕ
footer_version block = number_at 8 block FOOTER_VERSION

-- the address of the next block of the node log, or 0
abbrev pub footer_next : List ℕ → ℕ
footer_next block = number_at 4 block FOOTER_NEXT

-- the place of a node among the nodes of its file, as a flag has it
abbrev pub flag_offset : ℕ → ℕ
flag_offset flag = flag / 8

-- whether this bit of a flag is 1
abbrev pub flag_has : ℕ → ℕ → Bool
flag_has flag bit = bit_at flag bit == 1

-- the place of the node among the nodes of its file: the inode is 0
abbrev pub footer_offset : List ℕ → ℕ
footer_offset block = flag_offset (footer_flag block)

-- whether the node ends an fsync (is_fsync_dnode)
abbrev pub has_fsync_mark : List ℕ → Bool
has_fsync_mark block = flag_has (footer_flag block) FSYNC_BIT

-- whether recovery has to enter the file into its directory (is_dent_dnode)
abbrev pub has_dentry_mark : List ℕ → Bool
has_dentry_mark block = flag_has (footer_flag block) DENTRY_BIT

-- the flag of a node at this offset with these marks
abbrev pub flag_of : ℕ → Bool → Bool → ℕ
flag_of offset fsync dentry = 8 * offset + (if dentry then 4 else 0) + (if fsync then 2 else 0)

-- the fields of a footer: nid, ino, flag, version and next address
abbrev pub footer_fields : ℕ → ℕ → ℕ → ℕ → ℕ → List Field
footer_fields nid ino flag version next =
    (FOOTER_NID, number_bytes 4 nid)
    ∷ (FOOTER_INO, number_bytes 4 ino)
    ∷ (FOOTER_FLAG, number_bytes 4 flag)
    ∷ (FOOTER_VERSION, number_bytes 8 version)
    ∷ (FOOTER_NEXT, number_bytes 4 next)
    ∷ []
