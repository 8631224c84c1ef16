-- A block of a directory: `struct f2fs_dentry_block` and `struct f2fs_dir_entry` of f2fs_fs.h, read as
-- f2fs_fill_dentries of dir.c does. The hash of a name is written as 0 and not looked at. What is a fault is
-- this project's own.
use Rattle.std.specs.Prelude.{ℕ, zero, suc, ◌+◌, ◌-◌, ◌*◌, ◌/◌, ◌%◌, ◌^◌, ◌==◌, nat_le, Bool, not, ◌&&◌, ◌||◌, if◌then◌else◌, List, [], ◌∷◌, map, filter, find, length, slice_index, slice_set, slice_range, bit_or, Option}
use Rattle.std.specs.List.{list_all, range_with_len}
use Rattle.std.specs.Int.{bit_at}
use Rattle.f2_format.specs.Bytes.{BLOCK_BYTES, number_at, number_bytes, with_fields, zeros}
use Rattle.f2_format.specs.Inode.{NAME_BYTES}
use Rattle.f2_format.specs.Packing.{SLOTS_A_BLOCK, BYTES_A_SLOT, slots_of_name}

-- where the entries of the slots begin (f2fs_dentry_block.dentry)
abbrev pub DENTRY_ENTRIES : ℕ
DENTRY_ENTRIES = 30

-- the bytes of an entry: hash_code (4), ino (4), name_len (2), file_type (1)
abbrev pub DENTRY_ENTRY_BYTES : ℕ
DENTRY_ENTRY_BYTES = 11

-- where the slots of the names begin (f2fs_dentry_block.filename)
abbrev pub DENTRY_NAMES : ℕ
DENTRY_NAMES = 2384

-- the file type of a regular file (F2FS_FT_REG_FILE)
abbrev pub REGULAR_TYPE : ℕ
REGULAR_TYPE = 1

-- the file type of a directory (F2FS_FT_DIR)
abbrev pub DIRECTORY_TYPE : ℕ
DIRECTORY_TYPE = 2

-- a name of a directory, the ino that it is bound to, and the file's type
pub record Dentry : Type 0 where
  pub name : List ℕ
  pub ino : ℕ
  pub type : ℕ

-- the bit of a slot is 1 (dentry_bitmap, the lowest bit of a byte first)
abbrev pub is_slot_used : List ℕ → ℕ → Bool
is_slot_used block slot = bit_at (slice_index block (slot / 8)) (slot % 8) == 1

-- where the entry of a slot begins
abbrev pub entry_start : ℕ → ℕ
entry_start slot = DENTRY_ENTRIES + DENTRY_ENTRY_BYTES * slot

-- where a slot of the names begins
abbrev pub name_start : ℕ → ℕ
name_start slot = DENTRY_NAMES + BYTES_A_SLOT * slot

-- the length of the name that begins in a slot
abbrev pub dentry_name_length : List ℕ → ℕ → ℕ
dentry_name_length block slot = number_at 2 block (entry_start slot + 8)

-- the slots that it takes
abbrev pub dentry_slots : List ℕ → ℕ → ℕ
dentry_slots block slot = (dentry_name_length block slot + (BYTES_A_SLOT - 1)) / BYTES_A_SLOT

-- the type in the entry of a slot
abbrev pub dentry_type : List ℕ → ℕ → ℕ
dentry_type block slot = slice_index block (entry_start slot + 10)

-- the dentry that begins in a slot
abbrev pub dentry_at : List ℕ → ℕ → Dentry
dentry_at block slot =
    record {
      name = slice_range block (name_start slot) (name_start slot + dentry_name_length block slot);
      ino = number_at 4 block (entry_start slot + 4);
      type = dentry_type block slot;
    }

-- the first slot that no name which begins before this slot takes
unfoldable pub covered_to : List ℕ → ℕ → ℕ
covered_to block zero = 0
covered_to block (suc slot) =
    if is_slot_used block slot && nat_le (covered_to block slot) slot then slot + dentry_slots block slot
    else covered_to block slot

-- a name begins in a slot whose bit is 1 and that no earlier name takes
abbrev pub begins_name : List ℕ → ℕ → Bool
begins_name block slot = is_slot_used block slot && nat_le (covered_to block slot) slot

-- the name that begins in a slot is right: its length, its slots, their bits, and its type
abbrev pub is_good_dentry : List ℕ → ℕ → Bool
is_good_dentry block slot =
    nat_le 1 (dentry_name_length block slot) && nat_le (dentry_name_length block slot) NAME_BYTES
    && nat_le (slot + dentry_slots block slot) SLOTS_A_BLOCK
    && list_all (is_slot_used block) (range_with_len slot (dentry_slots block slot))
    && ((dentry_type block slot == REGULAR_TYPE) || (dentry_type block slot == DIRECTORY_TYPE))

-- the slots of a block
unfoldable pub all_slots : List ℕ
all_slots = range_with_len 0 SLOTS_A_BLOCK

-- the first slot in which a wrong name begins
abbrev pub dentry_fault : List ℕ → Option ℕ
dentry_fault block = find (λ slot. begins_name block slot && not (is_good_dentry block slot)) all_slots

-- the dentries of a block that has no fault, in the order of their slots
abbrev pub dentries_of : List ℕ → List Dentry
dentries_of block = map (dentry_at block) (filter (begins_name block) all_slots)

-- the block with the bit of this slot 1
abbrev pub with_slot_used : List ℕ → ℕ → List ℕ
with_slot_used block slot =
    slice_set block (slot / 8) (bit_or (slice_index block (slot / 8)) (2 ^ (slot % 8)))

-- the block with the bits of so many slots from this one on 1
abbrev pub with_slots_used : List ℕ → ℕ → ℕ → List ℕ
with_slots_used block slot zero = block
with_slots_used block slot (suc n) = with_slots_used (with_slot_used block slot) (slot + 1) n

-- the block with a dentry that begins in this slot
abbrev pub with_dentry : List ℕ → ℕ → Dentry → List ℕ
with_dentry block slot dentry =
    with_fields (with_slots_used block slot (slots_of_name dentry.name))
    ((entry_start slot + 4, number_bytes 4 dentry.ino)
    ∷ (entry_start slot + 8, number_bytes 2 (length dentry.name))
    ∷ (entry_start slot + 10, dentry.type ∷ [])
    ∷ (name_start slot, dentry.name)
    ∷ [])

-- a block with these dentries, each with the slot in which it begins, and 0 in every other byte
abbrev pub with_dentries : List ℕ → List (ℕ × Dentry) → List ℕ
with_dentries block [] = block
with_dentries block (placed ∷ rest) = with_dentries (with_dentry block placed.0 placed.1) rest

-- a block of a directory with these dentries at their slots
abbrev pub dentry_block : List (ℕ × Dentry) → List ℕ
dentry_block placed = with_dentries (zeros BLOCK_BYTES) placed
