-- The node address table: `struct f2fs_nat_entry` and `struct f2fs_nat_block` of f2fs_fs.h, the bitmap of
-- a checkpoint that says which copy of a block counts (f2fs_test_bit and f2fs_change_bit of f2fs.h). The
-- version of an entry is written as 0 and not looked at.
use Rattle.std.specs.Prelude.{ℕ, ◌+◌, ◌-◌, ◌*◌, ◌/◌, ◌%◌, ◌^◌, ◌==◌, Bool, List, ◌∷◌, ◌++◌, slice_index, slice_set, bit_xor}
use Rattle.std.specs.Int.{bit_at}
use Rattle.f2_format.specs.Bytes.{number_at, number_bytes, with_bytes}
use Rattle.f2_format.specs.Geometry.{ENTRIES_A_NAT_BLOCK}

-- the bytes of an entry: version (1), ino (4), block_addr (4)
abbrev pub NAT_ENTRY_BYTES : ℕ
NAT_ENTRY_BYTES = 9

-- what an entry tells of a node: the ino of its file, and its address, which is 0 where the nid is free
abbrev pub NodePlace : Type 0
NodePlace = ℕ × ℕ

-- the entry whose bytes begin at `at`
abbrev pub nat_entry_at : List ℕ → ℕ → NodePlace
nat_entry_at block at = (number_at 4 block (at + 1), number_at 4 block (at + 5))

-- the bytes of an entry
abbrev pub nat_entry_bytes : NodePlace → List ℕ
nat_entry_bytes entry = 0 ∷ (number_bytes 4 entry.0 ++ number_bytes 4 entry.1)

-- the entry at this place of a block of the table
abbrev pub nat_entry : List ℕ → ℕ → NodePlace
nat_entry block place = nat_entry_at block (NAT_ENTRY_BYTES * place)

-- the block of the table with this entry at this place
abbrev pub with_nat_entry : List ℕ → ℕ → NodePlace → List ℕ
with_nat_entry block place entry = with_bytes block (NAT_ENTRY_BYTES * place) (nat_entry_bytes entry)

-- the block of the table that has a nid
abbrev pub nat_block_of : ℕ → ℕ
nat_block_of nid = nid / ENTRIES_A_NAT_BLOCK

-- the place of a nid in its block
abbrev pub nat_place_of : ℕ → ℕ
nat_place_of nid = nid % ENTRIES_A_NAT_BLOCK

-- the bytes of the bitmap, one bit for each block that a table may have
abbrev pub BITMAP_BYTES : ℕ
BITMAP_BYTES = 128

-- the bit of its byte that belongs to a block of the table: the highest bit is the first
abbrev pub bitmap_shift : ℕ → ℕ
bitmap_shift block = 7 - block % 8

-- whether the second copy of a block counts
abbrev pub is_second_copy : List ℕ → ℕ → Bool
is_second_copy bitmap block = bit_at (slice_index bitmap (block / 8)) (bitmap_shift block) == 1

-- the bitmap once the other copy of a block counts
abbrev pub with_other_copy : List ℕ → ℕ → List ℕ
with_other_copy bitmap block =
    slice_set bitmap (block / 8) (bit_xor (slice_index bitmap (block / 8)) (2 ^ bitmap_shift block))
