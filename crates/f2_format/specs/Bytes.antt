-- Numbers in a block of bytes. Every number on disk stands with its lowest byte first, as the __le16, __le32
-- and __le64 of f2fs_fs.h do.
use Rattle.std.specs.Prelude.{◌≡◌, ◌^◌, ◌<◌, ◌≤◌, ◌⊎◌, ℕ, ◌+◌, ◌*◌, List, [], ◌∷◌, ◌++◌, map, length, take, drop, replicate}
use Rattle.std.specs.List.{range_with_len}
use Rattle.byteorder.specs.Endian.{little_number, little_bytes}

-- the bytes of a block (F2FS_BLKSIZE)
abbrev pub BLOCK_BYTES : ℕ
BLOCK_BYTES = 4096

-- the number in the n bytes from `at` on
unfoldable pub number_at : ℕ → List ℕ → ℕ → ℕ
number_at n block at = little_number n (drop at block)

-- the n bytes of a number
unfoldable pub number_bytes : ℕ → ℕ → List ℕ
number_bytes n number = little_bytes n number

-- the numbers of n bytes each that stand one after another from `at` on, so many
unfoldable pub numbers_at : ℕ → List ℕ → ℕ → ℕ → List ℕ
numbers_at n block at count = map (λ k. number_at n block (at + n * k)) (range_with_len 0 count)

-- the block with these bytes from `at` on, and every other byte as it was
unfoldable pub with_bytes : List ℕ → ℕ → List ℕ → List ℕ
with_bytes block at bytes = take at block ++ (bytes ++ drop (at + length bytes) block)

-- where a field begins, and its bytes
abbrev pub Field : Type 0
Field = ℕ × List ℕ

-- the block with each of these fields, and every other byte as it was
abbrev pub with_fields : List ℕ → List Field → List ℕ
with_fields block [] = block
with_fields block (field ∷ fields) = with_fields (with_bytes block field.0 field.1) fields

-- so many bytes, all 0
unfoldable pub zeros : ℕ → List ℕ
zeros n = replicate n 0

-- a number that was written is read
abbrev pub WrittenNumberReadsBack : Type 0
WrittenNumberReadsBack =
    (n : ℕ) (block : List ℕ) (at number : ℕ) → at ≤ length block → number < 256 ^ n
    → number_at n (with_bytes block at (number_bytes n number)) at ≡ number

-- a number that ends before the bytes written, or begins past them, stays
abbrev pub NumberElsewhereStays : Type 0
NumberElsewhereStays =
    (n : ℕ) (block : List ℕ) (at : ℕ) (bytes : List ℕ) (other : ℕ) → at + length bytes ≤ length block
    → (other + n ≤ at) ⊎ (at + length bytes ≤ other) → number_at n (with_bytes block at bytes) other ≡ number_at n block other
