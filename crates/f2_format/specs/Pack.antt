-- A checkpoint pack: its head, a summary and its tail, which has the same bytes as the head. That a pack
-- counts where head and tail agree, that there are two, and that the greater version counts is F2FS's
-- (validate_checkpoint and f2fs_get_valid_checkpoint of checkpoint.c); the fields of the head and the
-- conditions on them are this project's own. Bytes that no field covers are written as 0 and not looked at.
use Rattle.std.specs.Prelude.{◌≡◌, ℕ, ◌+◌, ◌*◌, ◌%◌, ◌^◌, ◌≤◌, ◌==◌, Bool, if◌then◌else◌, List, [], ◌∷◌, slice_range, IsTrue}
use Rattle.std.specs.Int.{bit_at}
use Rattle.f2_format.specs.Bytes.{BLOCK_BYTES, number_at, number_bytes, with_bytes, with_fields, zeros}
use Rattle.f2_format.specs.Geometry.{ImageGeometry, is_in_node}
use Rattle.f2_format.specs.Nat.{BITMAP_BYTES}
use Rattle.f2_format.specs.Seal.{SEAL_START, seal_of, stored_seal}

-- where the version stands, eight bytes
abbrev pub HEAD_VERSION : ℕ
HEAD_VERSION = 0

-- where the number of blocks of one copy of the node address table stands
abbrev pub HEAD_NAT : ℕ
HEAD_NAT = 8

-- where the address of the first block of the node log stands
abbrev pub HEAD_LOG_START : ℕ
HEAD_LOG_START = 12

-- where the flags stand
abbrev pub HEAD_FLAGS : ℕ
HEAD_FLAGS = 16

-- where the bitmap begins
abbrev pub HEAD_BITMAP : ℕ
HEAD_BITMAP = 64

-- the fields of a head but for its seal
pub record HeadFields : Type 0 where
  pub version : ℕ
  pub nat : ℕ
  pub log_start : ℕ
  pub flags : ℕ
  pub bitmap : List ℕ

-- the fields of the head in a block
abbrev pub head_of : List ℕ → HeadFields
head_of block =
    record {
      version = number_at 8 block HEAD_VERSION;
      nat = number_at 4 block HEAD_NAT;
      log_start = number_at 4 block HEAD_LOG_START;
      flags = number_at 4 block HEAD_FLAGS;
      bitmap = slice_range block HEAD_BITMAP (HEAD_BITMAP + BITMAP_BYTES);
    }

-- the head with these fields, its seal still 0
abbrev pub unsealed_head : HeadFields → List ℕ
unsealed_head head =
    with_fields (zeros BLOCK_BYTES)
    ((HEAD_VERSION, number_bytes 8 head.version)
    ∷ (HEAD_NAT, number_bytes 4 head.nat)
    ∷ (HEAD_LOG_START, number_bytes 4 head.log_start)
    ∷ (HEAD_FLAGS, number_bytes 4 head.flags)
    ∷ (HEAD_BITMAP, head.bitmap)
    ∷ [])

-- a block with its seal
abbrev pub sealed : List ℕ → List ℕ
sealed block = with_bytes block SEAL_START (number_bytes 4 (seal_of block))

-- the head with these fields
abbrev pub head_block : HeadFields → List ℕ
head_block head = sealed (unsealed_head head)

-- whether a head tells the newer of the two formats of an image, by bit 0 of its flags; the other bits are written as 0 and not
-- looked at
abbrev pub is_newer_format : HeadFields → Bool
is_newer_format head = bit_at head.flags 0 == 1

abbrev pub NEWER_FORMAT : ℕ
NEWER_FORMAT = 1

-- the seal of the head that is written with these fields, in the newer format
abbrev pub written_seal : HeadFields → ℕ
written_seal head = seal_of (unsealed_head (record head { flags = NEWER_FORMAT }))

-- The version that a block of the node log carries after a checkpoint with this head: the checkpoint's own, and in the newer format
-- also the seal of the head in the upper half, so that two checkpoints of one version, made from copies of one image, are told
-- apart. (cur_cp_version of f2fs.h in the same way takes the check sum of the checkpoint.)
abbrev pub recovery_version_of : HeadFields → ℕ
recovery_version_of head = if is_newer_format head then (head.version + 2 ^ 32 * written_seal head) % 2 ^ 64 else head.version

-- a pack with this head and this tail counts in an image of this size
pub record IsPack (geom : ImageGeometry) (head tail : List ℕ) : Type 0 where
  pub seal : stored_seal head ≡ seal_of head
  pub same : tail ≡ head
  pub version : 1 ≤ (head_of head).version
  pub nat : (head_of head).nat ≡ geom.nat
  pub log_start : IsTrue (is_in_node geom (head_of head).log_start)
