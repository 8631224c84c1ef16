-- Checkpoint packs as values of the program, the pack of a side of an image, and the newest of two. That there are
-- two, and that the greater version counts, is F2FS's (f2fs_get_valid_checkpoint of checkpoint.c).
use Rattle.std.specs.Prelude.{◌≡◌, ℕ, ◌+◌, nat_lt, if◌then◌else◌, List, [], slice_index_or, Option, Some, None}
use Rattle.f2_format.specs.Geometry.{ImageGeometry, PACK_A, PACK_B}
use Rattle.f2_format.specs.Pack.{HeadFields, IsPack, head_of}
use Rattle.f2_pack.specs.declared.heads.Head.{Head}
use Rattle.f2_pack.specs.declared.packs.Pack.{Pack}
use Rattle.f2_pack.specs.declared.packs.Side.{Side}
use Rattle.f2_pack.specs.declared.packs.Side.TheVariants.{A, B}

-- where the pack of a side begins
abbrev pub pack_start : Side → ℕ
pack_start A = PACK_A
pack_start B = PACK_B

-- the fields of a head, in an image with so many blocks in each copy of its node address table
abbrev pub fields_of : Head → ℕ → HeadFields
fields_of head nat =
    record { version = head.version; nat = nat; log_start = head.log_start; flags = head.flags; bitmap = head.bitmap }

-- the head with these fields
abbrev pub value_of : HeadFields → Head
value_of fields =
    record { version = fields.version; log_start = fields.log_start; flags = fields.flags; bitmap = fields.bitmap }

-- the block of an image at this address
abbrev pub block_at : List (List ℕ) → ℕ → List ℕ
block_at image at = slice_index_or image at []

-- the pack on a side of an image that is valid: the fields of its head, and its summary
abbrev pub pack_at : List (List ℕ) → ℕ → Pack
pack_at image start = record { head = value_of (head_of (block_at image start)); summary = block_at image (start + 1) }

-- the pack on a side of an image is valid
abbrev pub IsValid : ImageGeometry → List (List ℕ) → ℕ → Type 0
IsValid geom image start = IsPack geom (block_at image start) (block_at image (start + 2))

-- the pack on a side of an image, and none where that isn't valid
abbrev pub IsPackOf : ImageGeometry → List (List ℕ) → Side → Option Pack → Type 0
IsPackOf geom image side None = ¬ (IsValid geom image (pack_start side))
IsPackOf geom image side (Some pack) = IsValid geom image (pack_start side) × (pack ≡ pack_at image (pack_start side))

-- the newest of the packs of both sides, with its side: that of the greater version, and A's where both have the same
abbrev pub newest_of : Option Pack → Option Pack → Option (Pack × Side)
newest_of None None = None
newest_of (Some a) None = Some (a, A)
newest_of None (Some b) = Some (b, B)
newest_of (Some a) (Some b) = if nat_lt a.head.version b.head.version then Some (b, B) else Some (a, A)
