-- How few dentry blocks names take.
use Rattle.std.specs.Prelude.{ℕ, ◌+◌, ◌/◌, ◌≤◌, List, length, All}
use Rattle.f2_format.specs.Packing.{blocks_of_names}

-- a name has 1 to 255 bytes (F2FS_NAME_LEN of f2fs_fs.h)
abbrev pub HasNameLength : List ℕ → Type 0
HasNameLength name = (1 ≤ length name) × (length name ≤ 255)

-- names take at most a dentry block for each six of them
abbrev pub SixNamesABlock : Type 0
SixNamesABlock = (names : List (List ℕ)) → All HasNameLength names → blocks_of_names names ≤ (length names + 5) / 6
