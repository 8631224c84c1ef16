-- Names of rows, and paths of names.
use Rattle.std.specs.Prelude.{ℕ, ◌==◌, nat_le, Bool, not, ◌&&◌, ◌||◌, List, [], ◌∷◌, length}
use Rattle.std.specs.List.{list_all}
use Rattle.std.specs.Cmp.Lexicographic.{pointwise}

-- whether two names have the same bytes
abbrev pub same_name : List ℕ → List ℕ → Bool
same_name = pointwise ◌==◌

-- whether a byte may stand in a name: it is neither 0 nor `/`
abbrev pub is_name_byte : ℕ → Bool
is_name_byte byte = not (byte == 0) && not (byte == 47)

-- whether a name is `.` or `..`, which the kernel keeps for a directory and its parent
abbrev pub is_dots : List ℕ → Bool
is_dots name = same_name name (46 ∷ []) || same_name name (46 ∷ 46 ∷ [])

-- whether a name has 1 to 255 bytes that may stand in it, and isn't `.` or `..` (F2FS_NAME_LEN of f2fs_fs.h)
abbrev pub is_good_name : List ℕ → Bool
is_good_name name = nat_le 1 (length name) && nat_le (length name) 255 && list_all is_name_byte name && not (is_dots name)

-- whether a path has at most 16 names, all of them good
abbrev pub is_good_path : List (List ℕ) → Bool
is_good_path path = nat_le (length path) 16 && list_all is_good_name path
