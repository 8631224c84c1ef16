-- How numbers, names and paths look in a script and in what is printed.
use Rattle.std.specs.Prelude.{ℕ, ◌+◌, ◌/◌, ◌%◌, Bool, not, ◌&&◌, nat_le, ◌==◌, List, [], ◌∷◌, map, if◌then◌else◌}
use Rattle.std.specs.List.{flat_map, join_with_byte}

-- a byte that a name shows as itself: 33 to 126, but for `%` and `/`
abbrev pub is_plain : ℕ → Bool
is_plain b = nat_le 33 b && nat_le b 126 && not (b == 37) && not (b == 47)

-- an upper-case hexadecimal digit
abbrev pub upper_digit : ℕ → ℕ
upper_digit d = if nat_le 10 d then 55 + d else 48 + d

-- a lower-case hexadecimal digit
abbrev pub lower_digit : ℕ → ℕ
lower_digit d = if nat_le 10 d then 87 + d else 48 + d

-- a byte as `%` and two hexadecimal digits
abbrev pub escape : ℕ → List ℕ
escape b = 37 ∷ upper_digit (b / 16) ∷ upper_digit (b % 16) ∷ []

-- a byte of a name as it is shown: itself, or `%` and two hexadecimal digits
abbrev pub byte_text : ℕ → List ℕ
byte_text b = if is_plain b then b ∷ [] else escape b

-- a name as it is shown
abbrev pub name_text : List ℕ → List ℕ
name_text name = flat_map byte_text name

-- a path: a `/` before each of its names; the root is a `/` alone
abbrev pub path_text : List (List ℕ) → List ℕ
path_text path = 47 ∷ join_with_byte 47 (map name_text path)
