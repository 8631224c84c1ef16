-- The seal of a block: the check sum that f2fs_crc32 makes, as the remainder of a division of polynomials
-- over the two-element field. A polynomial is the list of its coefficients, the highest power first. Which
-- bytes are sealed and where the seal stands is this project's own.
use Rattle.std.specs.Prelude.{ℕ, zero, suc, ◌+◌, ◌*◌, ◌==◌, Bool, false, not, if◌then◌else◌, List, [], ◌∷◌, ◌++◌, map, length, take, replicate}
use Rattle.std.specs.List.{flat_map, range_with_len}
use Rattle.std.specs.Int.{bit_at}
use Rattle.f2_format.specs.Bytes.{number_at}

-- the bytes of a block that are sealed, and where the seal stands
abbrev pub SEAL_START : ℕ
SEAL_START = 4092

-- the divisor but for its highest power, 32: bit 31 belongs to power 0 and bit 0 to power 31 (CRCPOLY_LE)
abbrev pub SEAL_POLYNOMIAL : ℕ
SEAL_POLYNOMIAL = 0xEDB88320

-- what is added to the first 32 coefficients before the division (F2FS_SUPER_MAGIC)
abbrev pub SEAL_SEED : ℕ
SEAL_SEED = 0xF2F52010

-- the lowest n bits of a number, the lowest first: bit 0 of a byte or word belongs to the highest power
abbrev pub coefficients : ℕ → ℕ → List Bool
coefficients n number = map (λ k. bit_at number k == 1) (range_with_len 0 n)

-- the number whose lowest bits these are
abbrev pub number_of_bits : List Bool → ℕ
number_of_bits [] = 0
number_of_bits (b ∷ bits) = (if b then 1 else 0) + 2 * number_of_bits bits

-- the sum of two coefficients
abbrev pub xor : Bool → Bool → Bool
xor a b = if a then not b else b

-- the first polynomial with the second added to its highest powers
abbrev pub add_to_front : List Bool → List Bool → List Bool
add_to_front [] others = []
add_to_front (a ∷ rest) [] = a ∷ rest
add_to_front (a ∷ rest) (b ∷ others) = xor a b ∷ add_to_front rest others

-- the divisor below its highest power
abbrev pub divisor : List Bool
divisor = coefficients 32 SEAL_POLYNOMIAL

-- long division, so many steps: each takes the highest power away, by taking the divisor once from the front
-- where that power is there
abbrev pub divided : ℕ → List Bool → List Bool
divided zero dividend = dividend
divided (suc steps) [] = []
divided (suc steps) (highest ∷ rest) = divided steps (if highest then add_to_front rest divisor else rest)

-- what is divided: the bits of these bytes and 32 powers below them, with the seed added to the front
abbrev pub sealed_polynomial : List ℕ → List Bool
sealed_polynomial bytes =
    add_to_front (flat_map (coefficients 8) bytes ++ replicate 32 false) (coefficients 32 SEAL_SEED)

-- the seal of these bytes: the remainder, 32 coefficients, as a number
unfoldable pub seal_of_bytes : List ℕ → ℕ
seal_of_bytes bytes = number_of_bits (divided (8 * length bytes) (sealed_polynomial bytes))

-- the seal that a block should have
abbrev pub seal_of : List ℕ → ℕ
seal_of block = seal_of_bytes (take SEAL_START block)

-- the seal that stands in a block
abbrev pub stored_seal : List ℕ → ℕ
stored_seal block = number_at 4 block SEAL_START
