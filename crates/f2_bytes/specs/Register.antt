-- The register by which the seal is computed: 32 coefficients of a polynomial as a number, the highest power
-- in the lowest bit.
use Rattle.std.specs.Prelude.{ℕ, zero, suc, ◌/◌, ◌%◌, ◌==◌, if◌then◌else◌, List, fold, bit_xor}
use Rattle.f2_format.specs.Seal.{SEAL_POLYNOMIAL, SEAL_SEED}

-- the register once its highest power was divided away
unfoldable pub shifted_of : ℕ → ℕ
shifted_of register = if register % 2 == 1 then bit_xor (register / 2) SEAL_POLYNOMIAL else register / 2

-- the same for the n highest powers
unfoldable pub shifted_times : ℕ → ℕ → ℕ
shifted_times zero register = register
shifted_times (suc n) register = shifted_of (shifted_times n register)

-- the register once a byte was taken in
unfoldable pub register_with : ℕ → ℕ → ℕ
register_with register byte = shifted_times 8 (bit_xor register byte)

-- the register once these bytes were taken in
abbrev pub register_after : List ℕ → ℕ
register_after bytes = fold register_with SEAL_SEED bytes
