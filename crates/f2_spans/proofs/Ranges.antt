-- Numbers that rise by one.
use Rattle.std.proofs.Common.{◌≡◌, ℕ, suc, ◌+◌, ◌-◌, ◌<◌, ◌∷◌, ap, arith}
use Rattle.std.specs.List.{range_with_len}

-- the numbers from one up to another are the first and those behind it
pub range_step : (a b : ℕ) → a < b → range_with_len a (b - a) ≡ a ∷ range_with_len (a + 1) (b - (a + 1))
range_step a b below =
    let left : b - a ≡ suc (b - (a + 1)) = omega arith in
    ap (range_with_len a) left
