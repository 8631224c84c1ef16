-- A bitmap of 64-bit words as a set of numbers.
use Rattle.std.specs.Prelude.{◌≡◌, ℕ, zero, suc, ◌+◌, ◌*◌, ◌/◌, ◌%◌, ◌^◌, ◌<◌, Bool, true, cond, List, length, nat_eq, slice_index}
use Rattle.std.specs.Int.{bit_at}
use Rattle.std.specs.Ordering.{nat_cmp}
use Rattle.std.specs.FinSet as set

-- whether bit k is set, counted from the lowest bit of the first word
abbrev pub has_bit : List ℕ → ℕ → Bool
has_bit words k = nat_eq (bit_at (slice_index words (k / 64)) (k % 64)) 1

-- the numbers first + k of those k below count that pass the test
unfoldable pub numbers_where : ℕ → ℕ → (ℕ → Bool) → set.FinSet nat_cmp
numbers_where first zero test = set.empty
numbers_where first (suc k) test =
    cond (test k) (set.insert (numbers_where first k test) (first + k)) (numbers_where first k test)

-- the numbers whose bits are set
abbrev pub members_of : ℕ → ℕ → List ℕ → set.FinSet nat_cmp
members_of first count words = numbers_where first count (has_bit words)

-- each bit before this word is set, of those that stand for a number
abbrev pub AreFullBelow : ℕ → List ℕ → ℕ → Type 0
AreFullBelow count words low = (k : ℕ) → k < count → k < 64 * low → has_bit words k ≡ true

-- what holds of the fields of a bitmap
pub record IsBitmap (first count len low : ℕ) (words : List ℕ) : Type 0 where
  pub fits : first + count < 2 ^ 32
  pub sized : length words ≡ (count + 63) / 64
  pub counted : len ≡ set.len (members_of first count words)
  pub full : AreFullBelow count words low
