-- A set of numbers from one range.
use Rattle.std.specs.Prelude.{◌≡◌, ℕ, ◌+◌, ◌<◌, ◌≤◌, true, false, refl}
use Rattle.std.specs.Ordering.{nat_cmp}
use Rattle.std.specs.Coded.{Coded, code_by, coded×, coded_ℕ}
use Rattle.std.specs.FinSet as set

-- the members, and the range that they are from: `count` numbers from `first` on
pub record Numbers : Type 0 where
  pub first : ℕ
  pub count : ℕ
  pub members : set.FinSet nat_cmp

-- such a set is stored as its fields
abbrev pub numbers_code : Coded Numbers
numbers_code =
    code_by (ℕ × (ℕ × set.FinSet nat_cmp)) (coded× coded_ℕ (coded× coded_ℕ (set.code coded_ℕ))) (λ s. (s.first, (s.count, s.members))) (λ p. record { first = p.0; count = p.1.0; members = p.1.1 }) (λ _. refl)

-- the number is in the range
abbrev pub IsInRange : Numbers → ℕ → Type 0
IsInRange s n = (s.first ≤ n) × (n < s.first + s.count)

-- each number of the range is a member
abbrev pub IsFull : Numbers → Type 0
IsFull s = (n : ℕ) → IsInRange s n → set.contains s.members n ≡ true

-- the number is in the range and is no member, and all before it in the range are members
pub record IsLeastMissing (s : Numbers) (n : ℕ) : Type 0 where
  pub in_range : IsInRange s n
  pub missing : set.contains s.members n ≡ false
  pub least : (m : ℕ) → s.first ≤ m → m < n → set.contains s.members m ≡ true
