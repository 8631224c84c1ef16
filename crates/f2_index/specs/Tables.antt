-- What the contracts of a table cite.
use Rattle.std.specs.Prelude.{◌≡◌, ℕ, ◌<◌, ◌≤◌, None, IsSome}
use Rattle.std.specs.Ordering.{nat_cmp}
use Rattle.std.specs.FinMap as map

-- the key is the greatest, and not below `from`
pub record IsLastFrom {X : Type 0} (m : map.FinMap nat_cmp X) (from key : ℕ) : Type 0 where
  pub from_here : from ≤ key
  pub there : IsSome (map.get m key)
  pub greatest : (other : ℕ) → key < other → map.get m other ≡ None
