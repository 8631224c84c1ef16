-- The pages of a file that stand nearest to a number.
use Rattle.std.specs.Prelude.{◌≡◌, ℕ, ◌≤◌, true, false, Option, Some, None}
use Rattle.std.specs.FinMap as map
use Rattle.f2_files.specs.Cuts.{Addressed}

-- the greatest page up to a number
pub record IsLastTo (pages : Addressed) (to page : ℕ) : Type 0 where
  pub there : map.contains_key pages page ≡ true
  pub within : page ≤ to
  pub last : (other : ℕ) → map.contains_key pages other ≡ true → other ≤ to → other ≤ page

-- that one, or none where there is no page up to the number
abbrev pub IsMaybeLastTo : Addressed → ℕ → Option ℕ → Type 0
IsMaybeLastTo pages to (Some page) = IsLastTo pages to page
IsMaybeLastTo pages to None = (other : ℕ) → other ≤ to → map.contains_key pages other ≡ false

-- the least page from a number on
pub record IsFirstFrom (pages : Addressed) (from page : ℕ) : Type 0 where
  pub there : map.contains_key pages page ≡ true
  pub within : from ≤ page
  pub first : (other : ℕ) → map.contains_key pages other ≡ true → from ≤ other → page ≤ other

-- that one, or none where there is no page from the number on
abbrev pub IsMaybeFirstFrom : Addressed → ℕ → Option ℕ → Type 0
IsMaybeFirstFrom pages from (Some page) = IsFirstFrom pages from page
IsMaybeFirstFrom pages from None = (other : ℕ) → from ≤ other → map.contains_key pages other ≡ false
