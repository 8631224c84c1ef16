-- What planning pages adds to the addresses that aren't free and to the blocks.
use Rattle.std.specs.Prelude.{◌≡◌, ◌≢◌, ℕ, ◌+◌, ◌<◌, ◌≤◌, true, false, List, [], ◌∷◌, ◌++◌, map as map_list, length, All, slice_index_or, Option}
use Rattle.std.specs.FinSet as set
use Rattle.f2_bitset.specs.Numbers.{Numbers, IsInRange, IsLeastMissing}
use Rattle.f2_format.specs.Offsets.{inode_pages}
use Rattle.f2_image.specs.Reached.{AllDiffer}
use Rattle.f2_laid.specs.Planned.{WritesPage}
use Rattle.f2_laid.specs.declared.planned.Planned.{Planned}
use Rattle.f2_plain_plan.specs.Contents.{pages_before}

-- a number was made a member
abbrev pub with_member : Numbers → ℕ → Numbers
with_member numbers one = record { first = numbers.first; count = numbers.count; members = set.insert numbers.members one }

-- a block was planned at the least free address
pub record AddsBlock (content : List ℕ) (taken taken_after : Numbers) (blocks blocks_after : List Planned) (at : ℕ) : Type 0 where
  pub free : IsLeastMissing taken at
  pub now : taken_after ≡ with_member taken at
  pub added : blocks_after ≡ blocks ++ record { at = at; block = content } ∷ []

-- one block stands at the address of a page
abbrev pub IsAmong : List ℕ → Planned → Type 0
IsAmong addresses one = (page : ℕ) × (slice_index_or addresses page 0 ≢ 0) × (one.at ≡ slice_index_or addresses page 0)

-- an address was free and is taken
pub record IsTaken (taken taken_after : Numbers) (at : ℕ) : Type 0 where
  pub zone : IsInRange taken at
  pub free : set.contains taken.members at ≡ false
  pub now : set.contains taken_after.members at ≡ true

-- the pages below `end` were planned, each at an address of its own that was free
pub record AddsPages (contents : ℕ → Option (List ℕ)) (end : ℕ) (taken taken_after : Numbers) (blocks blocks_after : List Planned) (addresses : List ℕ) : Type 0 where
  pub first : taken_after.first ≡ taken.first
  pub count : taken_after.count ≡ taken.count
  pub kept : (at : ℕ) → set.contains taken.members at ≡ true → set.contains taken_after.members at ≡ true
  pub len : set.len taken_after.members ≡ set.len taken.members + pages_before contents end
  pub more : List Planned
  pub added : blocks_after ≡ blocks ++ more
  pub many : length more ≡ pages_before contents end
  pub whole : length addresses ≡ inode_pages
  pub pages : (page : ℕ) → page < end → WritesPage more (slice_index_or addresses page 0) (contents page)
  pub rest : (page : ℕ) → end ≤ page → slice_index_or addresses page 0 ≡ 0
  pub fresh : (page : ℕ) → slice_index_or addresses page 0 ≢ 0 → IsTaken taken taken_after (slice_index_or addresses page 0)
  pub apart : (page other : ℕ) → slice_index_or addresses page 0 ≢ 0 → slice_index_or addresses page 0 ≡ slice_index_or addresses other 0 → page ≡ other
  pub within : All (IsAmong addresses) more
  pub once : AllDiffer (map_list (λ (one : Planned). one.at) more)
