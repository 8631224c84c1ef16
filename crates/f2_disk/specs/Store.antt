-- How a bench keeps its blocks, and what that stands for.
use Rattle.std.specs.Prelude.{ℕ, ◌<◌, ◌^◌, ◌==◌, List, [], ◌∷◌, ◌++◌, length, map, filter, All, Option, None, Some, Box, slice_index_or}
use Rattle.std.specs.List.{range_with_len}
use Rattle.std.specs.List.Sorted.{IsNonDecreasingBy}
use Rattle.std.specs.declared.alloc.Global.{Global}
use Rattle.f2_disk.specs.Contents.{Contents, IsBlock, zeros}
use Rattle.f2_disk.specs.declared.store.Older.{Older}

-- a content as it is kept: a block of zeros takes no memory
abbrev pub Kept : Type 0
Kept = Option (Box (List ℕ) Global)

-- the bytes of a kept content
abbrev pub content_of : Kept → List ℕ
content_of None = zeros
content_of (Some block) = block.value

-- the older contents of the block at this address
abbrev pub older_at : ℕ → List Older → List (List ℕ)
older_at at older = map (λ entry. content_of entry.content) (filter (λ entry. entry.at == at) older)

-- the contents of one block
abbrev pub list_of : List Kept → List Older → ℕ → List (List ℕ)
list_of newest older at = older_at at older ++ content_of (slice_index_or newest at None) ∷ []

-- the contents of all blocks
abbrev pub lists_of : List Kept → List Older → Contents
lists_of newest older = map (list_of newest older) (range_with_len 0 (length newest))

-- Older contents rise by address, each that of a block that there is, and every content is a block.
pub record IsOrderly (newest : List Kept) (older : List Older) : Type 0 where
  pub small : length newest < 2 ^ 32
  pub rising : IsNonDecreasingBy (λ (entry : Older). entry.at) older
  pub within : All (λ entry. entry.at < length newest) older
  pub newest_blocks : All (λ kept. IsBlock (content_of kept)) newest
  pub older_blocks : All (λ entry. IsBlock (content_of entry.content)) older

-- what a store holds, and for how many writes it has room
pub record Stored : Type 0 where
  pub lists : Contents
  pub spare : ℕ
