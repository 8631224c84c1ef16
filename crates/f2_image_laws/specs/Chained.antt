-- The node log of a disk, and the chain of each image that a crash may leave of it.
use Rattle.std.specs.Prelude.{◌≡◌, ◌≢◌, ◌⊎◌, ℕ, ◌<◌, ◌≤◌, List, [], ◌∷◌, length, take, slice_index_or, All}
use Rattle.std.specs.List.{AllByRecursion}
use Rattle.f2_format.specs.Footer.{footer_version, footer_next}
use Rattle.f2_disk.specs.Contents.{Contents, list_at, IsImage}
use Rattle.f2_image.specs.Images.{Image}
use Rattle.f2_image.specs.Chains.{Logged, chain_from, no_block}

-- blocks of a node log one after another: each stands at the address that the one before it names, from a first address to a next one
abbrev pub Follow : ℕ → List Logged → ℕ → Type 0
Follow at [] next = at ≡ next
Follow at (one ∷ rest) next = (one.at ≡ at) × (at ≢ 0) × Follow (footer_next one.block) rest next

-- the contents of which an image of a disk has one at an address: past the end of the disk nothing but no bytes, as images read there
abbrev pub contents_at : Contents → ℕ → List (List ℕ)
contents_at lists at = slice_index_or lists at ([] ∷ [])

-- what a disk holds at the address of a block of the log is this block, or blocks of other versions
abbrev pub HoldsOrOther : Contents → ℕ → Logged → Type 0
HoldsOrOther lists version one = All (λ content. (content ≡ one.block) ⊎ (footer_version content ≢ version)) (contents_at lists one.at)

-- no block of this version
abbrev pub HoldsNone : Contents → ℕ → ℕ → Type 0
HoldsNone lists version at = All (λ content. footer_version content ≢ version) (contents_at lists at)

-- this block alone
abbrev pub HoldsAlone : Contents → ℕ → Logged → Type 0
HoldsAlone lists version one = (contents_at lists one.at ≡ one.block ∷ []) × (footer_version one.block ≡ version)

-- the positions of the node log of a disk, from where it starts to the address that comes next
pub record IsLogOf (lists : Contents) (version start next : ℕ) (positions : List Logged) : Type 0 where
  pub follow : Follow start positions next
  pub held : AllByRecursion (HoldsOrOther lists version) positions
  pub free : next ≢ 0 → HoldsNone lists version next

-- the address of a position
abbrev pub address_of : List Logged → ℕ → ℕ
address_of positions place = (slice_index_or positions place no_block).at

-- the chain of an image is a first part of the positions, with each up to the first one whose block isn't there
pub record IsFirstPart (lists : Contents) (version : ℕ) (positions : List Logged) (chain : List Logged) : Type 0 where
  pub count : ℕ
  pub within : count ≤ length positions
  pub is : chain ≡ take count positions
  -- positions that the disk holds alone are in it, and none from one on that it doesn't hold
  pub alone : (kept : ℕ) → kept ≤ length positions → AllByRecursion (HoldsAlone lists version) (take kept positions) → kept ≤ count
  pub none : (place : ℕ) → place < length positions → HoldsNone lists version (address_of positions place) → count ≤ place

-- within the disk these are the contents that it holds, so there the three words above say what they say of its list
abbrev pub ContentsAreLists : Type 0
ContentsAreLists = (lists : Contents) (at : ℕ) → at < length lists → contents_at lists at ≡ list_at lists at

-- the chain of each image of a disk
abbrev pub ChainsOfDisks : Type 0
ChainsOfDisks =
    (lists : Contents) (version start next most : ℕ) (positions : List Logged) →
    IsLogOf lists version start next positions →
    (image : Image) →
    IsImage lists image →
    length positions ≤ most →
    IsFirstPart lists version positions (chain_from image version most start)
