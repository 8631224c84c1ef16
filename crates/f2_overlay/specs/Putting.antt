-- Addresses of pages that a mark tells, put into the pages of its file.
use Rattle.std.specs.Prelude.{◌≡◌, ◌≢◌, ℕ, ◌+◌, ◌<◌, ◌≤◌, List, length, slice_index, Some, None}
use Rattle.std.specs.Option.{unwrap_or}
use Rattle.std.specs.FinMap as map
use Rattle.f2_format.specs.Offsets.{direct_of, direct_slot}
use Rattle.f2_format.specs.Inode.{node_word}
use Rattle.f2_image.specs.Images.{Image}
use Rattle.f2_image.specs.Packs.{Checkpoint}
use Rattle.f2_image.specs.Chains.{Logged, block_in}
use Rattle.f2_image.specs.Reached.{IsPage}
use Rattle.f2_overlay.specs.Owning.{Pages}
use Rattle.f2_overlay.specs.Pending.{Places}

-- the address of a page; 0 where it isn't there
abbrev pub address_of : Pages → ℕ → ℕ
address_of pages page = unwrap_or (map.get pages page) 0

-- so many of the addresses stand in the pages, from the first one on
pub record ArePutTo (first : ℕ) (addresses : List ℕ) (count : ℕ) (old new : Pages) : Type 0 where
  pub put : (slot : ℕ) → slot < count → address_of new (first + slot) ≡ slice_index addresses slot
  pub before : (page : ℕ) → page < first → map.get new page ≡ map.get old page
  pub after : (page : ℕ) → first + count ≤ page → map.get new page ≡ map.get old page

abbrev pub ArePut : ℕ → List ℕ → Pages → Pages → Type 0
ArePut first addresses old new = ArePutTo first addresses (length addresses) old new

-- the word that a direct node of a log has for a page
abbrev pub word_at : List Logged → ℕ → ℕ → ℕ
word_at log place page = node_word (block_in log place) (direct_slot page)

-- the pages of some direct nodes of a log have their words, and of the others those of the nodes that are left
pub record AreNodesPut (log : List Logged) (places left : Places) (old new : Pages) : Type 0 where
  pub told : (page offset place : ℕ) → direct_of page ≡ Some offset → map.get places offset ≡ Some place → map.get left offset ≡ None → address_of new page ≡ word_at log place page
  pub later : (page offset place : ℕ) → direct_of page ≡ Some offset → map.get left offset ≡ Some place → map.get new page ≡ map.get old page
  pub others : (page offset : ℕ) → direct_of page ≡ Some offset → map.get places offset ≡ None → map.get new page ≡ map.get old page
  pub low : (page : ℕ) → direct_of page ≡ None → map.get new page ≡ map.get old page
  pub fewer : (offset place : ℕ) → map.get left offset ≡ Some place → map.get places offset ≡ Some place

-- the words of direct nodes of a log are addresses of pages of base or marks, but for 0
abbrev pub AreNodePages : Image → Checkpoint → ℕ → List Logged → Places → Type 0
AreNodePages image ckpt ino log places =
    (page offset place : ℕ) → direct_of page ≡ Some offset → map.get places offset ≡ Some place → word_at log place page ≢ 0 → IsPage image ckpt ino page (word_at log place page)

-- one page has an address, or none where it is 0
pub record IsPut (page at : ℕ) (old new : Pages) : Type 0 where
  pub here : address_of new page ≡ at
  pub others : (other : ℕ) → other ≢ page → map.get new other ≡ map.get old other
