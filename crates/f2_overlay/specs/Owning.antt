-- Whose the addresses of pages are.
use Rattle.std.specs.Prelude.{◌≡◌, ◌≢◌, ℕ, ◌+◌, ◌<◌, IsTrue, List, length, slice_index, slice_index_or, Some}
use Rattle.std.specs.Ordering.{nat_cmp}
use Rattle.std.specs.FinMap as map
use Rattle.f2_format.specs.Geometry.{is_in_data}
use Rattle.f2_format.specs.Offsets.{page_limit}
use Rattle.f2_image.specs.Images.{Image}
use Rattle.f2_image.specs.Packs.{Checkpoint}
use Rattle.f2_image.specs.Reached.{IsBasePage, IsPage}
use Rattle.f2_overlay.specs.declared.owners.Owner.{Owner}
use Rattle.f2_recover.specs.declared.nodes.PageAt.{PageAt}
use Rattle.f2_recover.specs.Seeing.{no_page}

-- the page that has each address
abbrev pub Owned : Type 0
Owned = map.FinMap nat_cmp Owner

-- the addresses of the pages of a file
abbrev pub Pages : Type 0
Pages = map.FinMap nat_cmp ℕ

-- who has an address keeps it
abbrev pub IsMore : Owned → Owned → Type 0
IsMore old new = (at : ℕ) (owner : Owner) → map.get old at ≡ Some owner → map.get new at ≡ Some owner

-- each address is that of a page of base or marks, and in the data zone
pub record AreRight (image : Image) (ckpt : Checkpoint) (owned : Owned) : Type 0 where
  pub only : (at : ℕ) (owner : Owner) → map.get owned at ≡ Some owner → IsPage image ckpt owner.ino owner.page at
  pub zones : (at : ℕ) (owner : Owner) → map.get owned at ≡ Some owner → IsTrue (is_in_data ckpt.geom at)

-- the pages of a file stand at addresses that are their own
pub record AreOwn (ino : ℕ) (pages : Pages) (owned : Owned) : Type 0 where
  pub within : (page at : ℕ) → map.get pages page ≡ Some at → page < page_limit
  pub some : (page at : ℕ) → map.get pages page ≡ Some at → at ≢ 0
  pub own : (page at : ℕ) → map.get pages page ≡ Some at → map.get owned at ≡ Some (record { ino = ino; page = page })

-- so many first pages of a list have their addresses, and the first one on
abbrev pub HasListed : ℕ → List PageAt → ℕ → Owned → Type 0
HasListed ino list count owned = (k : ℕ) → k < count → map.get owned (slice_index_or list k no_page).at ≡ Some (record { ino = ino; page = (slice_index_or list k no_page).page })

-- the pages of a list are pages of base or marks
abbrev pub AreListed : Image → Checkpoint → ℕ → List PageAt → Type 0
AreListed image ckpt ino list = (k : ℕ) → k < length list → IsPage image ckpt ino (slice_index_or list k no_page).page (slice_index_or list k no_page).at

-- addresses from a page on are those of pages of base or marks, but for 0
abbrev pub ArePagesFrom : Image → Checkpoint → ℕ → ℕ → List ℕ → Type 0
ArePagesFrom image ckpt ino first addresses = (slot : ℕ) → slot < length addresses → slice_index addresses slot ≢ 0 → IsPage image ckpt ino (first + slot) (slice_index addresses slot)

-- the pages of the base whose files have inos below a limit have their addresses
pub record AreBaseTo (image : Image) (ckpt : Checkpoint) (limit : ℕ) (owned : Owned) : Type 0 where
  pub right : AreRight image ckpt owned
  pub all : (ino page at : ℕ) → ino < limit → IsBasePage image ckpt ino page at → map.get owned at ≡ Some (record { ino = ino; page = page })
