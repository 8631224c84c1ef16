-- The dentries of a directory of the base, block by block and slot by slot.
use Rattle.std.specs.Prelude.{◌≡◌, ℕ, ◌<◌, ◌≤◌, true, List, [], length, slice_index_or, All, Contains, None}
use Rattle.f2_format.specs.Dentry.{Dentry, dentry_fault}
use Rattle.f2_dentry_block.specs.Dents.{dentry_of}
use Rattle.f2_dentry_block.specs.declared.dents.Dent.{Dent}
use Rattle.f2_model.specs.Names.{is_good_name}
use Rattle.f2_model.specs.declared.rows.Kind.TheVariants.{Regular}
use Rattle.f2_image.specs.Images.{Image, block_at}
use Rattle.f2_image.specs.Packs.{Checkpoint}
use Rattle.f2_image.specs.Bases.{IsDirectoryBlock, HasDentryAt}
use Rattle.f2_recover.specs.Seeing.{no_page}
use Rattle.f2_recover.specs.declared.nodes.PageAt.{PageAt}

-- a list has the blocks of a directory, each once
pub record AreBlocksOf (image : Image) (ckpt : Checkpoint) (directory : ℕ) (list : List PageAt) : Type 0 where
  pub only : (x : PageAt) → Contains list x → IsDirectoryBlock image ckpt directory x.page x.at
  pub all : (page at : ℕ) → IsDirectoryBlock image ckpt directory page at → Contains list (record { page = page; at = at })
  pub rising : (j k : ℕ) → j < k → k < length list → (slice_index_or list j no_page).page < (slice_index_or list k no_page).page

-- no dent
abbrev pub no_dent : Dent
no_dent = record { name = []; ino = 0; kind = Regular }

-- the dents of a list are the dentries of a directory, each at a place of its own: its page and its slot
pub record AreDentsAt (image : Image) (ckpt : Checkpoint) (directory : ℕ) (places : List (ℕ × ℕ)) (dents : List Dent) : Type 0 where
  pub same : length places ≡ length dents
  pub there : (k : ℕ) → k < length dents → HasDentryAt image ckpt directory (slice_index_or places k (0, 0)).0 (slice_index_or places k (0, 0)).1 (dentry_of (slice_index_or dents k no_dent))
  pub all : (page slot : ℕ) (dentry : Dentry) → HasDentryAt image ckpt directory page slot dentry → (k : ℕ) × ((k < length dents) × (slice_index_or places k (0, 0) ≡ (page, slot)))
  pub apart : (j k : ℕ) → j < length dents → k < length dents → slice_index_or places j (0, 0) ≡ slice_index_or places k (0, 0) → j ≡ k
  pub whole : (page at : ℕ) → IsDirectoryBlock image ckpt directory page at → dentry_fault (block_at image at) ≡ None

abbrev pub AreDents : Image → Checkpoint → ℕ → List Dent → Type 0
AreDents image ckpt directory dents = (places : List (ℕ × ℕ)) × AreDentsAt image ckpt directory places dents

-- a dent names an ino that a file can have, by a name that a file can have
pub record IsFitDent (dent : Dent) : Type 0 where
  pub least : 4 ≤ dent.ino
  pub good : is_good_name dent.name ≡ true

-- all of a list do
abbrev pub AreFit : List Dent → Type 0
AreFit = All IsFitDent
