-- The names that marks bring, as far as a node log was gone over.
use Rattle.std.specs.Prelude.{◌≡◌, ◌≢◌, ℕ, ◌<◌, true, List, slice_index_or, Option, Some}
use Rattle.std.specs.Option.{option_and_then, option_map, unwrap_or}
use Rattle.std.specs.Ordering.{nat_cmp}
use Rattle.std.specs.FinMap as map
use Rattle.f2_format.specs.Dentry.{Dentry}
use Rattle.f2_model.specs.Names.{is_good_name}
use Rattle.f2_model.specs.declared.rows.Kind.TheVariants.{Regular}
use Rattle.f2_dir.specs.Entries.{Entries}
use Rattle.f2_image.specs.Images.{Image}
use Rattle.f2_image.specs.Packs.{Checkpoint}
use Rattle.f2_image.specs.Bases.{HasDentry}
use Rattle.f2_image.specs.Chains.{Logged, chain, no_block}
use Rattle.f2_image.specs.Reached.{IsMarkedAt}
use Rattle.f2_image.specs.Faults.{BringsName, IsDirectoryOf}
use Rattle.f2_overlay.specs.Names.{IsRightMark}

-- names by the directories that they go into, each with the file that brings it
abbrev pub BroughtNames : Type 0
BroughtNames = map.FinMap nat_cmp Entries

-- the file that brings a name into a directory
abbrev pub bringer : BroughtNames → ℕ → List ℕ → Option ℕ
bringer brought directory name = option_and_then (λ entries. option_map (λ place. place.0) (map.get entries name)) (map.get brought directory)

-- the names once a file brings one more
abbrev pub with_bringer : BroughtNames → ℕ → List ℕ → ℕ → BroughtNames
with_bringer brought directory name ino = map.insert brought directory (map.insert (unwrap_or (map.get brought directory) map.empty) name (ino, Regular))

-- a file brings a name that no other brought before, and who brings all others is as before
pub record IsBrought (old new : BroughtNames) (directory : ℕ) (name : List ℕ) (ino : ℕ) : Type 0 where
  pub own : (other : ℕ) → bringer old directory name ≡ Some other → other ≡ ino
  pub there : bringer new directory name ≡ Some ino
  pub others : (of : ℕ) (more : List ℕ) → ¬ ((of ≡ directory) × (more ≡ name)) → bringer new of more ≡ bringer old of more

-- what is right of a name that a mark brings, whatever other marks bring
pub record IsFitName (image : Image) (ckpt : Checkpoint) (parent : ℕ) (name : List ℕ) : Type 0 where
  pub good : is_good_name name ≡ true
  pub under : IsDirectoryOf image ckpt parent
  pub free : (dentry : Dentry) → HasDentry image ckpt parent dentry → dentry.name ≢ name

-- a marked block of the node log stands at a place
pub record IsLoggedAt (image : Image) (ckpt : Checkpoint) (place : ℕ) (logged : Logged) : Type 0 where
  pub marked : IsMarkedAt image ckpt place logged.block
  pub at_is : (slice_index_or (chain image ckpt) place no_block).at ≡ logged.at

-- a mark before a place brings a name
pub record IsBroughtBefore (image : Image) (ckpt : Checkpoint) (place ino parent : ℕ) (name : List ℕ) : Type 0 where
  pub earlier : ℕ
  pub before : earlier < place
  pub brings : BringsName image ckpt earlier ino parent name

-- the marks before a place are right, and the names that they bring are fit and are these, each with the file that brings it
pub record AreRightTo (image : Image) (ckpt : Checkpoint) (place : ℕ) (brought : BroughtNames) : Type 0 where
  pub marks : (earlier : ℕ) (block : List ℕ) → IsMarkedAt image ckpt earlier block → earlier < place → IsRightMark image ckpt block
  pub fit : (earlier ino parent : ℕ) (name : List ℕ) → BringsName image ckpt earlier ino parent name → earlier < place → IsFitName image ckpt parent name
  pub all : (earlier ino parent : ℕ) (name : List ℕ) → BringsName image ckpt earlier ino parent name → earlier < place → bringer brought parent name ≡ Some ino
  pub only : (parent : ℕ) (name : List ℕ) (ino : ℕ) → bringer brought parent name ≡ Some ino → IsBroughtBefore image ckpt place ino parent name
