-- A sound image's directories packed anew: there is always such a layout, and with it a mount may take the image's tree over.
use Rattle.std.specs.Prelude.{◌≡◌, ◌↔◌, ℕ, true, List, All, Some, None}
use Rattle.std.specs.FinMap as map
use Rattle.std.specs.FinSet as set
use Rattle.f2_format.specs.Dentry.{Dentry}
use Rattle.f2_disk.specs.Contents.{Contents, IsBlock}
use Rattle.f2_model.specs.Tree.{Rows}
use Rattle.f2_model.specs.State.{State, Mark, rolled}
use Rattle.f2_model.specs.declared.rows.Row.{Row}
use Rattle.f2_model.specs.declared.rows.Kind.TheVariants.{Directory}
use Rattle.f2_image.specs.Images.{Image}
use Rattle.f2_image.specs.Packs.{Checkpoint}
use Rattle.f2_image.specs.Meanings.{MeansAt}
use Rattle.f2_stored.specs.Places.{Places}
use Rattle.f2_stored.specs.Trees.{Unwritten}
use Rattle.f2_stored.specs.Layout.{Layout}
use Rattle.f2_stored.specs.Stored.{KeepsPacks, KeepsImage}
use Rattle.f2_block_laws.specs.Directories.{AreDentries, ArePacked}
use Rattle.f2_mount_laws.specs.Taken.{IsTakenOver}
use Rattle.f2_mount_laws.specs.Existing.{Relaid, places_of, MayBeRelaid, HasRoomFor}

-- a directory of a tree
abbrev pub IsDirectoryIn : Rows → ℕ → Type 0
IsDirectoryIn tree ino = (row : Row) × (map.get tree ino ≡ Some row) × (row.kind ≡ Directory)

-- the pages of a directory have its names in a tree, packed, and there are no more of them
pub record HasPackedPages (tree : Rows) (relaid : Relaid) (directory : ℕ) : Type 0 where
  pub dentries : List Dentry
  pub are : AreDentries tree directory dentries
  pub packed : ArePacked (places_of relaid) directory dentries

-- all directories of a base are laid out anew for a tree, and nothing else: each with its packed pages, which stand nowhere yet
pub record IsPacked (base tree : Rows) (relaid : Relaid) : Type 0 where
  pub all : (ino : ℕ) → (set.contains relaid.directories ino ≡ true) ↔ IsDirectoryIn base ino
  pub only : (ino page at : ℕ) → map.get relaid.pages (ino, page) ≡ Some at → (set.contains relaid.directories ino ≡ true) × (at ≡ 0)
  pub packed : (ino : ℕ) → set.contains relaid.directories ino ≡ true → HasPackedPages tree relaid ino

-- there is such a layout for the tree that an image's base and marks make. A definition by which the names are bound to rows of the base
-- would break it: a mark may bring a name
abbrev pub PackedLayoutsExist : Type 0
PackedLayoutsExist =
    (image : Image) (ckpt : Checkpoint) (base : Rows) (marks : List Mark) →
    MeansAt image ckpt base marks →
    (relaid : Relaid) × IsPacked base (rolled base marks) relaid

-- such a layout may be taken for that tree, where the image is one of whole blocks; a name of other numbers than bytes would have no block
-- that could be written. A definition by which the root isn't laid out anew would break it: a mark may bring a name into it
abbrev pub PackedLayoutsMayBeTaken : Type 0
PackedLayoutsMayBeTaken =
    (image : Image) (ckpt : Checkpoint) (base : Rows) (marks : List Mark) (relaid : Relaid) →
    All IsBlock image →
    MeansAt image ckpt base marks →
    IsPacked base (rolled base marks) relaid →
    MayBeRelaid base (rolled base marks) relaid

-- it has room in a third of each zone, whatever the base's own layout takes. A definition that counts the base's dentry blocks too would
-- break it: few names may lie in many of them
abbrev pub PackedLayoutsHaveRoom : Type 0
PackedLayoutsHaveRoom =
    (image : Image) (ckpt : Checkpoint) (base : Rows) (marks : List Mark) (relaid : Relaid) →
    MeansAt image ckpt base marks →
    IsPacked base (rolled base marks) relaid →
    HasRoomFor image ckpt (rolled base marks) relaid

-- so there is a way to take over the tree of each sound image of whole blocks, whatever its marks. A definition that lets a mount lay out no
-- directory anew would break it: a mark may bring a name
abbrev pub SoundImagesAreTakenOver : Type 0
SoundImagesAreTakenOver =
    (image : Image) (ckpt : Checkpoint) (base : Rows) (marks : List Mark) →
    All IsBlock image →
    MeansAt image ckpt base marks →
    (places : Places) × ((unwritten : Unwritten) × IsTakenOver image ckpt base marks (rolled base marks) places unwritten)

-- and so there is a way to take over what a disk keeps with no checkpoint pending: base and marks, at the image that the disk holds. A
-- definition of such a disk whose contents needn't be whole would break it: a name might have no block
abbrev pub KeptTreesAreTakenOver : Type 0
KeptTreesAreTakenOver =
    (lists : Contents) (layout : Layout) (state : State) →
    KeepsPacks lists layout state →
    KeepsImage lists layout state →
    layout.pending ≡ None →
    (places : Places) × ((unwritten : Unwritten) × IsTakenOver layout.base.image layout.base.ckpt state.base state.marks (rolled state.base state.marks) places unwritten)
