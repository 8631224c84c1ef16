-- What a mount takes over of an image stands on the disk that holds the image.
use Rattle.std.specs.Prelude.{◌≡◌, List, All, None}
use Rattle.f2_disk.specs.Contents.{Contents}
use Rattle.f2_model.specs.Tree.{Rows}
use Rattle.f2_model.specs.State.{State, Mark, rolled}
use Rattle.f2_image.specs.Images.{Image}
use Rattle.f2_image.specs.Packs.{Checkpoint}
use Rattle.f2_image.specs.Chains.{chain}
use Rattle.f2_image.specs.Meanings.{MeansAt}
use Rattle.f2_image_laws.specs.Rolled.{image_limits}
use Rattle.f2_room_laws.specs.ProperTrees.{IsProperTree}
use Rattle.f2_stored.specs.Places.{Places, HasPlaces}
use Rattle.f2_stored.specs.Trees.{Unwritten, IsLiveAt}
use Rattle.f2_stored.specs.Layout.{Reference, Layout}
use Rattle.f2_stored.specs.Bases.{HasOne, HoldsImage}
use Rattle.f2_stored.specs.Stored.{KeepsPacks, KeepsImage}
use Rattle.f2_mount_laws.specs.Taken.{IsTakenOver}

-- the places that a tree is taken over with are places of it. A definition by which a new node may have a nid that a block of the node log has
-- would break it: that block may be taken over too
abbrev pub TakenOverTreesHavePlaces : Type 0
TakenOverTreesHavePlaces =
    (image : Image) (ckpt : Checkpoint) (base : Rows) (marks : List Mark) (tree : Rows) (places : Places) (unwritten : Unwritten) →
    MeansAt image ckpt base marks →
    IsTakenOver image ckpt base marks tree places unwritten →
    HasPlaces ckpt.geom tree places

-- where a disk holds the image and its node log, all of the tree but what is to be written stands there. A definition by which the inode of a
-- marked file isn't to be written would break it: that inode may name nodes that aren't taken over
abbrev pub TakenOverTreesAreLive : Type 0
TakenOverTreesAreLive =
    (lists : Contents) (held : Reference) (base : Rows) (marks : List Mark) (tree : Rows) (places : Places) (unwritten : Unwritten) →
    HoldsImage lists held base marks →
    All (λ one. HasOne lists held.image one.at) (chain held.image held.ckpt) →
    IsTakenOver held.image held.ckpt base marks tree places unwritten →
    IsLiveAt lists held.ckpt.geom tree places unwritten

-- and the tree is a proper one, as long as no checkpoint is pending; a base that is rolled by other marks than the image's needn't be
abbrev pub RolledTreesOfMountsAreProper : Type 0
RolledTreesOfMountsAreProper =
    (lists : Contents) (layout : Layout) (state : State) →
    KeepsPacks lists layout state →
    KeepsImage lists layout state →
    layout.pending ≡ None →
    IsProperTree (image_limits layout.base.ckpt.geom) (rolled state.base state.marks)
