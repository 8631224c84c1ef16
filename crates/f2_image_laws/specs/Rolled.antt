-- The tree that an image's base and marks make is good, and within the limits of the image.
use Rattle.std.specs.Prelude.{List, All}
use Rattle.f2_format.specs.Geometry.{ImageGeometry, node_third, data_third, nid_limit}
use Rattle.f2_format.specs.Inode.{SIZE_LIMIT}
use Rattle.f2_disk.specs.Contents.{IsBlock}
use Rattle.f2_model.specs.Tree.{Rows}
use Rattle.f2_model.specs.State.{Mark, rolled}
use Rattle.f2_model.specs.declared.bounds.Limits.{Limits}
use Rattle.f2_image.specs.Images.{Image}
use Rattle.f2_image.specs.Packs.{Checkpoint}
use Rattle.f2_image.specs.Meanings.{MeansAt}
use Rattle.f2_room_laws.specs.ProperTrees.{IsProperTree}

-- what an image of these sizes grants: a third of each zone, the nids of its table, and the longest file
abbrev pub image_limits : ImageGeometry → Limits
image_limits geom = record { nodes = node_third geom; data_blocks = data_third geom; nids = nid_limit geom; size = SIZE_LIMIT }

-- what a sound image of whole blocks stands for makes a proper tree
abbrev pub RolledTreesAreProper : Type 0
RolledTreesAreProper =
    (image : Image) (ckpt : Checkpoint) (base : Rows) (marks : List Mark) →
    All IsBlock image →
    MeansAt image ckpt base marks →
    IsProperTree (image_limits ckpt.geom) (rolled base marks)
