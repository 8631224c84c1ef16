-- What an image stands for in which a tree stands at its places.
use Rattle.std.specs.Prelude.{◌≡◌, []}
use Rattle.f2_model.specs.Tree.{Rows}
use Rattle.f2_image.specs.Images.{Image}
use Rattle.f2_image.specs.Packs.{Checkpoint, IsCheckpoint}
use Rattle.f2_image.specs.Chains.{chain}
use Rattle.f2_image.specs.Meanings.{MeansAt}
use Rattle.f2_room_laws.specs.ProperTrees.{IsProperTree}
use Rattle.f2_image_laws.specs.Rolled.{image_limits}
use Rattle.f2_stored.specs.Places.{Places}
use Rattle.f2_stored.specs.Trees.{IsTreeAt}

-- with no node log it stands for that tree, where the tree is proper
abbrev pub TreesAtPlacesMean : Type 0
TreesAtPlacesMean =
    (image : Image) (ckpt : Checkpoint) (tree : Rows) (places : Places) →
    IsCheckpoint image ckpt →
    chain image ckpt ≡ [] →
    IsProperTree (image_limits ckpt.geom) tree →
    IsTreeAt image ckpt tree places →
    MeansAt image ckpt tree []
