-- Sound images have places.
use Rattle.std.specs.Prelude.{List}
use Rattle.f2_model.specs.Tree.{Rows}
use Rattle.f2_model.specs.State.{Mark}
use Rattle.f2_image.specs.Images.{Image}
use Rattle.f2_image.specs.Packs.{Checkpoint}
use Rattle.f2_image.specs.Meanings.{MeansAt}
use Rattle.f2_stored.specs.Places.{Places}
use Rattle.f2_stored.specs.Trees.{IsTreeAt}

-- the base of an image stands at places in it, whatever its node log is
abbrev pub SoundImagesHavePlaces : Type 0
SoundImagesHavePlaces =
    (image : Image) (ckpt : Checkpoint) (base : Rows) (marks : List Mark) →
    MeansAt image ckpt base marks →
    (places : Places) × IsTreeAt image ckpt base places
