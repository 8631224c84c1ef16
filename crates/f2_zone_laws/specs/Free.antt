-- An address that a zone gives is free on the disk of a volume.
use Rattle.std.specs.Prelude.{ℕ, ◌<◌, IsTrue, length}
use Rattle.f2_format.specs.Geometry.{is_in_node, is_in_data}
use Rattle.f2_disk.specs.Contents.{Contents}
use Rattle.f2_model.specs.State.{State}
use Rattle.f2_space.specs.Space.{Space, IsLeastFree}
use Rattle.f2_stored.specs.Layout.{Layout}
use Rattle.f2_stored.specs.Places.{Places}
use Rattle.f2_stored.specs.Changes.{IsFree}
use Rattle.f2_stored.specs.Kept.{IsElsewhere}
use Rattle.f2_stored.specs.Stored.{KeepsLog, KeepsImage}
use Rattle.f2_zone_laws.specs.Covering.{CoversNodes, CoversPages, CoversFoundLog, CoversFoundMarks}

-- one of the node zone, between two checkpoints
abbrev pub FreeNodesAreFree : Type 0
FreeNodesAreFree =
    (lists : Contents) (layout : Layout) (state : State) (places : Places) (space : Space) (at : ℕ) →
    KeepsLog lists layout state →
    CoversNodes space layout places →
    IsLeastFree space at →
    IsTrue (is_in_node layout.base.ckpt.geom at) × IsFree layout at × IsElsewhere places at × (at < length lists)

-- one of the data zone
abbrev pub FreePagesAreFree : Type 0
FreePagesAreFree =
    (lists : Contents) (layout : Layout) (state : State) (places : Places) (space : Space) (at : ℕ) →
    KeepsLog lists layout state →
    CoversPages space layout places →
    IsLeastFree space at →
    IsTrue (is_in_data layout.base.ckpt.geom at) × IsFree layout at × IsElsewhere places at × (at < length lists)

-- one of the node zone, while a mount is at work
abbrev pub FreeNodesOfMounts : Type 0
FreeNodesOfMounts =
    (lists : Contents) (layout : Layout) (state : State) (places : Places) (space : Space) (at : ℕ) →
    KeepsImage lists layout state →
    CoversNodes space layout places →
    CoversFoundLog space layout →
    IsLeastFree space at →
    IsTrue (is_in_node layout.base.ckpt.geom at) × IsFree layout at × IsElsewhere places at × (at < length lists)

-- one of the data zone
abbrev pub FreePagesOfMounts : Type 0
FreePagesOfMounts =
    (lists : Contents) (layout : Layout) (state : State) (places : Places) (space : Space) (at : ℕ) →
    KeepsImage lists layout state →
    CoversPages space layout places →
    CoversFoundMarks space layout →
    IsLeastFree space at →
    IsTrue (is_in_data layout.base.ckpt.geom at) × IsFree layout at × IsElsewhere places at × (at < length lists)
