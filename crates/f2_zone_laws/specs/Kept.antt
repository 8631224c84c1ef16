-- What a zone keeps for the base fits a third of it, and what a mount finds in it two thirds.
use Rattle.std.specs.Prelude.{◌≡◌, ℕ, ◌*◌, ◌≤◌, true}
use Rattle.std.specs.Ordering.{nat_cmp}
use Rattle.std.specs.FinSet as set
use Rattle.f2_format.specs.Geometry.{node_third, data_third}
use Rattle.f2_disk.specs.Contents.{Contents}
use Rattle.f2_model.specs.State.{State}
use Rattle.f2_image.specs.Faults.{IsSomeBlock}
use Rattle.f2_space.specs.Space.{Space}
use Rattle.f2_stored.specs.Layout.{Layout}
use Rattle.f2_stored.specs.Stored.{KeepsLog, KeepsImage}
use Rattle.f2_zone_laws.specs.Keeping.{KeepsNodes, KeepsPages, IsFoundNode}

-- the nodes of the base of a running volume
abbrev pub KeptNodesFit : Type 0
KeptNodesFit = (lists : Contents) (layout : Layout) (state : State) (space : Space) → KeepsLog lists layout state → KeepsNodes space layout → space.kept ≤ space.c

-- the pages of the base of a running volume
abbrev pub KeptPagesFit : Type 0
KeptPagesFit = (lists : Contents) (layout : Layout) (state : State) (space : Space) → KeepsLog lists layout state → KeepsPages space layout → space.kept ≤ space.c

-- the nodes of the base that a mount finds, and the blocks of its node log
abbrev pub FoundNodesFit : Type 0
FoundNodesFit =
    (lists : Contents) (layout : Layout) (state : State) (found : set.FinSet nat_cmp) →
    KeepsImage lists layout state →
    ((at : ℕ) → set.contains found at ≡ true → IsFoundNode layout.base at) →
    set.len found ≤ 2 * node_third layout.base.ckpt.geom

-- the pages of the base that a mount finds, and those of its marks
abbrev pub FoundPagesFit : Type 0
FoundPagesFit =
    (lists : Contents) (layout : Layout) (state : State) (found : set.FinSet nat_cmp) →
    KeepsImage lists layout state →
    ((at : ℕ) → set.contains found at ≡ true → IsSomeBlock layout.base.image layout.base.ckpt at) →
    set.len found ≤ 2 * data_third layout.base.ckpt.geom
