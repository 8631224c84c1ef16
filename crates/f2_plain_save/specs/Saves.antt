-- What saving a tree, and making an image, comes to.
use Rattle.std.specs.Prelude.{◌≡◌, ◌⊎◌, ℕ, ◌+◌, ◌<◌}
use Rattle.f2_format.specs.Geometry.{ImageGeometry, node_third, data_third}
use Rattle.f2_format.specs.Superblock.{super_geom}
use Rattle.f2_disk.specs.Contents.{Contents, alone, IsImage}
use Rattle.f2_model.specs.Tree.{Rows}
use Rattle.f2_image.specs.Images.{Image, block_at, IsRightCopy}
use Rattle.f2_laid.specs.Laid.{IsStorable, IsLaid, root_alone}
use Rattle.f2_laid.specs.declared.stored.Stored.{Stored}

-- the most blocks that a checkpoint writes but for its tail: a third of each zone, one copy of the table, the summary
-- and the head of a pack
abbrev pub most_writes : ImageGeometry → ℕ
most_writes geom = node_third geom + data_third geom + geom.nat + 2

-- a disk held one image, in which a tree that can be stored is laid out
pub record Held (old : Stored) (before : Contents) (image : Image) (base : Rows) : Type 0 where
  pub one : before ≡ alone image
  pub storable : IsStorable old.geometry base
  pub laid : IsLaid image base old

-- a disk that held one image with a tree laid out holds one with this tree laid out
abbrev pub IsSaved : Stored → Rows → Stored → Contents → Contents → Type 0
IsSaved old tree next before after = (image : Image) (base : Rows) → Held old before image base → (now : Image) × (after ≡ alone now) × IsLaid now tree next

-- of a disk that held one image with a tree laid out a crash leaves one with the same tree laid out, or with this one
abbrev pub IsSafelySaved : Stored → Rows → Contents → Contents → Type 0
IsSafelySaved old tree before after =
    (image : Image) (base : Rows) → Held old before image base → (left : Image) → IsImage after left → IsLaid left base old ⊎ ((next : Stored) × IsLaid left tree next)

-- both superblocks are right and tell these sizes
abbrev pub HasBothSupers : ImageGeometry → Image → Type 0
HasBothSupers geom image = (at : ℕ) → at < 2 → IsRightCopy image at × (super_geom (block_at image at) ≡ geom)

-- a disk holds one image, in which the root alone is laid out
abbrev pub IsMade : Stored → Contents → Contents → Type 0
IsMade next before after = (now : Image) × (after ≡ alone now) × HasBothSupers next.geometry now × IsLaid now root_alone next
