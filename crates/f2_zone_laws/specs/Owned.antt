-- What base and marks own of the zone of data blocks fits two thirds of it.
use Rattle.std.specs.Prelude.{◌≡◌, ◌≢◌, ◌⊎◌, ℕ, ◌*◌, ◌≤◌, Some}
use Rattle.std.specs.FinMap as map
use Rattle.f2_format.specs.Geometry.{data_third}
use Rattle.f2_space.specs.Space.{Space, IsShared}
use Rattle.f2_stored.specs.Layout.{Owners, Layout}
use Rattle.f2_stored.specs.Places.{Places}
use Rattle.f2_zone_laws.specs.Covering.{CoversPages}

-- a page of the live tree stands at an address
pub record IsSomePage (places : Places) (at : ℕ) : Type 0 where
  pub ino : ℕ
  pub page : ℕ
  pub there : map.get places.pages (ino, page) ≡ Some at
  pub some : at ≢ 0

-- between two checkpoints the owners that there are after a mark, of addresses that had one or where a page of the live tree stands, fit two
-- thirds; were blocks owned that no count tells of, they could fill the zone
abbrev pub OwnersFit : Type 0
OwnersFit =
    (layout : Layout) (places : Places) (space : Space) (now : Owners) →
    CoversPages space layout places →
    IsShared space →
    space.cp ≡ 0 →
    space.kept ≤ space.c →
    ((at : ℕ) (owner : ℕ × ℕ) → map.get now at ≡ Some owner → (map.get layout.owners at ≡ Some owner) ⊎ IsSomePage places at) →
    map.len now ≤ 2 * data_third layout.base.ckpt.geom
