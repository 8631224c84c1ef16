-- Addresses of a zone stand in the image.
use Rattle.std.proofs.Common.{◌≡◌, ℕ, ◌+◌, ◌*◌, ◌<◌, ◌≤◌, Bool, true, false, length, refl, sym, ap, subst, arith}
use Rattle.std.specs.Prelude.{nat_lt, not, ◌&&◌, IsTrue}
use Rattle.std.proofs.lemmas.Bool.{ltb-true, ltb-false}
use Rattle.f2_format.specs.Geometry.{ImageGeometry, IsGeometry, node_third, data_third, node_start, data_start, is_in_node, is_in_data, NAT_START}
use Rattle.f2_format.specs.Superblock.{super_geom}
use Rattle.f2_image.specs.Images.{Image, block_at, IsSized, IsRightCopy, by_first, by_second}
use Rattle.f2_laws.proofs.Passed.{both_true}

not_true : (b : Bool) → not b ≡ true → b ≡ false
not_true false h = refl
not_true true h = absurd (cc)

right_fits : (image : Image) (at : ℕ) (geom : ImageGeometry) → IsRightCopy image at → geom ≡ super_geom (block_at image at) → geom.blocks ≤ length image
right_fits image at geom right is = omega (arith, right.within, ap (λ (e : ImageGeometry). e.blocks) is)

-- an image has the blocks that its superblock tells
pub sized_fits : (image : Image) (geom : ImageGeometry) → IsSized image geom → geom.blocks ≤ length image
sized_fits image geom (by_first right is) = right_fits image 0 geom right is
sized_fits image geom (by_second none right is) = right_fits image 1 geom right is

pub sized_geometry : (image : Image) (geom : ImageGeometry) → IsSized image geom → IsGeometry geom
sized_geometry image geom (by_first right is) = subst IsGeometry (sym is) right.geometry
sized_geometry image geom (by_second none right is) = subst IsGeometry (sym is) right.geometry

-- what stands from a number on, below another
pub between : (low high at : ℕ) → IsTrue (not (nat_lt at low) && nat_lt at high) → (low ≤ at) × (at < high)
between low high at h =
    let parts = both_true (not (nat_lt at low)) (nat_lt at high) h in
    (ltb-false at low (not_true (nat_lt at low) parts.0), ltb-true at high parts.1)

module _ (geom : ImageGeometry) (geometry : IsGeometry geom) where
  -- how the zones lie
  zones : (node_start geom + 3 * node_third geom + 3 * data_third geom ≤ geom.blocks) × (NAT_START ≤ node_start geom)
  zones = (omega (arith, geometry.zones), omega arith)

  pub node_within : (at : ℕ) → IsTrue (is_in_node geom at) → (at < geom.blocks) × (0 < at)
  node_within at h =
      let parts = between (node_start geom) (node_start geom + 3 * node_third geom) at h in
      (omega (arith, parts.0, parts.1, zones.0), omega (arith, parts.0, zones.1))

  pub data_within : (at : ℕ) → IsTrue (is_in_data geom at) → (at < geom.blocks) × (0 < at)
  data_within at h =
      let parts = between (data_start geom) (data_start geom + 3 * data_third geom) at h in
      (omega (arith, parts.0, parts.1, zones.0), omega (arith, parts.0, zones.1))
