-- Both zones of a kept image are on the disk.
use Rattle.std.proofs.Common.{ℕ, ◌+◌, ◌-◌, ◌*◌, ◌/◌, ◌<◌, ◌≤◌, nat_lt, ◌&&◌, not, IsTrue, length, sym, subst, arith}
use Rattle.f2_format.specs.Geometry.{ImageGeometry, node_third, data_third, node_start, data_start, is_in_node, is_in_data}
use Rattle.f2_disk.specs.Contents.{Contents}
use Rattle.f2_model.specs.State.{State}
use Rattle.f2_image.specs.Images.{Image, IsSized}
use Rattle.f2_image.specs.Images as images
use Rattle.f2_stored.specs.Layout.{Layout}
use Rattle.f2_stored.specs.Stored.{KeepsLog}

in_blocks : (blocks nat at : ℕ) → 8 + 2 * nat + 3 * ((blocks - 8 - 2 * nat) / 12) ≤ at
    → at < 8 + 2 * nat + 3 * ((blocks - 8 - 2 * nat) / 12) + 3 * ((blocks - 8 - 2 * nat - 3 * ((blocks - 8 - 2 * nat) / 12)) / 3) → at < blocks
in_blocks blocks nat at from to = omega (arith, from, to)

before_blocks : (blocks nat at : ℕ) → 8 + 2 * nat ≤ at → at < 8 + 2 * nat + 3 * ((blocks - 8 - 2 * nat) / 12) → at < blocks
before_blocks blocks nat at from to = omega (arith, from, to)

blocks_there : (image : Image) (geom : ImageGeometry) → IsSized image geom → geom.blocks ≤ length image
blocks_there image geom (images.by_first right is) = subst (λ (e : ImageGeometry). e.blocks ≤ length image) (sym is) right.within
blocks_there image geom (images.by_second wrong right is) = subst (λ (e : ImageGeometry). e.blocks ≤ length image) (sym is) right.within

range_of : (low high at : ℕ) → IsTrue (not (nat_lt at low) && nat_lt at high) → (low ≤ at) × (at < high)
range_of low high at is = grind (arith, is)

module _ (lists : Contents) (layout : Layout) (state : State) (keeps : KeepsLog lists layout state) (at : ℕ) where
  abbrev geom : ImageGeometry
  geom = layout.base.ckpt.geom

  pub node_on_disk : IsTrue (is_in_node geom at) → at < length lists
  node_on_disk is =
      let range = range_of (node_start geom) (node_start geom + 3 * node_third geom) at is in
      let low : at < geom.blocks = before_blocks geom.blocks geom.nat at range.0 range.1 in
      let size = keeps.base.size in
      omega (arith, low, blocks_there layout.base.image geom keeps.base.means.checkpoint.sized, size)

  pub page_on_disk : IsTrue (is_in_data geom at) → at < length lists
  page_on_disk is =
      let range = range_of (data_start geom) (data_start geom + 3 * data_third geom) at is in
      let low : at < geom.blocks = in_blocks geom.blocks geom.nat at range.0 range.1 in
      let size = keeps.base.size in
      omega (arith, low, blocks_there layout.base.image geom keeps.base.means.checkpoint.sized, size)

  -- and none of them is the address that stands for no block
  pub node_some : IsTrue (is_in_node geom at) → 0 < at
  node_some is = let range = range_of (node_start geom) (node_start geom + 3 * node_third geom) at is in omega (arith, range.0)

  pub page_some : IsTrue (is_in_data geom at) → 0 < at
  page_some is = let range = range_of (data_start geom) (data_start geom + 3 * data_third geom) at is in omega (arith, range.0)
