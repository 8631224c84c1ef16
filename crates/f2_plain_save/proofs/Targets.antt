-- Which addresses a plan writes.
use Rattle.std.proofs.Common.{◌≡◌, ◌≢◌, ◌⊎◌, inl, inr, ℕ, ◌+◌, ◌*◌, ◌<◌, ◌≤◌, not, IsTrue, All, List, arith, sym, ◌∙◌}
use Rattle.std.specs.Prelude.{Some}
use Rattle.std.specs.FinMap as map
use Rattle.std.proofs.lemmas.List.Elements.{All-weaker}
use Rattle.f2_format.specs.Geometry.{IsGeometry, data_third, node_start, data_start, is_in_node, is_in_data, nat_address}
use Rattle.f2_image.specs.Packs.{Side, other_side, head_address, summary_address, tail_address}
use Rattle.f2_laid.specs.Laid.{page_at, side_of, IsPlaced}
use Rattle.f2_laid.specs.Planned.{IsWriteOf, inode, page, table, summary, head}
use Rattle.f2_laid.specs.declared.places.Place.{Place}
use Rattle.f2_laid.specs.declared.planned.Planned.{Planned}
use Rattle.f2_laid.specs.declared.stored.Stored.{Stored}
use Rattle.f2_plain_save.proofs.Addresses.{node_range, data_range, zones_end, table_range, copies_apart, pack_range, tail_apart, packs_apart, packs_skewed}

-- the address of a file of these places
pub record IsInodeAt (stored : Stored) (at : ℕ) : Type 0 where
  pub ino : ℕ
  pub place : Place
  pub there : map.get stored.places ino ≡ Some place
  pub is : at ≡ place.at

-- the address of a page of a file of these places
pub record IsPageAt (stored : Stored) (at : ℕ) : Type 0 where
  pub ino : ℕ
  pub page : ℕ
  pub place : Place
  pub there : map.get stored.places ino ≡ Some place
  pub is : at ≡ page_at place page

module _ (stored : Stored) (geometry : IsGeometry stored.geometry) (placed : IsPlaced stored.geometry stored.places) where
  node_of : (at ino : ℕ) (place : Place) → map.get stored.places ino ≡ Some place → at ≡ place.at → (node_start stored.geometry ≤ at) × (at < data_start stored.geometry)
  node_of at ino place there is =
      let range = node_range stored.geometry place.at (placed.nodes ino place there) in
      (omega (arith, range.0, is), omega (arith, range.1, is))

  data_of : (at ino number : ℕ) (place : Place) → map.get stored.places ino ≡ Some place → page_at place number ≢ 0 → at ≡ page_at place number
      → (data_start stored.geometry ≤ at) × (at < data_start stored.geometry + 3 * data_third stored.geometry)
  data_of at ino number place there some is =
      let range = data_range stored.geometry (page_at place number) (placed.pages ino number place there some) in
      (omega (arith, range.0, is), omega (arith, range.1, is))

  table_of : (at block : ℕ) → block < stored.geometry.nat → at ≡ nat_address stored.geometry block stored.second → (8 ≤ at) × (at < node_start stored.geometry)
  table_of at block less is =
      let range = table_range stored.geometry block stored.second less in
      (omega (arith, range.0, is), omega (arith, range.1, is))

  pack_of : (at : ℕ) → (at ≡ head_address (side_of stored.side)) ⊎ (at ≡ summary_address (side_of stored.side)) → (2 ≤ at) × (at ≤ 6)
  pack_of at is =
      let range = pack_range (side_of stored.side) in
      elim is [ inl e ↦ (omega (arith, range.0, e), omega (arith, range.1, e)) | inr e ↦ (omega (arith, range.0, e), omega (arith, range.1, e)) ]

  -- a plan writes above the superblocks
  pub above : (at : ℕ) → IsWriteOf stored at → 2 ≤ at
  above at (inode ino place there is) = omega (arith, (node_of at ino place there is).0)
  above at (page ino number place there some is) = omega (arith, (data_of at ino number place there some is).0)
  above at (table block less is) = omega (arith, (table_of at block less is).0)
  above at (summary is) = (pack_of at (inr is)).0
  above at (head is) = (pack_of at (inl is)).0

  -- it writes within the image
  pub within : (at : ℕ) → IsWriteOf stored at → at < stored.geometry.blocks
  within at (inode ino place there is) = omega (arith, (node_of at ino place there is).1, zones_end stored.geometry geometry)
  within at (page ino number place there some is) = omega (arith, (data_of at ino number place there some is).1, zones_end stored.geometry geometry)
  within at (table block less is) = omega (arith, (table_of at block less is).1, zones_end stored.geometry geometry)
  within at (summary is) = omega (arith, (pack_of at (inr is)).1, geometry.least_blocks)
  within at (head is) = omega (arith, (pack_of at (inl is)).1, geometry.least_blocks)

  -- it writes no tail
  pub off_tails : (each : Side) (at : ℕ) → IsWriteOf stored at → at ≢ tail_address each
  off_tails each at (inode ino place there is) e = omega (arith, (node_of at ino place there is).0, (pack_range each).1, e)
  off_tails each at (page ino number place there some is) e = omega (arith, (data_of at ino number place there some is).0, (pack_range each).1, e)
  off_tails each at (table block less is) e = omega (arith, (table_of at block less is).0, (pack_range each).1, e)
  off_tails each at (summary is) e = (tail_apart (side_of stored.side) each).1 (sym e ∙ is)
  off_tails each at (head is) e = (tail_apart (side_of stored.side) each).0 (sym e ∙ is)

  -- it writes no head of the other pack
  pub off_head : (at : ℕ) → IsWriteOf stored at → at ≢ head_address (other_side (side_of stored.side))
  off_head at (inode ino place there is) e = omega (arith, (node_of at ino place there is).0, (pack_range (other_side (side_of stored.side))).1, e)
  off_head at (page ino number place there some is) e = omega (arith, (data_of at ino number place there some is).0, (pack_range (other_side (side_of stored.side))).1, e)
  off_head at (table block less is) e = omega (arith, (table_of at block less is).0, (pack_range (other_side (side_of stored.side))).1, e)
  off_head at (summary is) e = packs_skewed (side_of stored.side) (other_side (side_of stored.side)) (sym e ∙ is)
  off_head at (head is) e = packs_apart (side_of stored.side) (sym e ∙ is)

  -- it writes no summary of the other pack
  pub off_summary : (at : ℕ) → IsWriteOf stored at → at ≢ summary_address (other_side (side_of stored.side))
  off_summary at (inode ino place there is) e = omega (arith, (node_of at ino place there is).0, (pack_range (other_side (side_of stored.side))).1, e)
  off_summary at (page ino number place there some is) e = omega (arith, (data_of at ino number place there some is).0, (pack_range (other_side (side_of stored.side))).1, e)
  off_summary at (table block less is) e = omega (arith, (table_of at block less is).0, (pack_range (other_side (side_of stored.side))).1, e)
  off_summary at (summary is) e = packs_apart (side_of stored.side) (omega (arith, e, is))
  off_summary at (head is) e = packs_skewed (other_side (side_of stored.side)) (side_of stored.side) (sym is ∙ e)

  -- it writes no block of the other copy of the table
  pub off_copy : (block at : ℕ) → block < stored.geometry.nat → IsWriteOf stored at → at ≢ nat_address stored.geometry block (not stored.second)
  off_copy block at less (inode ino place there is) e = omega (arith, (node_of at ino place there is).0, (table_range stored.geometry block (not stored.second) less).1, e)
  off_copy block at less (page ino number place there some is) e = omega (arith, (data_of at ino number place there some is).0, (table_range stored.geometry block (not stored.second) less).1, e)
  off_copy block at less (table other more is) e = copies_apart stored.geometry block other stored.second less more (sym e ∙ is)
  off_copy block at less (summary is) e = omega (arith, (pack_of at (inr is)).1, (table_range stored.geometry block (not stored.second) less).0, e)
  off_copy block at less (head is) e = omega (arith, (pack_of at (inl is)).1, (table_range stored.geometry block (not stored.second) less).0, e)

  -- in the node zone it writes inodes alone
  pub in_nodes : (at : ℕ) → IsTrue (is_in_node stored.geometry at) → IsWriteOf stored at → IsInodeAt stored at
  in_nodes at zone (inode ino place there is) = record { ino = ino; place = place; there = there; is = is }
  in_nodes at zone (page ino number place there some is) = absurd (omega (arith, (data_of at ino number place there some is).0, (node_range stored.geometry at zone).1))
  in_nodes at zone (table block less is) = absurd (omega (arith, (table_of at block less is).1, (node_range stored.geometry at zone).0))
  in_nodes at zone (summary is) = absurd (omega (arith, (pack_of at (inr is)).1, (node_range stored.geometry at zone).0))
  in_nodes at zone (head is) = absurd (omega (arith, (pack_of at (inl is)).1, (node_range stored.geometry at zone).0))

  -- in the data zone it writes pages alone
  pub in_datas : (at : ℕ) → IsTrue (is_in_data stored.geometry at) → IsWriteOf stored at → IsPageAt stored at
  in_datas at zone (inode ino place there is) = absurd (omega (arith, (node_of at ino place there is).1, (data_range stored.geometry at zone).0))
  in_datas at zone (page ino number place there some is) = record { ino = ino; page = number; place = place; there = there; is = is }
  in_datas at zone (table block less is) = absurd (omega (arith, (table_of at block less is).1, (data_range stored.geometry at zone).0))
  in_datas at zone (summary is) = absurd (omega (arith, (pack_of at (inr is)).1, (data_range stored.geometry at zone).0))
  in_datas at zone (head is) = absurd (omega (arith, (pack_of at (inl is)).1, (data_range stored.geometry at zone).0))

-- a device that has the image's blocks has those of a plan
pub all_within : (stored : Stored) (blocks : ℕ) (plan : List Planned) → IsGeometry stored.geometry → IsPlaced stored.geometry stored.places → stored.geometry.blocks ≤ blocks
    → All (λ (one : Planned). IsWriteOf stored one.at) plan → All (λ (one : Planned). one.at < blocks) plan
all_within stored blocks plan geometry placed fits each =
    All-weaker (λ (one : Planned). IsWriteOf stored one.at) (λ (one : Planned). one.at < blocks) (λ one write. omega (arith, within stored geometry placed one.at write, fits)) plan each
