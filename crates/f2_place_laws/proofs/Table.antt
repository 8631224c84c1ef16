-- What the node address table says goes together with the nodes of the places.
use Rattle.std.proofs.Common.{◌≡◌, ◌≢◌, ◌⊎◌, inl, inr, ℕ, ◌<◌, ◌≤◌, false, List, sym, ap, ◌∙◌, subst, arith, true≢false}
use Rattle.std.specs.Prelude.{Some}
use Rattle.f2_format.specs.Geometry.{is_in_node, nid_limit}
use Rattle.f2_format.specs.Footer.{footer_nid, footer_ino, footer_offset}
use Rattle.f2_model.specs.Tree.{Rows, ROOT}
use Rattle.f2_image.specs.Reached.{IsNode}
use Rattle.f2_image.specs.Faults as faults
use Rattle.f2_image.specs.Faults.{IsMisplaced, IsBadNat}
use Rattle.f2_image.specs.Images.{Image, block_at}
use Rattle.f2_image.specs.Packs.{Checkpoint}
use Rattle.f2_image.specs.Nodes.{node, node_address, place_of_nid}
use Rattle.f2_image.proofs.OneBase.{same_some}
use Rattle.f2_stored.specs.Places.{Places}
use Rattle.f2_place_laws.proofs.Refuted.{none_of_three}
use Rattle.f2_place_laws.proofs.Stood.{IsStood, node_is_there, address_is, block_is}
use Rattle.f2_place_laws.proofs.NoLog.{none_taken}
use Rattle.f2_place_laws.proofs.Nodes.{IsPlaced, placed, node_there}

module _ (image : Image) (ckpt : Checkpoint) (tree : Rows) (places : Places) (is : IsStood image ckpt tree places) where
  -- the address of a node
  pub at_place : (ino offset nid : ℕ) (own : IsPlaced places ino offset nid) → node_address image ckpt nid ≡ own.0.at
  at_place ino offset nid own = ap (node_address image ckpt) (sym own.2) ∙ address_is image ckpt tree places ino offset own.0 (node_is_there image ckpt tree places is ino offset own.0 own.1)

  -- a nid that has an address is one of a node
  all_reached : (nid : ℕ) → nid < nid_limit ckpt.geom → (place_of_nid image ckpt nid).1 ≢ 0 → ((ino offset : ℕ) → ¬ (IsNode image ckpt ino offset nid)) → ⊥
  all_reached nid within some none =
      let found = is.stands.table.only nid within some in
      none found.0 found.1 (subst (IsNode image ckpt found.0 found.1) found.2.2 (node_there image ckpt tree places is found.0 found.1 found.2.0 found.2.1))

  -- the footer of a node tells the node
  right_place : (ino offset nid : ℕ) (block : List ℕ) → IsNode image ckpt ino offset nid → node image ckpt nid ≡ Some block → IsMisplaced block ino offset nid → ⊥
  right_place ino offset nid block is_node there bad =
      let own = placed image ckpt tree places is ino offset nid is_node in
      let stands = node_is_there image ckpt tree places is ino offset own.0 own.1 in
      let same : block ≡ block_at image own.0.at = same_some block _ (sym there ∙ ap (node image ckpt) (sym own.2) ∙ block_is image ckpt tree places ino offset own.0 stands) in
      none_of_three (ap footer_nid same ∙ stands.here.own.footer_nid ∙ own.2) (ap footer_ino same ∙ stands.here.own.footer_ino) (ap footer_offset same ∙ stands.here.own.footer_offset) bad

  -- a low nid is the root's
  not_low : (ino offset nid : ℕ) → IsNode image ckpt ino offset nid → nid < 4 → (ino ≢ ROOT) ⊎ (offset ≢ 0) → ⊥
  not_low ino offset nid is_node small bad =
      let own = placed image ckpt tree places is ino offset nid is_node in
      by_part own.0.nid own.2 (node_is_there image ckpt tree places is ino offset own.0 own.1).placed.least bad
    where
      by_part : (n : ℕ) → n ≡ nid → (4 ≤ n) ⊎ ((ino ≡ ROOT) × (offset ≡ 0)) → (ino ≢ ROOT) ⊎ (offset ≢ 0) → ⊥
      by_part n own (inl high) bad = omega (arith, own, high, small)
      by_part n own (inr (root, first)) (inl other) = other root
      by_part n own (inr (root, first)) (inr other) = other first

  -- a node stands in its zone
  in_zone : (ino offset nid : ℕ) → IsNode image ckpt ino offset nid → is_in_node ckpt.geom (node_address image ckpt nid) ≡ false → ⊥
  in_zone ino offset nid is_node outside =
      let own = placed image ckpt tree places is ino offset nid is_node in
      true≢false (sym (node_is_there image ckpt tree places is ino offset own.0 own.1).here.in_zone ∙ sym (ap (is_in_node ckpt.geom) (at_place ino offset nid own)) ∙ outside)

  pub right_table : (nid : ℕ) → IsBadNat image ckpt nid → ⊥
  right_table nid (faults.entry bad) = is.stands.table.entries nid bad
  right_table nid (faults.unreached within some none) = all_reached nid within some none
  right_table nid (faults.too_low ino offset is_node small bad) = not_low ino offset nid is_node small bad
  right_table nid (faults.nowhere ino offset is_node outside) = in_zone ino offset nid is_node outside
  right_table nid (faults.misplaced ino offset block is_node there bad) = right_place ino offset nid block is_node there bad
  right_table nid (faults.no_nid place block taken own bad) = none_taken image ckpt is.none place block taken
  right_table nid (faults.taken place block ino offset taken own has bad) = none_taken image ckpt is.none place block taken
  right_table nid (faults.no_ino place block taken own first bad) = none_taken image ckpt is.none place block taken
  right_table nid (faults.other place block own taken is_nid is_node bad) = none_taken image ckpt is.none place block taken
