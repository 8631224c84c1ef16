-- What the node address table, the nodes and the node log say of a nid goes together.
use Rattle.std.proofs.Common.{◌≡◌, ◌≢◌, ◌⊎◌, inl, inr, ℕ, ◌<◌, ◌≤◌, List, Some, sym, ap, ◌∙◌, subst, arith}
use Rattle.std.proofs.lemmas.Bool.{both_ways}
use Rattle.std.proofs.lemmas.Option.{same_Some}
use Rattle.f2_format.specs.Footer.{footer_nid, footer_ino, footer_offset}
use Rattle.f2_model.specs.Tree.{ROOT}
use Rattle.f2_image.specs.Images.{Image}
use Rattle.f2_image.specs.Packs.{Checkpoint}
use Rattle.f2_image.specs.Nodes.{node}
use Rattle.f2_image.specs.Reached.{IsNode}
use Rattle.f2_image.specs.Faults as faults
use Rattle.f2_image.specs.Faults.{HasNid, IsNoNid, IsMisplaced, IsBadNat}
use Rattle.f2_overlay.specs.Nodes.{IsRightNid, HasRightNids}
use Rattle.f2_recover_laws.specs.Sound.{HasRightNodes}
use Rattle.f2_overlay_laws.proofs.Refuted.{neither, none_of_three}

module _ (image : Image) (ckpt : Checkpoint) (nodes : HasRightNodes image ckpt) where
  -- a low nid is the root's
  not_low : (ino offset nid : ℕ) → IsNode image ckpt ino offset nid → nid < 4 → (ino ≢ ROOT) ⊎ (offset ≢ 0) → ⊥
  not_low ino offset nid is low other = by (nodes.nodes ino offset nid is).1.least
    where
      by : (4 ≤ nid) ⊎ ((ino ≡ ROOT) × (offset ≡ 0)) → ⊥
      by (inl high) = omega (arith, low, high)
      by (inr root) = neither root.0 root.1 other

  -- the footer of a node tells the node
  right_place : (ino offset nid : ℕ) (block : List ℕ) → IsNode image ckpt ino offset nid → node image ckpt nid ≡ Some block → IsMisplaced block ino offset nid → ⊥
  right_place ino offset nid block is there bad =
      let read = nodes.nodes ino offset nid is in
      let same : read.0 ≡ block = same_Some read.0 block (sym read.1.there ∙ there) in
      none_of_three (ap footer_nid (sym same) ∙ read.1.footer_nid_is) (ap footer_ino (sym same) ∙ read.1.footer_ino_is) (ap footer_offset (sym same) ∙ read.1.footer_offset_is) bad

  -- a nid that recovery takes is one that a file can have
  may_be : (nid : ℕ) (block : List ℕ) → IsRightNid image ckpt block → footer_nid block ≡ nid → IsNoNid ckpt nid → ⊥
  may_be nid block right own (inl low) = let least = right.least in omega (arith, least, own, low)
  may_be nid block right own (inr high) = let most = right.most in omega (arith, most, own, high)

  -- and no other node has it
  not_taken : (nid ino offset : ℕ) (block : List ℕ) → IsRightNid image ckpt block → footer_nid block ≡ nid → HasNid image ckpt ino offset nid → (footer_ino block ≢ ino) ⊎ (footer_offset block ≢ offset) → ⊥
  not_taken nid ino offset block right own has other =
      let one = right.alone ino offset (subst (λ n. HasNid image ckpt ino offset n) (sym own) has) in
      neither (sym one.0) (sym one.1) other

  pub right_table : HasRightNids image ckpt → (nid : ℕ) → IsBadNat image ckpt nid → ⊥
  right_table right nid (faults.entry bad) = nodes.entries nid bad
  right_table right nid (faults.unreached within some none) = let is = nodes.reached nid within some in none is.0 is.1 is.2
  right_table right nid (faults.too_low ino offset is low other) = not_low ino offset nid is low other
  right_table right nid (faults.nowhere ino offset is outside) = both_ways _ outside (nodes.nodes ino offset nid is).1.in_zone
  right_table right nid (faults.misplaced ino offset block is there bad) = right_place ino offset nid block is there bad
  right_table right nid (faults.no_nid place block taken own none) = may_be nid block (right place block taken) own none
  right_table right nid (faults.taken place block ino offset taken own has other) = not_taken nid ino offset block (right place block taken) own has other
  right_table right nid (faults.no_ino place block taken own first other) = other (sym own ∙ (right place block taken).inode first)
  right_table right nid (faults.other place block base taken own is other) = other ((right place block taken).kept base is ∙ own)
