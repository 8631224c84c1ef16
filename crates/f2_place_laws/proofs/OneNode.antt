-- A node of a file in an image has one nid.
use Rattle.std.proofs.Common.{◌≡◌, ℕ, ◌<◌, Some, sym, ap, ◌∙◌, subst, arith}
use Rattle.f2_image.specs.Images.{Image}
use Rattle.f2_image.specs.Packs.{Checkpoint}
use Rattle.f2_image.specs.Nodes.{node}
use Rattle.f2_image.specs.Reached.{offset_below, nids_of_node, nid_in, IsNode, inode, named}
use Rattle.f2_image.proofs.OneBase.{same_some}
use Rattle.f2_place_laws.proofs.Offsets.{names, names_behind}
use Rattle.f2_place_laws.proofs.Uppers.{one_upper, one_slot}

module _ (image : Image) (ckpt : Checkpoint) where
  -- what is named is no inode
  pub no_inode : (upper slot lower : ℕ) → slot < nids_of_node upper → offset_below upper slot ≡ Some lower → lower ≡ 0 → ⊥
  no_inode upper slot lower small under first = let behind = names_behind upper slot lower (names upper slot lower small under) in omega (arith, behind, first)

  pub one_nid : (ino offset nid : ℕ) → IsNode image ckpt ino offset nid → (file other own : ℕ) → IsNode image ckpt file other own → ino ≡ file → offset ≡ other → nid ≡ own
  one_nid _ _ _ (inode ino reach) _ _ _ (inode file reach_too) same at = same
  one_nid _ _ _ (inode ino reach) _ _ _ (named file upper nid slot lower block up there small under some) same at = absurd (no_inode upper slot lower small under (sym at))
  one_nid _ _ _ (named file upper nid slot lower block up there small under some) _ _ _ (inode ino reach) same at = absurd (no_inode upper slot lower small under at)
  one_nid _ _ _ (named ino upper nid slot lower block up there small under some) _ _ _ (named file above own place below bytes over found less beneath more) same at =
      let under_too : offset_below upper slot ≡ Some below = under ∙ ap Some at in
      let uppers : upper ≡ above = one_upper upper slot below small under_too ∙ sym (one_upper above place below less beneath) in
      let slots : slot ≡ place = one_slot upper slot place below small (subst (λ u. place < nids_of_node u) (sym uppers) less) under_too (ap (λ u. offset_below u place) uppers ∙ beneath) in
      let nids : nid ≡ own = one_nid ino upper nid up file above own over same uppers in
      let blocks : block ≡ bytes = same_some block bytes (sym there ∙ ap (node image ckpt) nids ∙ found) in
      λ i. nid_in (blocks i) (uppers i) (slots i)
