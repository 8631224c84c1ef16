-- What is above and below a node of the base of an image.
use Rattle.std.proofs.Common.{◌≡◌, ◌≢◌, ℕ, ◌<◌, List, Some, IsSome, is_some, refl, sym, ap, ◌∙◌, subst}
use Rattle.std.specs.FinMap as map
use Rattle.f2_model.specs.Tree.{Rows}
use Rattle.f2_image.specs.Images.{Image}
use Rattle.f2_image.specs.Packs.{Checkpoint}
use Rattle.f2_image.specs.Nodes.{node}
use Rattle.f2_image.specs.Bases.{IsReached, root, below, IsBase}
use Rattle.f2_image.specs.Reached.{offset_below, nids_of_node, nid_in, IsNode, inode, named}
use Rattle.f2_image.proofs.OneBase.{same_some}
use Rattle.f2_place_laws.proofs.OneNode.{no_inode, one_nid}
use Rattle.f2_place_laws.proofs.Uppers.{upper_of, one_upper, one_slot}

module _ (image : Image) (ckpt : Checkpoint) where
  -- a node of a file that is reached
  pub node_reached : (ino offset nid : ℕ) → IsNode image ckpt ino offset nid → IsReached image ckpt ino
  node_reached _ _ _ (inode ino reach) = reach
  node_reached _ _ _ (named ino upper nid slot lower block up there small under some) = node_reached ino upper nid up

  -- what is reached is in the base
  pub in_base : (base : Rows) → IsBase image ckpt base → (ino : ℕ) → IsReached image ckpt ino → IsSome (map.get base ino)
  in_base base is _ root = ap is_some is.root.there
  in_base base is _ (below directory dentry up has) = ap is_some (is.names directory dentry up has).there

  -- the node above one that is no inode
  pub record HasUpper (ino offset : ℕ) : Type 0 where
    pub slot : ℕ
    pub small : slot < nids_of_node (upper_of offset)
    pub names : offset_below (upper_of offset) slot ≡ Some offset
    pub nid : ℕ
    pub up : IsNode image ckpt ino (upper_of offset) nid

  pub upper : (ino offset nid : ℕ) → IsNode image ckpt ino offset nid → offset ≢ 0 → HasUpper ino offset
  upper _ _ _ (inode ino reach) other = absurd (other refl)
  upper _ _ _ (named ino above nid slot lower block up there small under some) other =
      let same = one_upper above slot lower small under in
      record {
        slot = slot;
        small = subst (λ u. slot < nids_of_node u) same small;
        names = ap (λ u. offset_below u slot) (sym same) ∙ under;
        nid = nid;
        up = subst (λ u. IsNode image ckpt ino u nid) same up;
      }

  -- a node has the nid that the node above it tells
  pub told_above : (ino offset nid slot low own : ℕ) (block : List ℕ) → IsNode image ckpt ino offset nid → node image ckpt nid ≡ Some block → slot < nids_of_node offset → offset_below offset slot ≡ Some low
      → (file lower : ℕ) → IsNode image ckpt file lower own → file ≡ ino → lower ≡ low → own ≡ nid_in block offset slot
  told_above ino offset nid slot low _ block is_node there small under _ _ (inode file reach) same at = absurd (no_inode image ckpt offset slot low small under (sym at))
  told_above ino offset nid slot low _ block is_node there small under _ _ (named file above own place lower bytes up found less beneath some) same at =
      let beneath_too : offset_below above place ≡ Some low = beneath ∙ ap Some at in
      let uppers : above ≡ offset = one_upper above place low less beneath_too ∙ sym (one_upper offset slot low small under) in
      let slots : place ≡ slot = one_slot offset place slot low (subst (λ u. place < nids_of_node u) uppers less) small (ap (λ u. offset_below u place) (sym uppers) ∙ beneath_too) under in
      let nids : own ≡ nid = one_nid image ckpt file above own up ino offset nid is_node same uppers in
      let blocks : bytes ≡ block = same_some bytes block (sym found ∙ ap (node image ckpt) nids ∙ there) in
      λ i. nid_in (blocks i) (uppers i) (slots i)
