-- The nodes of the image are those of the places, and its pages are those of the places.
use Rattle.std.proofs.Common.{◌≡◌, ◌≢◌, ◌⊎◌, inl, inr, ℕ, zero, suc, ◌<◌, ◌≤◌, refl, sym, ap, ◌∙◌, subst, arith}
use Rattle.std.specs.Prelude.{Some}
use Rattle.std.specs.FinMap as map
use Rattle.std.proofs.lemmas.Bool.{cases_eq}
use Rattle.f2_model.specs.Tree.{Rows}
use Rattle.f2_image.specs.Images.{Image, block_at}
use Rattle.f2_image.specs.Packs.{Checkpoint}
use Rattle.f2_image.specs.Nodes.{node}
use Rattle.f2_image.specs.Reached.{nid_in, IsNode, inode, named, IsBasePage}
use Rattle.f2_image.proofs.OneBase.{same_some}
use Rattle.f2_stored.specs.Places.{NodeAt, Places, nid_of, nid_at}
use Rattle.f2_place_laws.proofs.Options.{the_one}
use Rattle.f2_place_laws.proofs.Offsets.{names, names_behind}
use Rattle.f2_place_laws.proofs.Stood.{IsStood, node_is_there, nid_some, block_is, node_of_nid}
use Rattle.f2_place_laws.proofs.Homes.{page_told, page_found}
use Rattle.f2_place_laws.proofs.Base.{home_of, in_tree, reached}

-- a node of the places
abbrev pub IsPlaced : Places → ℕ → ℕ → ℕ → Type 0
IsPlaced places ino offset nid = (n : NodeAt) × (map.get places.nodes (ino, offset) ≡ Some n) × (n.nid ≡ nid)

module _ (image : Image) (ckpt : Checkpoint) (tree : Rows) (places : Places) (is : IsStood image ckpt tree places) where
  -- each node of the image is one of the places
  pub placed : (ino offset nid : ℕ) → IsNode image ckpt ino offset nid → IsPlaced places ino offset nid
  placed _ _ _ (inode ino reach) =
      let row = in_tree image ckpt tree places is ino reach in
      let at = home_of image ckpt tree places is ino row.0 row.1 in
      (at.at, at.there, at.stands.placed.inode refl)
  placed _ _ _ (named ino offset nid slot lower block is_node there small under some) =
      let above = placed ino offset nid is_node in
      let stands = node_is_there image ckpt tree places is ino offset above.0 above.1 in
      let same : block ≡ block_at image above.0.at = same_some block _ (sym there ∙ ap (node image ckpt) (sym above.2) ∙ block_is image ckpt tree places ino offset above.0 stands) in
      let nid : nid_at places ino lower ≡ nid_in block offset slot = sym (stands.here.own.lower slot lower small under) ∙ ap (λ bytes. nid_in bytes offset slot) (sym same) in
      node_of_nid places ino lower (nid_in block offset slot) nid some

  -- and each of the places is one of the image: from the inode down
  inode_there : (ino offset : ℕ) (n : NodeAt) → offset ≡ 0 → map.get places.nodes (ino, offset) ≡ Some n → IsNode image ckpt ino offset n.nid
  inode_there ino offset n first there =
      let row = the_one (map.get tree ino) (is.stands.laid.nodes ino offset n there).row in
      let own : n.nid ≡ ino = (node_is_there image ckpt tree places is ino offset n there).placed.inode first in
      let top : IsNode image ckpt ino 0 ino = inode ino (reached image ckpt tree places is ino row.0 row.1) in
      subst (IsNode image ckpt ino offset) (sym own) (subst (λ o. IsNode image ckpt ino o ino) (sym first) top)

  node_below : (ino offset : ℕ) (n : NodeAt) → ((upper : ℕ) (m : NodeAt) → upper < offset → map.get places.nodes (ino, upper) ≡ Some m → IsNode image ckpt ino upper m.nid) → offset ≢ 0 → map.get places.nodes (ino, offset) ≡ Some n
      → IsNode image ckpt ino offset n.nid
  node_below ino offset n higher other there =
      let stands = node_is_there image ckpt tree places is ino offset n there in
      let above = stands.placed.above other in
      let behind = names_behind above.upper above.slot offset (names above.upper above.slot offset above.small above.names) in
      let up = the_one (map.get places.nodes (ino, above.upper)) above.there in
      let up_stands = node_is_there image ckpt tree places is ino above.upper up.0 up.1 in
      let block = block_at image up.0.at in
      let nid : nid_in block above.upper above.slot ≡ n.nid = up_stands.here.own.lower above.slot offset above.small above.names ∙ ap nid_of there in
      let some : nid_in block above.upper above.slot ≢ 0 = λ z. nid_some image ckpt tree places ino offset n stands (sym nid ∙ z) in
      subst (IsNode image ckpt ino offset) nid
      (named ino above.upper up.0.nid above.slot offset block (higher above.upper up.0 behind up.1) (block_is image ckpt tree places ino above.upper up.0 up_stands) above.small above.names some)

  node_up_to : (most ino offset : ℕ) (n : NodeAt) → offset ≤ most → map.get places.nodes (ino, offset) ≡ Some n → IsNode image ckpt ino offset n.nid
  node_up_to zero ino offset n low there = inode_there ino offset n (omega (arith, low)) there
  node_up_to (suc most) ino offset n low there = by_offset (λ upper m behind up. node_up_to most ino upper m (omega (arith, behind, low)) up) (cases_eq offset 0)
    where
      by_offset : ((upper : ℕ) (m : NodeAt) → upper < offset → map.get places.nodes (ino, upper) ≡ Some m → IsNode image ckpt ino upper m.nid) → (offset ≡ 0) ⊎ (offset ≢ 0) → IsNode image ckpt ino offset n.nid
      by_offset higher (inl first) = inode_there ino offset n first there
      by_offset higher (inr other) = node_below ino offset n higher other there

  pub node_there : (ino offset : ℕ) (n : NodeAt) → map.get places.nodes (ino, offset) ≡ Some n → IsNode image ckpt ino offset n.nid
  node_there ino offset n there = node_up_to offset ino offset n (omega arith) there

  -- each page of the image is one of the places
  pub page_placed : (ino page at : ℕ) → IsBasePage image ckpt ino page at → map.get places.pages (ino, page) ≡ Some at
  page_placed ino page at page_is =
      let row = in_tree image ckpt tree places is ino page_is.reached in
      let home = home_of image ckpt tree places is ino row.0 row.1 in
      page_told places ino page at (sym (page_found image ckpt tree places is ino row.0 home page_is.kind page_is.inode page page_is.is page_is.within) ∙ page_is.address) page_is.there
