-- A proper tree that stands at its places, and its nodes in the image.
use Rattle.std.proofs.Common.{◌≡◌, ◌≢◌, ◌⊎◌, inl, inr, ℕ, ◌<◌, ◌≤◌, ◌==◌, nat_lt, nat_le, not, ◌||◌, true, cond, [], refl, sym, ap, ◌∙◌, arith}
use Rattle.std.specs.Prelude.{Option, Some, None}
use Rattle.std.specs.FinMap as map
use Rattle.std.proofs.lemmas.Bool.{and_parts, not-true, ltb-false, lt-leb, ne_eqb}
use Rattle.f2_format.specs.Geometry.{ImageGeometry, node_start, data_start, nid_limit, is_in_node, is_in_data}
use Rattle.f2_model.specs.Tree.{Rows, ROOT}
use Rattle.f2_image.specs.Images.{Image, block_at}
use Rattle.f2_image.specs.Packs.{Checkpoint}
use Rattle.f2_image.specs.Nodes.{node_address, place_of_nid, block_there, node}
use Rattle.f2_image.specs.Chains.{chain}
use Rattle.f2_room_laws.specs.ProperTrees.{IsProperTree}
use Rattle.f2_image_laws.specs.Rolled.{image_limits}
use Rattle.f2_stored.specs.Places.{NodeAt, Places, nid_of, nid_at, IsNodePlaced}
use Rattle.f2_stored.specs.Trees.{IsNodeHere, IsTreeAt}

-- a proper tree stands at its places in an image with no node log
pub record IsStood (image : Image) (ckpt : Checkpoint) (tree : Rows) (places : Places) : Type 0 where
  pub none : chain image ckpt ≡ []
  pub proper : IsProperTree (image_limits ckpt.geom) tree
  pub stands : IsTreeAt image ckpt tree places

-- a node of the tree stands at its place: the table tells its address, and the block there is its own
pub record IsNodeThere (image : Image) (ckpt : Checkpoint) (tree : Rows) (places : Places) (ino offset : ℕ) (node : NodeAt) : Type 0 where
  pub entry : (place_of_nid image ckpt node.nid).1 ≡ node.at
  pub placed : IsNodePlaced ckpt.geom tree places ino offset node
  pub here : IsNodeHere ckpt.geom tree places ino offset node (block_at image node.at)

pub node_is_there : (image : Image) (ckpt : Checkpoint) (tree : Rows) (places : Places) → IsStood image ckpt tree places → (ino offset : ℕ) (node : NodeAt) → map.get places.nodes (ino, offset) ≡ Some node
    → IsNodeThere image ckpt tree places ino offset node
node_is_there image ckpt tree places is ino offset node there =
    record { entry = is.stands.table.told ino offset node there; placed = is.stands.laid.nodes ino offset node there; here = is.stands.nodes ino offset node there }

-- an address in a zone is one
pub in_node_some : (geom : ImageGeometry) (at : ℕ) → is_in_node geom at ≡ true → at ≢ 0
in_node_some geom at inside none =
    let past : node_start geom ≤ at = ltb-false at (node_start geom) (not-true (nat_lt at (node_start geom)) (and_parts (not (nat_lt at (node_start geom))) _ inside).0) in
    omega (arith, past, none)

pub in_data_some : (geom : ImageGeometry) (at : ℕ) → is_in_data geom at ≡ true → at ≢ 0
in_data_some geom at inside none =
    let past : data_start geom ≤ at = ltb-false at (data_start geom) (not-true (nat_lt at (data_start geom)) (and_parts (not (nat_lt at (data_start geom))) _ inside).0) in
    omega (arith, past, none)

-- the block at an address
pub block_is_there : (image : Image) (at : ℕ) → at ≢ 0 → block_there image at ≡ Some (block_at image at)
block_is_there image at some = ap (λ b. cond b None (Some (block_at image at))) (ne_eqb at 0 some)

-- a nid of the table has the address that the table says
pub address_of : (nid limit at : ℕ) → nid ≢ 0 → nid < limit → cond ((nid == 0) || nat_le limit nid) 0 at ≡ at
address_of nid limit at some within =
    ap (λ b. cond (b || nat_le limit nid) 0 at) (ne_eqb nid 0 some) ∙ ap (λ b. cond b 0 at) (lt-leb limit nid within)

module _ (image : Image) (ckpt : Checkpoint) (tree : Rows) (places : Places) (ino offset : ℕ) (n : NodeAt) (there : IsNodeThere image ckpt tree places ino offset n) where
  pub nid_some : n.nid ≢ 0
  nid_some = by_part there.placed.least there.placed.inode
    where
      by_part : (4 ≤ n.nid) ⊎ ((ino ≡ ROOT) × (offset ≡ 0)) → (offset ≡ 0 → n.nid ≡ ino) → n.nid ≢ 0
      by_part (inl high) inode zero = omega (arith, high, zero)
      by_part (inr (root, first)) inode zero = let own = inode first in omega (arith, own, root, zero)

  pub address_is : node_address image ckpt n.nid ≡ n.at
  address_is = address_of n.nid (nid_limit ckpt.geom) _ nid_some there.placed.most ∙ there.entry

  pub address_some : n.at ≢ 0
  address_some = in_node_some ckpt.geom n.at there.here.in_zone

  pub block_is : node image ckpt n.nid ≡ Some (block_at image n.at)
  block_is = ap (block_there image) address_is ∙ block_is_there image n.at address_some

-- a nid other than 0 is that of a node of the places
pub node_of_nid : (places : Places) (ino offset nid : ℕ) → nid_at places ino offset ≡ nid → nid ≢ 0 → (n : NodeAt) × (map.get places.nodes (ino, offset) ≡ Some n) × (n.nid ≡ nid)
node_of_nid places ino offset nid is some = by_node (map.get places.nodes (ino, offset)) refl
  where
    by_node : (o : Option NodeAt) → map.get places.nodes (ino, offset) ≡ o → (n : NodeAt) × (map.get places.nodes (ino, offset) ≡ Some n) × (n.nid ≡ nid)
    by_node None e = absurd (some (sym is ∙ ap nid_of e))
    by_node (Some n) e = (n, e, sym (ap nid_of e) ∙ is)
