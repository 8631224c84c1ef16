-- A tree at its places takes no more nodes and blocks than the places have.
use Rattle.std.proofs.Common.{◌≡◌, ℕ, ◌≤◌, arith}
use Rattle.std.specs.FinMap as map
use Rattle.f2_format.specs.Geometry.{node_third, data_third}
use Rattle.f2_model.specs.Tree.{Rows}
use Rattle.f2_image.specs.Images.{Image}
use Rattle.f2_image.specs.Packs.{Checkpoint}
use Rattle.f2_image.specs.Reached.{HasMore}
use Rattle.f2_image.specs.Faults.{IsSomeNode, IsBaseBlock}
use Rattle.f2_stored.specs.Places.{Places}
use Rattle.f2_place_laws.proofs.Lists.{IsIn, all_of, no_more}
use Rattle.f2_place_laws.proofs.Keys.{key_in, value_in, length-keys, length-values}
use Rattle.f2_place_laws.proofs.Stood.{IsStood}
use Rattle.f2_place_laws.proofs.Nodes.{placed, page_placed}

module _ (image : Image) (ckpt : Checkpoint) (tree : Rows) (places : Places) (is : IsStood image ckpt tree places) where
  -- each node of the base is a key of the places
  in_keys : (at : ℕ × ℕ) → IsSomeNode image ckpt at → IsIn at (map.keys places.nodes)
  in_keys at (nid, is_node) = let own = placed image ckpt tree places is at.0 at.1 nid is_node in key_in places.nodes at own.0 own.1

  pub few_nodes : (limit : ℕ) → limit ≡ node_third ckpt.geom → HasMore (ℕ × ℕ) (IsSomeNode image ckpt) limit → ⊥
  few_nodes limit third more =
      let few = no_more more.some (map.keys places.nodes) more.differ (all_of (IsSomeNode image ckpt) (λ at. IsIn at (map.keys places.nodes)) in_keys more.some more.all) in
      let long = length-keys places.nodes in
      let room = is.stands.laid.few_nodes in
      let past = more.more in
      omega (arith, few, long, room, past, third)

  -- each block of the base is a value of the places
  in_values : (at : ℕ) → IsBaseBlock image ckpt at → IsIn at (map.values places.pages)
  in_values at (ino, page, page_is) = value_in places.pages (ino, page) at (page_placed image ckpt tree places is ino page at page_is)

  pub few_blocks : (limit : ℕ) → data_third ckpt.geom ≤ limit → HasMore ℕ (IsBaseBlock image ckpt) limit → ⊥
  few_blocks limit third more =
      let few = no_more more.some (map.values places.pages) more.differ (all_of (IsBaseBlock image ckpt) (λ at. IsIn at (map.values places.pages)) in_values more.some more.all) in
      let long = length-values places.pages in
      let room = is.stands.laid.few_pages in
      let past = more.more in
      omega (arith, few, long, room, past, third)
