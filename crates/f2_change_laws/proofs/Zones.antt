-- Where a sound image is read: its table before the node zone, its nodes in it, its pages in the data zone.
use Rattle.std.proofs.Common.{◌≡◌, ◌≢◌, ℕ, ◌≤◌, Bool, true, false, IsTrue, refl, sym, subst, arith}
use Rattle.f2_format.specs.Geometry.{NAT_START, is_in_node, is_in_data}
use Rattle.f2_format.specs.Nat.{nat_block_of, is_second_copy}
use Rattle.f2_image.specs.Images.{Image}
use Rattle.f2_image.specs.Packs.{Checkpoint, IsCheckpoint}
use Rattle.f2_image.specs.Nodes.{node_address}
use Rattle.f2_image.specs.Reached.{IsNode, IsPage}
use Rattle.f2_image.specs.Faults.{IsSound, BadNat, OutOfZone, VersionEnd}
use Rattle.f2_image.specs.Faults as faults
use Rattle.f2_image_laws.specs.Depending.{DependsOn, table, node, page}
use Rattle.f2_image_laws.proofs.Agreeing.{sound_table}
use Rattle.f2_change_laws.proofs.Addresses.{node_range, data_range, table_range}

not_false : (b : Bool) → ¬ (b ≡ false) → IsTrue b
not_false true other = refl
not_false false other = absurd (other refl)

pub version_some : (image : Image) (ckpt : Checkpoint) → IsCheckpoint image ckpt → 1 ≤ ckpt.head.version
version_some image ckpt checkpoint = subst (λ head. 1 ≤ head.version) (sym checkpoint.head) checkpoint.newest.valid.version

pub start_in_zone : (image : Image) (ckpt : Checkpoint) → IsCheckpoint image ckpt → IsTrue (is_in_node ckpt.geom ckpt.head.log_start)
start_in_zone image ckpt checkpoint = subst (λ head. IsTrue (is_in_node ckpt.geom head.log_start)) (sym checkpoint.head) checkpoint.newest.valid.log_start

module _ (image : Image) (ckpt : Checkpoint) (sound : IsSound image ckpt) where
  node_in_zone : (ino offset nid : ℕ) → IsNode image ckpt ino offset nid → IsTrue (is_in_node ckpt.geom (node_address image ckpt nid))
  node_in_zone ino offset nid is =
      not_false (is_in_node ckpt.geom (node_address image ckpt nid)) (λ out. sound BadNat nid no_end (sound_table image ckpt sound, faults.nowhere ino offset is out))
    where
      no_end : BadNat ≢ VersionEnd
      no_end e = cc

  page_in_zone : (ino number at : ℕ) → IsPage image ckpt ino number at → IsTrue (is_in_data ckpt.geom at)
  page_in_zone ino number at is = not_false (is_in_data ckpt.geom at) (λ out. sound OutOfZone at no_end (faults.page (sound_table image ckpt sound) ino number is out))
    where
      no_end : OutOfZone ≢ VersionEnd
      no_end e = cc

  -- above the packs
  pub depends_high : (at : ℕ) → DependsOn image ckpt at → NAT_START ≤ at
  depends_high at (table nid less is) = let range = table_range ckpt.geom nid (is_second_copy ckpt.head.bitmap (nat_block_of nid)) less in omega (arith, range.0, is)
  depends_high at (node ino offset nid is e) = let range = node_range ckpt.geom (node_address image ckpt nid) (node_in_zone ino offset nid is) in omega (arith, range.0, e)
  depends_high at (page ino number is) = let range = data_range ckpt.geom at (page_in_zone ino number at is) in omega (arith, range)

  -- in the node zone the nodes alone
  pub depends_off : (at : ℕ) → IsTrue (is_in_node ckpt.geom at) → ((ino offset nid : ℕ) → IsNode image ckpt ino offset nid → node_address image ckpt nid ≢ at) → ¬ (DependsOn image ckpt at)
  depends_off at inside no_node (table nid less is) =
      let range = table_range ckpt.geom nid (is_second_copy ckpt.head.bitmap (nat_block_of nid)) less in
      let zone = node_range ckpt.geom at inside in
      omega (arith, range.1, is, zone.0)
  depends_off at inside no_node (node ino offset nid is e) = no_node ino offset nid is (sym e)
  depends_off at inside no_node (page ino number is) =
      let range = data_range ckpt.geom at (page_in_zone ino number at is) in
      let zone = node_range ckpt.geom at inside in
      omega (arith, range, zone.1)
