-- Where the zones of a sound image stand, and what is read in them.
use Rattle.std.proofs.Common.{◌≡◌, ◌⊎◌, inl, inr, ℕ, ◌+◌, ◌-◌, ◌*◌, ◌/◌, ◌<◌, ◌≤◌, nat_lt, Bool, true, false, ◌&&◌, not, IsTrue, List, [], ◌∷◌, length, map as map_list, refl, sym, subst, arith}
use Rattle.std.specs.List.{Contains}
use Rattle.f2_format.specs.Geometry.{ImageGeometry, NAT_START, node_third, data_third, node_start, data_start, is_in_node, is_in_data}
use Rattle.f2_format.specs.Nat.{nat_block_of, is_second_copy}
use Rattle.f2_image.specs.Images.{Image, IsSized}
use Rattle.f2_image.specs.Images as images
use Rattle.f2_image.specs.Packs.{Checkpoint}
use Rattle.f2_image.specs.Nodes.{node_address}
use Rattle.f2_image.specs.Chains.{Logged}
use Rattle.f2_image.specs.Reached.{IsNode, IsPage}
use Rattle.f2_image.specs.Faults.{IsSound}
use Rattle.f2_image.specs.Faults as faults
use Rattle.f2_image_laws.specs.Chained.{Follow}
use Rattle.f2_image_laws.specs.Depending.{DependsOn, table, node, page}
use Rattle.f2_image_laws.proofs.Sound.{no_bad_nat}
use Rattle.f2_change_laws.proofs.Addresses.{node_range, data_range, table_range}

of_range : (low high at : ℕ) → low ≤ at → at < high → IsTrue (not (nat_lt at low) && nat_lt at high)
of_range low high at from to = grind (arith, from, to)

pub in_node : (geom : ImageGeometry) (first third at : ℕ) → first ≡ node_start geom → third ≡ node_third geom → first ≤ at → at < first + 3 * third → IsTrue (is_in_node geom at)
in_node geom first third at starts fills from to =
    of_range (node_start geom) (node_start geom + 3 * node_third geom) at (subst (λ n. n ≤ at) starts from) (subst (λ n. at < node_start geom + 3 * n) fills (subst (λ n. at < n + 3 * third) starts to))

pub in_data : (geom : ImageGeometry) (first third at : ℕ) → first ≡ data_start geom → third ≡ data_third geom → first ≤ at → at < first + 3 * third → IsTrue (is_in_data geom at)
in_data geom first third at starts fills from to =
    of_range (data_start geom) (data_start geom + 3 * data_third geom) at (subst (λ n. n ≤ at) starts from) (subst (λ n. at < data_start geom + 3 * n) fills (subst (λ n. at < n + 3 * third) starts to))

-- no address is in both
pub zones_apart : (geom : ImageGeometry) (at : ℕ) → IsTrue (is_in_node geom at) → IsTrue (is_in_data geom at) → ⊥
zones_apart geom at is also = let zone = node_range geom at is in omega (arith, zone.1, data_range geom at also)

-- both stand behind the packs
pub node_high : (geom : ImageGeometry) (at : ℕ) → IsTrue (is_in_node geom at) → NAT_START ≤ at
node_high geom at is = let zone = node_range geom at is in omega (arith, zone.0)

pub data_high : (geom : ImageGeometry) (at : ℕ) → IsTrue (is_in_data geom at) → NAT_START ≤ at
data_high geom at is = omega (arith, data_range geom at is)

-- both are on the device
in_blocks : (blocks nat at : ℕ) → 8 + 2 * nat + 3 * ((blocks - 8 - 2 * nat) / 12) ≤ at
    → at < 8 + 2 * nat + 3 * ((blocks - 8 - 2 * nat) / 12) + 3 * ((blocks - 8 - 2 * nat - 3 * ((blocks - 8 - 2 * nat) / 12)) / 3) → at < blocks
in_blocks blocks nat at from to = omega (arith, from, to)

before_blocks : (blocks nat at : ℕ) → 8 + 2 * nat ≤ at → at < 8 + 2 * nat + 3 * ((blocks - 8 - 2 * nat) / 12) → at < blocks
before_blocks blocks nat at from to = omega (arith, from, to)

blocks_there : (image : Image) (geom : ImageGeometry) → IsSized image geom → geom.blocks ≤ length image
blocks_there image geom (images.by_first right is) = subst (λ (e : ImageGeometry). e.blocks ≤ length image) (sym is) right.within
blocks_there image geom (images.by_second wrong right is) = subst (λ (e : ImageGeometry). e.blocks ≤ length image) (sym is) right.within

range_of : (low high at : ℕ) → IsTrue (not (nat_lt at low) && nat_lt at high) → (low ≤ at) × (at < high)
range_of low high at is = grind (arith, is)

pub node_there : (image : Image) (geom : ImageGeometry) (count at : ℕ) → IsSized image geom → length image ≡ count → IsTrue (is_in_node geom at) → at < count
node_there image geom count at sized long is =
    let range = range_of (node_start geom) (node_start geom + 3 * node_third geom) at is in
    let low : at < geom.blocks = before_blocks geom.blocks geom.nat at range.0 range.1 in
    omega (arith, low, blocks_there image geom sized, long)

pub data_there : (image : Image) (geom : ImageGeometry) (count at : ℕ) → IsSized image geom → length image ≡ count → IsTrue (is_in_data geom at) → at < count
data_there image geom count at sized long is =
    let range = range_of (data_start geom) (data_start geom + 3 * data_third geom) at is in
    let low : at < geom.blocks = in_blocks geom.blocks geom.nat at range.0 range.1 in
    omega (arith, low, blocks_there image geom sized, long)

-- blocks that follow each other begin at the first one's address
pub starts_at : (start next : ℕ) (log : List Logged) → Follow start log next → (start ≡ next) ⊎ Contains (map_list (λ one. one.at) log) start
starts_at start next [] follow = inl follow
starts_at start next (one ∷ rest) follow = inr (0, omega arith, follow.0)

pub none_in : (at : ℕ) → ¬ (Contains [] at)
none_in at (place, small, is) = omega (arith, small)

not_false : (b : Bool) → ¬ (b ≡ false) → IsTrue b
not_false true other = refl
not_false false other = absurd (other refl)

module _ (image : Image) (ckpt : Checkpoint) (sound : IsSound image ckpt) where
  node_in_zone : (ino offset nid : ℕ) → IsNode image ckpt ino offset nid → IsTrue (is_in_node ckpt.geom (node_address image ckpt nid))
  node_in_zone ino offset nid is = not_false (is_in_node ckpt.geom (node_address image ckpt nid)) (λ out. no_bad_nat image ckpt sound nid (faults.nowhere ino offset is out))

  -- in the data zone only pages are read for base and marks
  pub only_pages : (at : ℕ) → IsTrue (is_in_data ckpt.geom at) → ((ino number : ℕ) → ¬ (IsPage image ckpt ino number at)) → ¬ (DependsOn image ckpt at)
  only_pages at inside no_page (table nid less is) =
      let low = table_range ckpt.geom nid (is_second_copy ckpt.head.bitmap (nat_block_of nid)) less in
      omega (arith, low.1, is, data_range ckpt.geom at inside)
  only_pages at inside no_page (node ino offset nid is e) = zones_apart ckpt.geom at (subst (λ k. IsTrue (is_in_node ckpt.geom k)) (sym e) (node_in_zone ino offset nid is)) inside
  only_pages at inside no_page (page ino number is) = no_page ino number is
