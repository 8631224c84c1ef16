-- The nids and the addresses of a node log, as far as its blocks were looked at.
use Rattle.std.specs.Prelude.{◌≡◌, ◌≢◌, ⊤, ℕ, ◌<◌, ◌≤◌, List, slice_index_or, Some}
use Rattle.std.specs.Ordering.{nat_cmp}
use Rattle.std.specs.FinMap as map
use Rattle.f2_format.specs.Footer.{footer_nid, footer_ino, footer_offset}
use Rattle.f2_format.specs.Geometry.{nid_limit}
use Rattle.f2_image.specs.Images.{Image}
use Rattle.f2_image.specs.Packs.{Checkpoint}
use Rattle.f2_image.specs.Nodes.{node_address}
use Rattle.f2_image.specs.Chains.{chain, no_block}
use Rattle.f2_image.specs.Reached.{IsNode, IsTaken}
use Rattle.f2_recover.specs.declared.faults.BadImage.TheVariants.{BadNat}
use Rattle.f2_recover.specs.declared.faults.MountFault.{MountFault}
use Rattle.f2_recover.specs.declared.faults.MountFault.TheVariants.{Bad, Read, Memory}
use Rattle.f2_overlay.specs.declared.holders.Holder.{Holder}

-- the nodes of blocks, by their nids
abbrev pub Holders : Type 0
Holders = map.FinMap nat_cmp Holder

-- the node whose block this is
abbrev pub owner_of : List ℕ → Holder
owner_of block = record { ino = footer_ino block; offset = footer_offset block }

-- a node that a block of the log has may have this nid beside the nodes of the base
pub record IsFitNid (image : Image) (ckpt : Checkpoint) (ino offset nid : ℕ) : Type 0 where
  pub least : 4 ≤ nid
  pub most : nid < nid_limit ckpt.geom
  pub inode : offset ≡ 0 → nid ≡ ino
  pub kept : (other : ℕ) → IsNode image ckpt ino offset other → other ≡ nid
  pub alone : (other more : ℕ) → IsNode image ckpt other more nid → (other ≡ ino) × (more ≡ offset)

-- a nid has this node now, which it had if it had any, and all others have what they had
pub record IsClaimed (old now : Holders) (nid : ℕ) (owner : Holder) : Type 0 where
  pub own : map.get now nid ≡ Some owner
  pub kept : (before : Holder) → map.get old nid ≡ Some before → before ≡ owner
  pub others : (other : ℕ) → other ≢ nid → map.get now other ≡ map.get old other

-- a nid has another node, or memory was refused
abbrev pub IsClaimFault : Holders → ℕ → Holder → MountFault → Type 0
IsClaimFault owners nid owner (Bad bad) = (bad ≡ BadNat nid) × ((other : Holder) × ((map.get owners nid ≡ Some other) × (other ≢ owner)))
IsClaimFault owners nid owner Read = ⊥
IsClaimFault owners nid owner Memory = ⊤

-- a block before a place is taken, and has this nid and this node
pub record IsClaimedBefore (image : Image) (ckpt : Checkpoint) (place nid : ℕ) (owner : Holder) : Type 0 where
  pub earlier : ℕ
  pub before : earlier < place
  pub block : List ℕ
  pub taken : IsTaken image ckpt earlier block
  pub nid_is : footer_nid block ≡ nid
  pub owner_is : owner_of block ≡ owner

-- the blocks before a place were looked at: none stands where a node of the base does, and the nids of those that are taken are right and
-- known with their nodes
pub record IsCheckedTo (image : Image) (ckpt : Checkpoint) (place : ℕ) (owners : Holders) : Type 0 where
  pub apart : (ino offset nid earlier : ℕ) → IsNode image ckpt ino offset nid → earlier < place → (slice_index_or (chain image ckpt) earlier no_block).at ≢ node_address image ckpt nid
  pub fit : (earlier : ℕ) (block : List ℕ) → IsTaken image ckpt earlier block → earlier < place → IsFitNid image ckpt (footer_ino block) (footer_offset block) (footer_nid block)
  pub known : (earlier : ℕ) (block : List ℕ) → IsTaken image ckpt earlier block → earlier < place → map.get owners (footer_nid block) ≡ Some (owner_of block)
  pub only : (nid : ℕ) (owner : Holder) → map.get owners nid ≡ Some owner → IsClaimedBefore image ckpt place nid owner
