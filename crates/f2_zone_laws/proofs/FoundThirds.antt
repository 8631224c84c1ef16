-- What a mount finds in a zone fits two thirds of it.
use Rattle.std.proofs.Common.{◌≡◌, ◌≢◌, inl, inr, ℕ, ◌*◌, ◌≤◌, true, List, length, map as map_list, refl, sym, ◌∙◌, arith}
use Rattle.std.specs.List.{AllByRecursion}
use Rattle.std.specs.FinSet as set
use Rattle.std.proofs.lemmas.Bool.{cases_lt}
use Rattle.std.proofs.lemmas.List.{length-map}
use Rattle.f2_format.specs.Geometry.{node_third, data_third}
use Rattle.f2_image.specs.Images.{Image}
use Rattle.f2_image.specs.Packs.{Checkpoint}
use Rattle.f2_image.specs.Nodes.{node_address}
use Rattle.f2_image.specs.Chains.{chain}
use Rattle.f2_image.specs.Reached.{IsNode}
use Rattle.f2_image.specs.Faults.{IsSound, IsSomeBlock, ChainLong, VersionEnd}
use Rattle.f2_image.specs.Faults as faults
use Rattle.f2_image_laws.proofs.Sound.{none_full}
use Rattle.f2_stored.specs.Layout.{Reference}
use Rattle.f2_zone_laws.specs.Keeping.{IsFoundNode, base, logged}
use Rattle.f2_zone_laws.specs.Kept.{FoundNodesFit, FoundPagesFit}
use Rattle.f2_zone_laws.proofs.Counts.{Numbers, more_things, without, without_fewer, without_in, not_among}
use Rattle.f2_zone_laws.proofs.KeptThirds.{nodes_few}

-- the node log of a sound image is no longer than a third of the zone
chain_short : (image : Image) (ckpt : Checkpoint) → IsSound image ckpt → length (chain image ckpt) ≤ node_third ckpt.geom
chain_short image ckpt sound = elim (cases_lt (node_third ckpt.geom) (length (chain image ckpt))) as (λ _. length (chain image ckpt) ≤ node_third ckpt.geom) [
  | inl long ↦ absurd (sound ChainLong _ no_end (long, refl))
  | inr short ↦ omega (arith, short)
]
  where
    no_end : ChainLong ≢ VersionEnd
    no_end e = cc

module _ (held : Reference) (found : Numbers) (are : (at : ℕ) → set.contains found at ≡ true → IsFoundNode held at) where
  abbrev log : List ℕ
  log = map_list (λ one. one.at) (chain held.image held.ckpt)

  -- what is no block of the log is a node of the base
  off_log : (at : ℕ) → AllByRecursion (λ k. at ≢ k) log → IsFoundNode held at → (ino offset nid : ℕ) × (IsNode held.image held.ckpt ino offset nid × (node_address held.image held.ckpt nid ≡ at))
  off_log at off (base ino offset nid is stands) = (ino, offset, nid, (is, stands))
  off_log at off (logged there) = absurd (not_among log at off there)

  off_log_all : (at : ℕ) → set.contains (without found log) at ≡ true → (ino offset nid : ℕ) × (IsNode held.image held.ckpt ino offset nid × (node_address held.image held.ckpt nid ≡ at))
  off_log_all at there = let kept = without_in found log at there in off_log at kept.1 (are at kept.0)

pub found_nodes_fit : FoundNodesFit
found_nodes_fit lists layout state found keeps are =
    let held = layout.base in
    let off = nodes_few held.image held.ckpt keeps.base.means.sound (without found (log held found are)) (off_log_all held found are) in
    let rest = without_fewer found (log held found are) in
    let long = length-map (chain held.image held.ckpt) (λ one. one.at) in
    let short = chain_short held.image held.ckpt keeps.base.means.sound in
    omega (arith, off, rest, long, short)

pub found_pages_fit : FoundPagesFit
found_pages_fit lists layout state found keeps are = elim (cases_lt (2 * data_third layout.base.ckpt.geom) (set.len found)) as (λ _. set.len found ≤ 2 * data_third layout.base.ckpt.geom) [
  | inl more ↦ absurd (none_full image ckpt keeps.base.means.sound (2 * data_third ckpt.geom) (faults.all_blocks refl (more_things (λ at block. IsSomeBlock image ckpt block × (at ≡ block)) (λ k q block is also. is.1 ∙ sym also.1) (IsSomeBlock image ckpt) (λ at block is. is.0) found (λ at there. (at, (are at there, refl))) (2 * data_third ckpt.geom) more)))
  | inr few ↦ omega (arith, few)
]
  where
    image : Image
    image = layout.base.image

    ckpt : Checkpoint
    ckpt = layout.base.ckpt
