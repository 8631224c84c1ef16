-- What a zone keeps while a volume runs fits a third of it.
use Rattle.std.proofs.Common.{◌≡◌, inl, inr, ℕ, ◌≤◌, true, refl, sym, ap, ◌∙◌, arith}
use Rattle.std.specs.FinSet as set
use Rattle.std.proofs.lemmas.Bool.{cases_lt}
use Rattle.f2_format.specs.Geometry.{node_third, data_third}
use Rattle.f2_image.specs.Images.{Image}
use Rattle.f2_image.specs.Packs.{Checkpoint}
use Rattle.f2_image.specs.Nodes.{node_address}
use Rattle.f2_image.specs.Reached.{IsNode}
use Rattle.f2_image.specs.Faults.{IsSound, IsSomeNode, IsBaseBlock}
use Rattle.f2_image.specs.Faults as faults
use Rattle.f2_image_laws.proofs.Sound.{none_full}
use Rattle.f2_place_laws.proofs.OneNode.{one_nid}
use Rattle.f2_zone_laws.specs.Kept.{KeptNodesFit, KeptPagesFit}
use Rattle.f2_zone_laws.proofs.Counts.{Numbers, more_things}

module _ (image : Image) (ckpt : Checkpoint) where
  -- a node of the base, by ino and offset, stands at an address
  pub Stands : ℕ → ℕ × ℕ → Type 0
  Stands at node = (nid : ℕ) × (IsNode image ckpt node.0 node.1 nid × (node_address image ckpt nid ≡ at))

  one_address : (k q : ℕ) (node : ℕ × ℕ) → Stands k node → Stands q node → k ≡ q
  unfolding Stands
  one_address k q node (nid, (is, at)) (own, (also, other)) = sym at ∙ ap (node_address image ckpt) (one_nid image ckpt node.0 node.1 nid is node.0 node.1 own also refl refl) ∙ other

  some_node : (at : ℕ) (node : ℕ × ℕ) → Stands at node → IsSomeNode image ckpt node
  unfolding Stands
  some_node at node (nid, (is, stands)) = (nid, is)

  node_stands : (at : ℕ) → ((ino offset nid : ℕ) × (IsNode image ckpt ino offset nid × (node_address image ckpt nid ≡ at))) → (node : ℕ × ℕ) × Stands at node
  unfolding Stands
  node_stands at (ino, offset, nid, (is, stands)) = ((ino, offset), (nid, (is, stands)))

module _ (image : Image) (ckpt : Checkpoint) (sound : IsSound image ckpt) (s : Numbers) where
  -- addresses of nodes of a sound image's base
  pub nodes_few : ((at : ℕ) → set.contains s at ≡ true → (ino offset nid : ℕ) × (IsNode image ckpt ino offset nid × (node_address image ckpt nid ≡ at))) → set.len s ≤ node_third ckpt.geom
  nodes_few are = elim (cases_lt (node_third ckpt.geom) (set.len s)) as (λ _. set.len s ≤ node_third ckpt.geom) [
    | inl more ↦ absurd (none_full image ckpt sound (node_third ckpt.geom) (faults.base_nodes refl (more_things (Stands image ckpt) (one_address image ckpt) (IsSomeNode image ckpt) (some_node image ckpt) s (λ at there. node_stands image ckpt at (are at there)) (node_third ckpt.geom) more)))
    | inr few ↦ omega (arith, few)
  ]

  -- of its pages
  pub pages_few : ((at : ℕ) → set.contains s at ≡ true → IsBaseBlock image ckpt at) → set.len s ≤ data_third ckpt.geom
  pages_few are = elim (cases_lt (data_third ckpt.geom) (set.len s)) as (λ _. set.len s ≤ data_third ckpt.geom) [
    | inl more ↦ absurd (none_full image ckpt sound (data_third ckpt.geom) (faults.base_blocks refl (more_things (λ at block. IsBaseBlock image ckpt block × (at ≡ block)) (λ k q block is also. is.1 ∙ sym also.1) (IsBaseBlock image ckpt) (λ at block is. is.0) s (λ at there. (at, (are at there, refl))) (data_third ckpt.geom) more)))
    | inr few ↦ omega (arith, few)
  ]

pub kept_nodes_fit : KeptNodesFit
kept_nodes_fit lists layout state space keeps nodes =
    let few = nodes_few layout.base.image layout.base.ckpt keeps.base.means.sound nodes.old nodes.are in
    let kept = nodes.kept in
    let third = nodes.third in
    omega (arith, few, kept, third)

pub kept_pages_fit : KeptPagesFit
kept_pages_fit lists layout state space keeps pages =
    let few = pages_few layout.base.image layout.base.ckpt keeps.base.means.sound pages.old pages.are in
    let kept = pages.kept in
    let third = pages.third in
    omega (arith, few, kept, third)
