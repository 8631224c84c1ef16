-- What a zone keeps are addresses of the base, and what a mount finds in it are those of base, node log and marks.
use Rattle.std.specs.Prelude.{◌≡◌, ℕ, ◌≤◌, true, map as map_list, Contains}
use Rattle.std.specs.Ordering.{nat_cmp}
use Rattle.std.specs.FinSet as set
use Rattle.f2_format.specs.Geometry.{node_third, data_third}
use Rattle.f2_image.specs.Nodes.{node_address}
use Rattle.f2_image.specs.Chains.{chain}
use Rattle.f2_image.specs.Reached.{IsNode, IsBasePage}
use Rattle.f2_space.specs.Space.{Space}
use Rattle.f2_stored.specs.Layout.{Reference, Layout}

-- what a zone of node blocks keeps are the addresses of the base's nodes
pub record KeepsNodes (space : Space) (layout : Layout) : Type 0 where
  pub third : space.c ≡ node_third layout.base.ckpt.geom
  pub old : set.FinSet nat_cmp
  pub are : (at : ℕ) → set.contains old at ≡ true → (ino offset nid : ℕ) × (IsNode layout.base.image layout.base.ckpt ino offset nid × (node_address layout.base.image layout.base.ckpt nid ≡ at))
  pub kept : space.kept ≤ set.len old

-- what a zone of data blocks keeps are the addresses of the base's pages
pub record KeepsPages (space : Space) (layout : Layout) : Type 0 where
  pub third : space.c ≡ data_third layout.base.ckpt.geom
  pub old : set.FinSet nat_cmp
  pub are : (at : ℕ) → set.contains old at ≡ true → (ino page : ℕ) × IsBasePage layout.base.image layout.base.ckpt ino page at
  pub kept : space.kept ≤ set.len old

-- a node of the base stands at an address of an image, or a block of its node log
pub data IsFoundNode (held : Reference) (at : ℕ) : Type 0 where
  base : (ino offset nid : ℕ) → IsNode held.image held.ckpt ino offset nid → node_address held.image held.ckpt nid ≡ at → IsFoundNode held at
  logged : Contains (map_list (λ one. one.at) (chain held.image held.ckpt)) at → IsFoundNode held at
