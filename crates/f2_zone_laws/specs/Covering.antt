-- What a zone counts as in use has all that stands there or may.
use Rattle.std.specs.Prelude.{◌≡◌, ◌≢◌, ℕ, true, IsTrue, map as map_list, Contains, Some}
use Rattle.std.specs.FinMap as map
use Rattle.std.specs.FinSet as set
use Rattle.f2_format.specs.Geometry.{node_start, node_third, data_start, data_third, is_in_node, is_in_data}
use Rattle.f2_image.specs.Nodes.{node_address}
use Rattle.f2_image.specs.Chains.{chain}
use Rattle.f2_image.specs.Reached.{IsNode, IsBasePage, IsMarkedPage}
use Rattle.f2_image_laws.specs.Chained.{Follow}
use Rattle.f2_space.specs.Space.{Space}
use Rattle.f2_stored.specs.Layout.{Layout}
use Rattle.f2_stored.specs.Logs.{log_addresses}
use Rattle.f2_stored.specs.Places.{NodeAt, Places}
use Rattle.f2_stored.specs.Changes.{IsReadOfSome}

-- the zone of node blocks: the nodes of the base and of a pending tree, the node log with its next address, and the nodes of the live tree;
-- a page of base, marks or live tree that stood here too
pub record CoversNodes (space : Space) (layout : Layout) (places : Places) : Type 0 where
  pub first : space.first ≡ node_start layout.base.ckpt.geom
  pub third : space.c ≡ node_third layout.base.ckpt.geom
  pub base : (ino offset nid : ℕ) → IsNode layout.base.image layout.base.ckpt ino offset nid → set.contains space.used (node_address layout.base.image layout.base.ckpt nid) ≡ true
  pub log : (at : ℕ) → Contains (log_addresses layout) at → set.contains space.used at ≡ true
  pub next : layout.next ≢ 0 → set.contains space.used layout.next ≡ true
  pub pending : (at : ℕ) → IsReadOfSome layout.pending at → IsTrue (is_in_node layout.base.ckpt.geom at) → set.contains space.used at ≡ true
  pub live : (ino offset : ℕ) (node : NodeAt) → map.get places.nodes (ino, offset) ≡ Some node → node.at ≢ 0 → set.contains space.used node.at ≡ true
  pub owners : (at : ℕ) (owner : ℕ × ℕ) → map.get layout.owners at ≡ Some owner → IsTrue (is_in_node layout.base.ckpt.geom at) → set.contains space.used at ≡ true
  pub pages : (ino page at : ℕ) → map.get places.pages (ino, page) ≡ Some at → IsTrue (is_in_node layout.base.ckpt.geom at) → set.contains space.used at ≡ true

-- the zone of data blocks: the pages of the base and of its marks, of a pending tree, and of the live tree; a node of the live tree that
-- stood here too
pub record CoversPages (space : Space) (layout : Layout) (places : Places) : Type 0 where
  pub first : space.first ≡ data_start layout.base.ckpt.geom
  pub third : space.c ≡ data_third layout.base.ckpt.geom
  pub base : (ino page at : ℕ) → IsBasePage layout.base.image layout.base.ckpt ino page at → set.contains space.used at ≡ true
  pub owners : (at : ℕ) (owner : ℕ × ℕ) → map.get layout.owners at ≡ Some owner → set.contains space.used at ≡ true
  pub pending : (at : ℕ) → IsReadOfSome layout.pending at → IsTrue (is_in_data layout.base.ckpt.geom at) → set.contains space.used at ≡ true
  pub live : (ino page at : ℕ) → map.get places.pages (ino, page) ≡ Some at → at ≢ 0 → set.contains space.used at ≡ true
  pub nodes : (ino offset : ℕ) (node : NodeAt) → map.get places.nodes (ino, offset) ≡ Some node → IsTrue (is_in_data layout.base.ckpt.geom node.at) → set.contains space.used node.at ≡ true

-- while a mount is at work, the zone of node blocks has the node log that it found too, and the address where that ends
pub record CoversFoundLog (space : Space) (layout : Layout) : Type 0 where
  pub chained : (at : ℕ) → Contains (map_list (λ one. one.at) (chain layout.base.image layout.base.ckpt)) at → set.contains space.used at ≡ true
  pub ends : (next : ℕ) → Follow layout.base.ckpt.head.log_start (chain layout.base.image layout.base.ckpt) next → next ≢ 0 → set.contains space.used next ≡ true

-- and the zone of data blocks the pages of the marks that it found; a position of a node log that stood here too
pub record CoversFoundMarks (space : Space) (layout : Layout) : Type 0 where
  pub marked : (ino page at : ℕ) → IsMarkedPage layout.base.image layout.base.ckpt ino page at → set.contains space.used at ≡ true
  pub log : (at : ℕ) → Contains (log_addresses layout) at → IsTrue (is_in_data layout.base.ckpt.geom at) → set.contains space.used at ≡ true
  pub next : IsTrue (is_in_data layout.base.ckpt.geom layout.next) → set.contains space.used layout.next ≡ true
