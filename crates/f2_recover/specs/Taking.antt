-- Addresses that nodes and pages take, one after another.
use Rattle.std.specs.Prelude.{◌≡◌, ◌⊎◌, ℕ, ◌*◌, ◌<◌, Bool, true, false, IsTrue, List, refl}
use Rattle.std.specs.Ordering.{nat_cmp}
use Rattle.std.specs.Coded.{Coded, code_by, coded×, coded_ℕ}
use Rattle.std.specs.FinSet as set
use Rattle.f2_bitset.specs.Numbers.{Numbers}
use Rattle.f2_format.specs.Geometry.{ImageGeometry, node_third, data_third, node_start, data_start, is_in_data, nid_limit}
use Rattle.f2_image.specs.Images.{Image}
use Rattle.f2_image.specs.Packs.{Checkpoint}
use Rattle.f2_image.specs.Nodes.{node_address}
use Rattle.f2_image.specs.Reached.{IsNode, IsBasePage}
use Rattle.f2_recover.specs.Reading.{IsNodeRead}
use Rattle.f2_recover.specs.declared.zones.Unfit.{Unfit}
use Rattle.f2_recover.specs.declared.zones.Unfit.TheVariants.{Outside, Used}

-- the addresses of both zones that were taken, and the nids of the nodes
pub record Taken : Type 0 where
  pub geom : ImageGeometry
  pub nodes : set.FinSet nat_cmp
  pub pages : set.FinSet nat_cmp
  pub nids : set.FinSet nat_cmp

abbrev pub taken_code : Coded Taken
taken_code =
    code_by ((ℕ × ℕ) × (set.FinSet nat_cmp × (set.FinSet nat_cmp × set.FinSet nat_cmp))) (coded× (coded× coded_ℕ coded_ℕ) (coded× (set.code coded_ℕ) (coded× (set.code coded_ℕ) (set.code coded_ℕ))))
    (λ t. ((t.geom.blocks, t.geom.nat), (t.nodes, (t.pages, t.nids)))) (λ p. record { geom = record { blocks = p.0.0; nat = p.0.1 }; nodes = p.1.0; pages = p.1.1.0; nids = p.1.1.1 }) (λ _. refl)

-- sets of numbers of the two zones and of the table
pub record AreZones (geom : ImageGeometry) (nodes pages nids : Numbers) : Type 0 where
  pub node_first : nodes.first ≡ node_start geom
  pub node_count : nodes.count ≡ 3 * node_third geom
  pub page_first : pages.first ≡ data_start geom
  pub page_count : pages.count ≡ 3 * data_third geom
  pub nid_first : nids.first ≡ 0
  pub nid_count : nids.count ≡ nid_limit geom

-- why an address isn't taken: it isn't in its zone, or was taken before
abbrev pub IsUnfit : Bool → Bool → Unfit → Type 0
IsUnfit inside taken Outside = inside ≡ false
IsUnfit inside taken Used = (inside ≡ true) × (taken ≡ true)

-- a node or a page came before: its file was read before, or it is an earlier one of this file
abbrev pub IsBefore : set.FinSet nat_cmp → ℕ → ℕ → ℕ → ℕ → Type 0
IsBefore inos ino limit other more = (set.contains inos other ≡ true) ⊎ ((other ≡ ino) × (more < limit))

-- the address of an earlier node, and of an earlier page
pub record TakenNode (image : Image) (ckpt : Checkpoint) (inos : set.FinSet nat_cmp) (ino limit at : ℕ) : Type 0 where
  pub other : ℕ
  pub more : ℕ
  pub nid : ℕ
  pub is : IsNode image ckpt other more nid
  pub address : node_address image ckpt nid ≡ at
  pub before : IsBefore inos ino limit other more

pub record TakenPage (image : Image) (ckpt : Checkpoint) (inos : set.FinSet nat_cmp) (ino limit at : ℕ) : Type 0 where
  pub other : ℕ
  pub more : ℕ
  pub is : IsBasePage image ckpt other more at
  pub before : IsBefore inos ino limit other more

-- the nid of a node
pub record TakenNid (image : Image) (ckpt : Checkpoint) (nid : ℕ) : Type 0 where
  pub ino : ℕ
  pub offset : ℕ
  pub is : IsNode image ckpt ino offset nid

-- a node is right: it stands in its zone under its footer, and its address was taken
pub record IsRightNode (image : Image) (ckpt : Checkpoint) (taken : Taken) (ino offset nid : ℕ) : Type 0 where
  pub block : List ℕ
  pub read : IsNodeRead image ckpt ino offset nid (node_address image ckpt nid) block
  pub taken_is : set.contains taken.nodes (node_address image ckpt nid) ≡ true
  pub nid_is : set.contains taken.nids nid ≡ true

-- so is a page
pub record IsRightPage (ckpt : Checkpoint) (taken : Taken) (at : ℕ) : Type 0 where
  pub in_zone : IsTrue (is_in_data ckpt.geom at)
  pub taken_is : set.contains taken.pages at ≡ true

-- what was taken are addresses of files that were read before, and of this file's nodes and pages below two limits; all of those
-- are right, and no two of them have one address
pub record AreTaken (image : Image) (ckpt : Checkpoint) (inos : set.FinSet nat_cmp) (ino offset page : ℕ) (taken : Taken) : Type 0 where
  pub fresh : set.contains inos ino ≡ false
  pub nodes : (at : ℕ) → set.contains taken.nodes at ≡ true → TakenNode image ckpt inos ino offset at
  pub pages : (at : ℕ) → set.contains taken.pages at ≡ true → TakenPage image ckpt inos ino page at
  pub nids : (nid : ℕ) → set.contains taken.nids nid ≡ true → TakenNid image ckpt nid
  pub right_nodes : (other more nid : ℕ) → IsNode image ckpt other more nid → IsBefore inos ino offset other more → IsRightNode image ckpt taken other more nid
  pub right_pages : (other more at : ℕ) → IsBasePage image ckpt other more at → IsBefore inos ino page other more → IsRightPage ckpt taken at
  pub nodes_apart : (other more nid own place one : ℕ) → IsNode image ckpt other more nid → IsNode image ckpt own place one → IsBefore inos ino offset other more → IsBefore inos ino offset own place
      → node_address image ckpt nid ≡ node_address image ckpt one → (other ≡ own) × (more ≡ place)
  pub pages_apart : (other more own place at : ℕ) → IsBasePage image ckpt other more at → IsBasePage image ckpt own place at → IsBefore inos ino page other more → IsBefore inos ino page own place
      → (other ≡ own) × (more ≡ place)

-- the nid of each node of the base is among those that were taken
abbrev pub AreAllNodes : Image → Checkpoint → Taken → Type 0
AreAllNodes image ckpt taken = (ino offset nid : ℕ) → IsNode image ckpt ino offset nid → set.contains taken.nids nid ≡ true
