-- The node log on the disk.
use Rattle.std.specs.Prelude.{◌≡◌, ◌≢◌, ℕ, ◌≤◌, IsTrue, List, [], ◌∷◌, ◌++◌, length, take, map as map_list, Contains}
use Rattle.std.specs.List.{AllByRecursion}
use Rattle.f2_format.specs.Geometry.{node_third, is_in_node}
use Rattle.f2_format.specs.Footer.{footer_version}
use Rattle.f2_disk.specs.Contents.{Contents, last_of}
use Rattle.f2_image.specs.Nodes.{node_address}
use Rattle.f2_image.specs.Chains.{Logged}
use Rattle.f2_image.specs.Reached.{IsNode, AllDiffer}
use Rattle.f2_image_laws.specs.Chained.{contents_at, IsLogOf, HoldsNone, HoldsAlone}
use Rattle.f2_stored.specs.Layout.{Fate, Open, Written, Failed, Layout, chained, log_version}

-- what a disk holds at the address of a position, beside its block or blocks of other versions
abbrev pub HoldsAs : Contents → ℕ → Logged → Fate → Type 0
HoldsAs lists version one Open = HoldsNone lists version one.at
HoldsAs lists version one Written = last_of (contents_at lists one.at) ≡ one.block
HoldsAs lists version one Failed = Unit {0}

-- no node of the base stands at an address
abbrev pub IsNoNodeAt : Layout → ℕ → Type 0
IsNoNodeAt layout at = (ino offset nid : ℕ) → IsNode layout.base.image layout.base.ckpt ino offset nid → node_address layout.base.image layout.base.ckpt nid ≢ at

-- an address that the node log may have: in the node zone, and of no node of the base
abbrev pub IsLogAddress : Layout → ℕ → Type 0
IsLogAddress layout at = IsTrue (is_in_node layout.base.ckpt.geom at) × IsNoNodeAt layout at

-- the addresses of the positions
abbrev pub log_addresses : Layout → List ℕ
log_addresses layout = map_list (λ one. one.at) (chained layout)

-- a disk holds a node log
pub record HoldsLog (lists : Contents) (layout : Layout) : Type 0 where
  -- the blocks follow each other from the checkpoint's start to the next address; at each one's address stands that block or another
  -- version's, and none of this version where the next one will be
  pub linked : IsLogOf lists (log_version layout) layout.base.ckpt.head.log_start layout.next (chained layout)
  pub own : AllByRecursion (λ one. footer_version one.block ≡ log_version layout) (chained layout)
  pub held : AllByRecursion (λ position. HoldsAs lists (log_version layout) position.logged position.fate) layout.log
  -- outside the log no block of the node zone carries its version
  pub fresh : (at : ℕ) → IsTrue (is_in_node layout.base.ckpt.geom at) → ¬ (Contains (log_addresses layout) at) → HoldsNone lists (log_version layout) at
  -- the first positions a crash leaves as they are
  pub within : layout.settled ≤ length layout.log
  pub settled : AllByRecursion (HoldsAlone lists (log_version layout)) (take layout.settled (chained layout))
  -- their addresses are apart from each other and from the base's
  pub addresses : AllByRecursion (IsLogAddress layout) (log_addresses layout)
  pub differ : AllDiffer (log_addresses layout ++ layout.next ∷ [])
  pub next : layout.next ≢ 0 → IsLogAddress layout layout.next
  pub short : length layout.log ≤ node_third layout.base.ckpt.geom
