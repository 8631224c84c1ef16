-- A file of the base as far as it was read.
use Rattle.std.specs.Prelude.{◌≡◌, ◌≢◌, ℕ, ◌+◌, ◌^◌, ◌<◌, ◌≤◌, List, length, slice_index_or, All, Contains, Option, Some}
use Rattle.std.specs.Option.{option_map}
use Rattle.std.specs.Ordering.{nat_cmp}
use Rattle.std.specs.FinMap as map
use Rattle.std.specs.FinSet as set
use Rattle.f2_disk.specs.Contents.{Contents}
use Rattle.f2_format.specs.Offsets.{node_slots, direct_limit, nth_direct, nth_indirect}
use Rattle.f2_image.specs.Images.{Image}
use Rattle.f2_image.specs.Packs.{Checkpoint}
use Rattle.f2_image.specs.Nodes.{node_address}
use Rattle.f2_image.specs.Reached.{IsNode, IsBasePage, offset_below}
use Rattle.f2_recover.specs.Faults.{IsRightFault}
use Rattle.f2_recover.specs.Reading.{IsRead, IsFile}
use Rattle.f2_recover.specs.Taking.{Taken, AreTaken}
use Rattle.f2_recover.specs.declared.faults.MountFault.{MountFault}
use Rattle.f2_recover.specs.declared.nodes.NodeName.{NodeName}
use Rattle.f2_recover.specs.declared.nodes.PageAt.{PageAt}
use Rattle.f2_recover.specs.declared.nodes.FileNodes.{FileNodes}

-- no page
abbrev pub no_page : PageAt
no_page = record { page = 0; at = 0 }

-- a node of a file, and a page, below a limit
pub record IsNodeBelow (image : Image) (ckpt : Checkpoint) (ino limit offset nid : ℕ) : Type 0 where
  pub within : offset < limit
  pub is : IsNode image ckpt ino offset nid

pub record IsPageBelow (image : Image) (ckpt : Checkpoint) (ino limit page at : ℕ) : Type 0 where
  pub within : page < limit
  pub is : IsBasePage image ckpt ino page at

-- a list has the pages of a map below a limit, rising
pub record IsList (limit : ℕ) (pages : map.FinMap nat_cmp ℕ) (list : List PageAt) : Type 0 where
  pub all : (p at : ℕ) → map.get pages p ≡ Some at → Contains list (record { page = p; at = at })
  pub only : (x : PageAt) → Contains list x → map.get pages x.page ≡ Some x.at
  pub within : All (λ x. x.page < limit) list
  pub rising : (j k : ℕ) → j < k → k < length list → (slice_index_or list j no_page).page < (slice_index_or list k no_page).page

-- what is kept of a file are its nodes below one limit with their nids and addresses, and its pages below another with theirs
pub record IsPart (image : Image) (ckpt : Checkpoint) (ino offset page : ℕ) (file : FileNodes) : Type 0 where
  pub nodes : (o nid : ℕ) → map.get file.nids o ≡ Some nid → IsNodeBelow image ckpt ino offset o nid
  pub all_nodes : (o nid : ℕ) → IsNode image ckpt ino o nid → o < offset → map.get file.nids o ≡ Some nid
  pub addresses : (o : ℕ) → map.get file.addresses o ≡ option_map (node_address image ckpt) (map.get file.nids o)
  pub pages : (p at : ℕ) → map.get file.pages.pages p ≡ Some at → IsPageBelow image ckpt ino page p at
  pub all_pages : (p at : ℕ) → IsBasePage image ckpt ino p at → p < page → map.get file.pages.pages p ≡ Some at
  pub listed : IsList page file.pages.pages file.list.items

-- a file was read up to its nodes below one limit and its pages below another
pub record IsSeen (image : Image) (ckpt : Checkpoint) (inos : set.FinSet nat_cmp) (ino offset page : ℕ) (taken : Taken) (file : FileNodes) : Type 0 where
  pub are : AreTaken image ckpt inos ino offset page taken
  pub part : IsPart image ckpt ino offset page file

-- what a slot of a node of a file says of a node below it: its nid, or 0 where the file hasn't the node
pub record IsChild (image : Image) (ckpt : Checkpoint) (ino offset nid : ℕ) : Type 0 where
  pub named : nid ≢ 0 → IsNode image ckpt ino offset nid
  pub none : nid ≡ 0 → (other : ℕ) → IsNode image ckpt ino offset other → ⊥

-- where a file was read up to a node that it may have, it is read up to these limits
abbrev pub Goes : Option Contents → List ℕ → NodeName → ℕ → Taken → FileNodes → ℕ → ℕ → Taken → FileNodes → Type 0
Goes held table node page taken file o p now more =
    (image : Image) (ckpt : Checkpoint) (inos : set.FinSet nat_cmp) (root : List ℕ) → IsRead held taken.geom table image ckpt → IsChild image ckpt node.ino node.offset node.nid
    → IsFile image ckpt node.ino root → IsSeen image ckpt inos node.ino node.offset page taken file → IsSeen image ckpt inos node.ino o p now more

-- where a file was read up to a node that it may have, a fault is right
abbrev pub Fails : Option Contents → List ℕ → NodeName → ℕ → Taken → FileNodes → MountFault → Type 0
Fails held table node page taken file fault =
    (image : Image) (ckpt : Checkpoint) (inos : set.FinSet nat_cmp) (root : List ℕ) → IsRead held taken.geom table image ckpt → IsChild image ckpt node.ino node.offset node.nid
    → IsFile image ckpt node.ino root → IsSeen image ckpt inos node.ino node.offset page taken file → IsRightFault image ckpt fault

-- a node has direct nodes right behind it: its slots name those from this number on
pub record IsIndirect (offset number : ℕ) : Type 0 where
  pub some : offset ≢ 0
  pub small : offset < 2 ^ 31
  pub within : number + node_slots ≤ direct_limit
  pub names : (slot : ℕ) → slot < node_slots → offset_below offset slot ≡ Some (offset + 1 + slot)
  pub direct : (slot : ℕ) → slot < node_slots → nth_direct (number + slot) ≡ offset + 1 + slot

-- no node of a file has an offset from this one on
abbrev pub node_limit : ℕ
node_limit = nth_indirect node_slots
