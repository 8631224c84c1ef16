-- The nodes and the pages of a base that was read are right.
use Rattle.std.proofs.Common.{◌≡◌, ◌≢◌, ℕ, suc, ◌≤◌, List, [], ◌∷◌, length, refl, ap, arith}
use Rattle.std.specs.List.{AllByRecursion}
use Rattle.std.specs.FinSet as set
use Rattle.f2_format.specs.Geometry.{node_third, data_third}
use Rattle.f2_image.specs.Images.{Image}
use Rattle.f2_image.specs.Packs.{Checkpoint}
use Rattle.f2_image.specs.Nodes.{node_address}
use Rattle.f2_image.specs.Bases.{IsReached}
use Rattle.f2_image.specs.Reached.{IsNode, IsBasePage, AllDiffer, HasMore}
use Rattle.f2_image.specs.Faults.{IsSomeNode, IsBaseBlock}
use Rattle.f2_recover.specs.Walking.{IsWalked, IsBaseRead}
use Rattle.f2_recover.specs.declared.walk.Walk.{Walk}
use Rattle.f2_recover.proofs.NodesOfFiles.{reached_of}
use Rattle.f2_recover.proofs.Walked.{row_of, are_taken, is_before, node_right, page_right}
use Rattle.f2_recover_laws.specs.Sound.{HasInode, HasRightNodes}
use Rattle.f2_recover_laws.proofs.Counts.{AreIn, no_more}

module _ (image : Image) (ckpt : Checkpoint) (walk : Walk) (is : IsWalked image ckpt walk) where
  node_apart : (ino offset nid other more own : ℕ) → IsNode image ckpt ino offset nid → IsNode image ckpt other more own → node_address image ckpt nid ≡ node_address image ckpt own → (ino ≡ other) × (offset ≡ more)
  node_apart ino offset nid other more own a b same =
      (are_taken image ckpt walk is).nodes_apart ino offset nid other more own a b (is_before image ckpt walk is ino offset (reached_of image ckpt ino offset nid a))
      (is_before image ckpt walk is other more (reached_of image ckpt other more own b)) same

  page_apart : (ino page other more at : ℕ) → IsBasePage image ckpt ino page at → IsBasePage image ckpt other more at → (ino ≡ other) × (page ≡ more)
  page_apart ino page other more at a b = (are_taken image ckpt walk is).pages_apart ino page other more at a b (is_before image ckpt walk is ino page a.reached) (is_before image ckpt walk is other more b.reached)

  inode_of_row : (ino : ℕ) → IsReached image ckpt ino → HasInode image ckpt ino
  inode_of_row ino reached = let file = (row_of image ckpt walk is ino reached).is.file in record { kind = (row_of image ckpt walk is ino reached).row.file.kind; inode = file.inode; is = file.is; own = file.own }

  -- the addresses of some nodes
  abbrev Nodes : List (ℕ × ℕ) → Type 0
  Nodes list = AllByRecursion (IsSomeNode image ckpt) list

  addresses : (list : List (ℕ × ℕ)) → Nodes list → List ℕ
  addresses [] all = []
  addresses (at ∷ list) all = node_address image ckpt all.0.0 ∷ addresses list all.1

  long : (list : List (ℕ × ℕ)) (all : Nodes list) → length (addresses list all) ≡ length list
  unfolding addresses
  long [] all = refl
  long (at ∷ list) all = ap suc (long list all.1)

  are_in : (list : List (ℕ × ℕ)) (all : Nodes list) → AreIn walk.zones.nodes (addresses list all)
  unfolding addresses
  are_in [] all = tt
  are_in (at ∷ list) all = ((node_right image ckpt walk is at.0 at.1 all.0.0 all.0.1).taken_is, are_in list all.1)

  other_address : (a b : ℕ × ℕ) (p : IsSomeNode image ckpt a) (q : IsSomeNode image ckpt b) → a ≢ b → node_address image ckpt p.0 ≢ node_address image ckpt q.0
  other_address a b p q other same = let e = node_apart a.0 a.1 p.0 b.0 b.1 q.0 p.1 q.1 same in other (λ i. (e.0 i, e.1 i))

  head_differs : (at : ℕ × ℕ) (one : IsSomeNode image ckpt at) (list : List (ℕ × ℕ)) (all : Nodes list) → AllByRecursion (λ b. at ≢ b) list → AllByRecursion (λ b. node_address image ckpt one.0 ≢ b) (addresses list all)
  unfolding addresses
  head_differs at one [] all others = tt
  head_differs at one (b ∷ list) all others = (other_address at b one all.0 others.0, head_differs at one list all.1 others.1)

  differ : (list : List (ℕ × ℕ)) (all : Nodes list) → AllDiffer list → AllDiffer (addresses list all)
  unfolding addresses
  differ [] all apart = tt
  differ (at ∷ list) all apart = (head_differs at all.0 list all.1 apart.0, differ list all.1 apart.1)

  few_nodes : (limit : ℕ) → set.len walk.zones.nodes ≤ limit → HasMore (ℕ × ℕ) (IsSomeNode image ckpt) limit → ⊥
  few_nodes limit few more =
      let fit = no_more (addresses more.some more.all) walk.zones.nodes (differ more.some more.all more.differ) (are_in more.some more.all) in
      let over = more.more in
      omega (arith, fit, long more.some more.all, few, over)

  blocks_in : (list : List ℕ) → AllByRecursion (IsBaseBlock image ckpt) list → AreIn walk.zones.pages list
  blocks_in [] all = tt
  blocks_in (at ∷ list) all = ((page_right image ckpt walk is all.0.0 all.0.1 at all.0.2).taken_is, blocks_in list all.1)

  few_blocks : (limit : ℕ) → set.len walk.zones.pages ≤ limit → HasMore ℕ (IsBaseBlock image ckpt) limit → ⊥
  few_blocks limit few more =
      let fit = no_more more.some walk.zones.pages more.differ (blocks_in more.some more.all) in
      let over = more.more in
      omega (arith, fit, few, over)

pub right_nodes : (image : Image) (ckpt : Checkpoint) (walk : Walk) → IsBaseRead image ckpt walk → HasRightNodes image ckpt
right_nodes image ckpt walk read =
    let is = read.walked in
    record {
      entries = read.entries;
      reached = λ nid within there. let node = (are_taken image ckpt walk is).nids nid (read.reached nid within there) in (node.ino, node.offset, node.is);
      nodes = λ ino offset nid node. let right = node_right image ckpt walk is ino offset nid node in (right.block, right.read);
      nodes_apart = node_apart image ckpt walk is;
      inodes = inode_of_row image ckpt walk is;
      pages = λ ino page at base. (page_right image ckpt walk is ino page at base).in_zone;
      pages_apart = page_apart image ckpt walk is;
      few_nodes = few_nodes image ckpt walk is (node_third ckpt.geom) read.few_nodes;
      few_blocks = few_blocks image ckpt walk is (data_third ckpt.geom) read.few_pages;
    }
