-- Conditions on nodes, inodes, pages and blocks: what stands in one of two images that are alike stands in the other.
use Rattle.std.proofs.Common.{◌≡◌, ℕ, ◌<◌, length, slice_index_or, sym, ap, ◌∙◌, subst}
use Rattle.f2_format.specs.Geometry.{node_third, is_in_node}
use Rattle.f2_format.specs.Footer.{footer_next}
use Rattle.f2_format.specs.Dentry.{dentry_fault}
use Rattle.f2_image.specs.Images.{Image}
use Rattle.f2_image.specs.Packs.{Checkpoint}
use Rattle.f2_image.specs.Chains.{chain, no_block}
use Rattle.f2_image.specs.Faults.{HasNid, IsBadNat, IsBadInode, HasDentryFault, IsChainLong, IsOutOfZone, IsShared}
use Rattle.f2_image.specs.Faults as faults
use Rattle.f2_image_laws.proofs.SameNodes.{block_of_other, marked_of_other, taken_of_other}
use Rattle.f2_image_laws.proofs.Alike.{IsAlike, alike_back, same_directory_block, reached_of_other, page_of_other, node_of_other}

module _ (image other : Image) (ckpt : Checkpoint) (alike : IsAlike image other ckpt) where
  nid_of_other : (ino offset nid : ℕ) → HasNid other ckpt ino offset nid → HasNid image ckpt ino offset nid
  nid_of_other ino offset nid (faults.in_base is) = faults.in_base (node_of_other image other ckpt alike ino offset nid is)
  nid_of_other ino offset nid (faults.in_log place block taken own at is) = faults.in_log place block (taken_of_other image other ckpt alike.same place block taken) own at is

  pub nat_of_other : (nid : ℕ) → IsBadNat other ckpt nid → IsBadNat image ckpt nid
  nat_of_other nid (faults.entry bad) = faults.entry bad
  nat_of_other nid (faults.unreached small there none) =
      faults.unreached small (λ zero. there (ap (λ place. place.1) (alike.same.places nid small) ∙ zero))
      (λ ino offset is. none ino offset (node_of_other other image ckpt (alike_back image other ckpt alike) ino offset nid is))
  nat_of_other nid (faults.too_low ino offset is small apart) = faults.too_low ino offset (node_of_other image other ckpt alike ino offset nid is) small apart
  nat_of_other nid (faults.nowhere ino offset is out) =
      faults.nowhere ino offset (node_of_other image other ckpt alike ino offset nid is) (ap (is_in_node ckpt.geom) (sym (alike.same.addresses nid)) ∙ out)
  nat_of_other nid (faults.misplaced ino offset block is there wrong) =
      faults.misplaced ino offset block (node_of_other image other ckpt alike ino offset nid is) (sym (alike.same.nodes nid) ∙ there) wrong
  nat_of_other nid (faults.no_nid place block taken is none) = faults.no_nid place block (taken_of_other image other ckpt alike.same place block taken) is none
  nat_of_other nid (faults.taken place block ino offset taken is has differ) =
      faults.taken place block ino offset (taken_of_other image other ckpt alike.same place block taken) is (nid_of_other ino offset nid has) differ
  nat_of_other nid (faults.no_ino place block taken is at differ) = faults.no_ino place block (taken_of_other image other ckpt alike.same place block taken) is at differ
  nat_of_other nid (faults.other place block own taken is node differ) =
      faults.other place block own (taken_of_other image other ckpt alike.same place block taken) is (node_of_other image other ckpt alike _ _ own node) differ

  -- the address of a block of the node log
  logged_at : (place at : ℕ) → (slice_index_or (chain other ckpt) place no_block).at ≡ at → (slice_index_or (chain image ckpt) place no_block).at ≡ at
  logged_at place at is = ap (λ log. (slice_index_or log place no_block).at) (sym alike.same.log) ∙ is

  in_log : (place : ℕ) → place < length (chain other ckpt) → place < length (chain image ckpt)
  in_log place small = subst (λ log. place < length log) alike.same.log small

  pub inode_fault_of_other : (at : ℕ) → IsBadInode other ckpt at → IsBadInode image ckpt at
  inode_fault_of_other at (faults.in_base table ino block reach there is foreign) =
      faults.in_base table ino block (reached_of_other image other ckpt alike ino reach) (sym (alike.same.nodes ino) ∙ there) (sym (alike.same.addresses ino) ∙ is) foreign
  inode_fault_of_other at (faults.in_log place block marked is foreign) = faults.in_log place block (marked_of_other image other ckpt alike.same place block marked) (logged_at place at is) foreign

  pub dentry_fault_of_other : (at : ℕ) → HasDentryFault other ckpt at → HasDentryFault image ckpt at
  dentry_fault_of_other at has =
      let reach = reached_of_other image other ckpt alike has.directory has.reached in
      let block = block_of_other image other ckpt alike.same has.directory has.page at has.block in
      record {
        directory = has.directory;
        page = has.page;
        slot = has.slot;
        reached = reach;
        block = block;
        fault = ap dentry_fault (sym (same_directory_block image other ckpt alike has.directory has.page at reach block)) ∙ has.fault;
      }

  pub long_of_other : (at : ℕ) → IsChainLong other ckpt at → IsChainLong image ckpt at
  long_of_other at is = subst (λ log. (node_third ckpt.geom < length log) × (at ≡ (slice_index_or log (node_third ckpt.geom) no_block).at)) alike.same.log is

  pub out_of_other : (at : ℕ) → IsOutOfZone other ckpt at → IsOutOfZone image ckpt at
  out_of_other at (faults.page table ino page is out) = faults.page table ino page (page_of_other image other ckpt alike ino page at is) out
  out_of_other at (faults.next place small is there out) =
      faults.next place (in_log place small) (ap (λ log. footer_next (slice_index_or log place no_block).block) (sym alike.same.log) ∙ is) there out

  pub shared_of_other : (at : ℕ) → IsShared other ckpt at → IsShared image ckpt at
  shared_of_other at (faults.pages ino page more place is too differ) =
      faults.pages ino page more place (page_of_other image other ckpt alike ino page at is) (page_of_other image other ckpt alike more place at too) differ
  shared_of_other at (faults.nodes ino offset nid more lower own is too differ there here at_own) =
      faults.nodes ino offset nid more lower own (node_of_other image other ckpt alike ino offset nid is) (node_of_other image other ckpt alike more lower own too) differ there
      (sym (alike.same.addresses nid) ∙ here) (sym (alike.same.addresses own) ∙ at_own)
  shared_of_other at (faults.logged ino offset nid place is here small logged) =
      faults.logged ino offset nid place (node_of_other image other ckpt alike ino offset nid is) (sym (alike.same.addresses nid) ∙ here) (in_log place small) (logged_at place at logged)
