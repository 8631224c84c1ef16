-- No condition stands in an image in which all is right.
use Rattle.std.proofs.Common.{ℕ, refl, subst, arith}
use Rattle.f2_image.specs.Faults as faults
use Rattle.f2_image.specs.Faults.{IsSomeNode, IsBaseBlock, IsSomeBlock, IsTooFull, IsSound, BadSuper, NoCheckpoint, VersionEnd, Journal, BadNat, BadInode, DentFault, ChainLong, OutOfZone, Shared, Conflict, NoParent, BadTree, TooFull}
use Rattle.f2_image.specs.Images.{Image}
use Rattle.f2_image.specs.Packs.{Checkpoint}
use Rattle.f2_image.specs.Reached.{HasMore}
use Rattle.f2_overlay.specs.Nodes.{HasRightNids, IsApart}
use Rattle.f2_overlay.specs.Names.{HasRightMarks}
use Rattle.f2_overlay.specs.Rolls.{HasRightPages}
use Rattle.f2_recover.specs.Walking.{IsBaseRead}
use Rattle.f2_recover.specs.declared.walk.Walk.{Walk}
use Rattle.f2_recover_laws.specs.Sound.{HasRightNodes}
use Rattle.f2_recover_laws.proofs.RightNodes.{right_nodes}
use Rattle.f2_recover_laws.proofs.RightNames.{right_names}
use Rattle.f2_scan.specs.Laws.{HasNoLogFault}
use Rattle.f2_overlay_laws.specs.Sound.{IsRoomy}
use Rattle.f2_overlay_laws.proofs.RightTable.{right_table}
use Rattle.f2_overlay_laws.proofs.RightAddresses.{right_inode, right_dentries, right_zones, not_shared}
use Rattle.f2_overlay_laws.proofs.RightMarks.{no_conflict, has_parent}
use Rattle.f2_overlay_laws.proofs.RightTree.{right_tree}

-- what is not more than a limit has not more
pub not_full : (image : Image) (ckpt : Checkpoint) → HasRightNodes image ckpt → HasRightPages image ckpt → IsRoomy image ckpt → (limit : ℕ) → IsTooFull image ckpt limit → ⊥
not_full image ckpt nodes pages room limit (faults.base_nodes third more) = nodes.few_nodes (subst (HasMore (ℕ × ℕ) (IsSomeNode image ckpt)) third more)
not_full image ckpt nodes pages room limit (faults.base_blocks third more) = nodes.few_blocks (subst (HasMore ℕ (IsBaseBlock image ckpt)) third more)
not_full image ckpt nodes pages room limit (faults.tree_nodes tree has third more) = let fit = room.nodes tree has in omega (arith, fit, third, more)
not_full image ckpt nodes pages room limit (faults.tree_blocks tree has third more) = let fit = room.blocks tree has in omega (arith, fit, third, more)
not_full image ckpt nodes pages room limit (faults.all_blocks third more) = pages.few (subst (HasMore ℕ (IsSomeBlock image ckpt)) third more)

module _ (image : Image) (ckpt : Checkpoint) (walk : Walk) (read : IsBaseRead image ckpt walk) (log : HasNoLogFault image ckpt) (nids : HasRightNids image ckpt) (apart : IsApart image ckpt) (marks : HasRightMarks image ckpt)
    (pages : HasRightPages image ckpt) (room : IsRoomy image ckpt) where
  pub all_right : IsSound image ckpt
  all_right BadSuper at not_end bad = bad
  all_right NoCheckpoint at not_end bad = bad
  all_right VersionEnd at not_end bad = not_end refl
  all_right Journal at not_end bad = let few = read.has in let many = bad.0 in omega (arith, few, many)
  all_right BadNat at not_end bad = right_table image ckpt (right_nodes image ckpt walk read) nids at bad.1
  all_right BadInode at not_end bad = right_inode image ckpt (right_nodes image ckpt walk read) log at bad
  all_right DentFault at not_end bad = right_dentries image ckpt (right_nodes image ckpt walk read) (right_names image ckpt walk read) at bad.1
  all_right ChainLong at not_end bad = log.no_chain_long at bad
  all_right OutOfZone at not_end bad = right_zones image ckpt (right_nodes image ckpt walk read) pages log at bad
  all_right Shared at not_end bad = not_shared image ckpt (right_nodes image ckpt walk read) pages apart at bad.1
  all_right Conflict at not_end bad = no_conflict image ckpt marks at bad.1
  all_right NoParent at not_end bad = has_parent image ckpt marks at bad.1
  all_right BadTree at not_end bad = right_tree image ckpt (right_names image ckpt walk read) marks pages at bad.1
  all_right TooFull at not_end bad = not_full image ckpt (right_nodes image ckpt walk read) pages room at bad.1
