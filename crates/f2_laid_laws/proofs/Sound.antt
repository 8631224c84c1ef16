-- No condition stands in an image that is laid out plainly, and it is clean.
use Rattle.std.proofs.Common.{◌≡◌, ℕ, ◌%◌, ◌^◌, ◌≤◌, [], List, refl, sym, subst, ap, ◌∙◌, arith}
use Rattle.f2_format.specs.Geometry.{node_third}
use Rattle.f2_model.specs.State.{Mark, rolled}
use Rattle.f2_model.specs.Count.{nodes_of_tree, data_of_tree}
use Rattle.f2_model.specs.Tree.{Rows}
use Rattle.f2_image.specs.Faults as faults
use Rattle.f2_image.specs.Faults.{IsConflict, HasTree, IsBaseBlock, IsSomeBlock, IsTooFull, IsSound, BadSuper, NoCheckpoint, VersionEnd, Journal, BadNat, BadInode, DentFault, ChainLong, OutOfZone, Shared, Conflict, NoParent, BadTree, TooFull}
use Rattle.f2_image.specs.Meanings.{IsCleanAt}
use Rattle.f2_image.proofs.OneMarks.{one_list_of_marks}
use Rattle.f2_image.specs.Images.{Image}
use Rattle.f2_image.specs.Packs.{Checkpoint}
use Rattle.f2_image.proofs.OneBase.{one_base}
use Rattle.f2_laid.specs.declared.stored.Stored.{Stored}
use Rattle.f2_laid_laws.proofs.Members.{all_of}
use Rattle.f2_laid_laws.proofs.Base.{IsStored, is_base}
use Rattle.f2_laid_laws.proofs.NoLog.{none_within, none_marked, of_base, no_marks}
use Rattle.f2_laid_laws.proofs.Counts.{few_nodes, few_blocks}
use Rattle.f2_laid_laws.proofs.Table.{right_table}
use Rattle.f2_laid_laws.proofs.Addresses.{right_inode, right_dentries, right_zones, not_shared}
use Rattle.f2_laid_laws.proofs.Trees.{right_tree}

module _ (image : Image) (ckpt : Checkpoint) (tree : Rows) (stored : Stored) (is : IsStored image ckpt tree stored) where
  -- no mark brings a name
  no_conflict : (ino : ℕ) → IsConflict image ckpt ino → ⊥
  no_conflict ino (faults.in_base place parent name dentry brings reach has same) = none_marked image ckpt tree stored is place brings.block brings.marked
  no_conflict ino (faults.in_log place earlier other parent name brings before lower differ) = none_marked image ckpt tree stored is place brings.block brings.marked

  -- a tree that the image has is this one
  same_tree : (other : Rows) → HasTree image ckpt other → other ≡ tree
  same_tree other has =
      let one = one_base image ckpt has.base tree has.is_base (is_base image ckpt tree stored is) in
      let none = one_list_of_marks image ckpt has.base has.marks [] has.are_marks (no_marks image ckpt tree stored is has.base) in
      has.is ∙ ap (λ (marks : List Mark). rolled has.base marks) none ∙ one

  -- a block that rows name is one of the base's
  base_block : (at : ℕ) → IsSomeBlock image ckpt at → IsBaseBlock image ckpt at
  base_block at (ino, page, is_page) = (ino, page, of_base image ckpt tree stored is ino page at is_page)

  -- a third of each zone has room
  not_full : (limit : ℕ) → IsTooFull image ckpt limit → ⊥
  not_full limit (faults.base_nodes third more) = few_nodes image ckpt tree stored is limit third more
  not_full limit (faults.base_blocks third more) = few_blocks image ckpt tree stored is limit (omega (arith, third)) more
  not_full limit (faults.tree_nodes other has third more) =
      let counted = ap nodes_of_tree (same_tree other has) in
      let room = is.can.nodes in
      omega (arith, counted, room, third, more)
  not_full limit (faults.tree_blocks other has third more) =
      let counted = ap data_of_tree (same_tree other has) in
      let room = is.can.blocks in
      omega (arith, counted, room, third, more)
  not_full limit (faults.all_blocks third more) =
      few_blocks image ckpt tree stored is limit (omega (arith, third)) (record {
        some = more.some;
        differ = more.differ;
        all = all_of (IsSomeBlock image ckpt) (IsBaseBlock image ckpt) base_block more.some more.all;
        more = more.more;
      })

  pub sound : IsSound image ckpt
  sound BadSuper at not_end bad = bad
  sound NoCheckpoint at not_end bad = bad
  sound VersionEnd at not_end bad = not_end refl
  sound Journal at not_end bad = let none = is.laid.journal in let many = bad.0 in omega (arith, none, many)
  sound BadNat at not_end bad = right_table image ckpt tree stored is at bad.1
  sound BadInode at not_end bad = right_inode image ckpt tree stored is at bad
  sound DentFault at not_end bad = right_dentries image ckpt tree stored is at bad.1
  sound ChainLong at not_end bad = none_within image ckpt tree stored is (node_third ckpt.geom) bad.0
  sound OutOfZone at not_end bad = right_zones image ckpt tree stored is at bad
  sound Shared at not_end bad = not_shared image ckpt tree stored is at bad.1
  sound Conflict at not_end bad = no_conflict at bad.1
  sound NoParent at not_end bad = none_marked image ckpt tree stored is bad.1.place bad.1.brings.block bad.1.brings.marked
  sound BadTree at not_end bad = right_tree image ckpt tree stored is at bad.1
  sound TooFull at not_end bad = not_full at bad.1

  -- no block and no tail is of a later version
  pub clean : IsCleanAt image ckpt
  clean = record {
    nodes = λ at inside. subst (λ v. v % 2 ^ 32 ≤ ckpt.head.version) (sym (is.laid.unlogged at inside)) (omega arith);
    tails = is.laid.tails;
  }
