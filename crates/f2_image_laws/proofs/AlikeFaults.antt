-- A sound image stands for the same as one that agrees with it on what it depends on.
use Rattle.std.proofs.Common.{◌≡◌, ℕ, List}
use Rattle.f2_model.specs.Tree.{Rows}
use Rattle.f2_model.specs.State.{Mark}
use Rattle.f2_image.specs.Images.{Image, block_at}
use Rattle.f2_image.specs.Packs.{Checkpoint, IsCheckpoint}
use Rattle.f2_image.specs.Chains.{chain}
use Rattle.f2_image.specs.Faults.{Which, BadSuper, NoCheckpoint, VersionEnd, Journal, BadNat, BadInode, DentFault, ChainLong, OutOfZone, Shared, Conflict, NoParent, BadTree, TooFull, StandsAt}
use Rattle.f2_image.specs.Meanings.{MeansAt}
use Rattle.f2_image_laws.specs.Depending.{DependsOn}
use Rattle.f2_image_laws.specs.Depending as depending
use Rattle.f2_image_laws.proofs.Agreeing.{same_nodes}
use Rattle.f2_image_laws.proofs.Alike.{IsAlike, alike_back}
use Rattle.f2_image_laws.proofs.AlikeBases.{base_of_other}
use Rattle.f2_image_laws.proofs.AlikeMarks.{marks_of_other}
use Rattle.f2_image_laws.proofs.AlikeNodes.{nat_of_other, inode_fault_of_other, dentry_fault_of_other, long_of_other, out_of_other, shared_of_other}
use Rattle.f2_image_laws.proofs.AlikeTrees.{conflict_of_other, parent_of_other, tree_fault_of_other, full_of_other}

module _ (image other : Image) (ckpt : Checkpoint) (alike : IsAlike image other ckpt) where
  stands_of_other : (which : Which) (at : ℕ) → StandsAt which other ckpt at → StandsAt which image ckpt at
  stands_of_other BadSuper at stands = stands
  stands_of_other NoCheckpoint at stands = stands
  stands_of_other VersionEnd at stands = stands
  stands_of_other Journal at stands = stands
  stands_of_other BadNat at stands = (stands.0, nat_of_other image other ckpt alike at stands.1)
  stands_of_other BadInode at stands = inode_fault_of_other image other ckpt alike at stands
  stands_of_other DentFault at stands = (stands.0, dentry_fault_of_other image other ckpt alike at stands.1)
  stands_of_other ChainLong at stands = long_of_other image other ckpt alike at stands
  stands_of_other OutOfZone at stands = out_of_other image other ckpt alike at stands
  stands_of_other Shared at stands = (stands.0, shared_of_other image other ckpt alike at stands.1)
  stands_of_other Conflict at stands = (stands.0, conflict_of_other image other ckpt alike at stands.1)
  stands_of_other NoParent at stands = (stands.0, parent_of_other image other ckpt alike at stands.1)
  stands_of_other BadTree at stands = (stands.0, tree_fault_of_other image other ckpt alike at stands.1)
  stands_of_other TooFull at stands = (stands.0, full_of_other image other ckpt alike at stands.1)

pub same_meaning : (image other : Image) (ckpt : Checkpoint) (base : Rows) (marks : List Mark) → MeansAt image ckpt base marks → IsCheckpoint other ckpt → chain other ckpt ≡ chain image ckpt
    → ((at : ℕ) → DependsOn image ckpt at → block_at other at ≡ block_at image at) → MeansAt other ckpt base marks
same_meaning image other ckpt base marks means checkpoint log agree =
    let alike : IsAlike image other ckpt = record {
      same = same_nodes image other ckpt means.sound agree log;
      pages = λ ino page at is. agree at (depending.page ino page is);
    } in
    let back = alike_back image other ckpt alike in
    record {
      checkpoint = checkpoint;
      sound = λ which at no_end stands. means.sound which at no_end (stands_of_other image other ckpt alike which at stands);
      is_base = base_of_other other image ckpt back base means.is_base;
      are_marks = marks_of_other other image ckpt back base marks means.are_marks;
    }
