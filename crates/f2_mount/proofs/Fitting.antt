-- The tree of an image whose base and node log were read, and which fits it or doesn't.
use Rattle.std.proofs.Common.{◌≡◌, ◌≤◌, ℕ, List, refl, sym, ap, ◌∙◌, subst}
use Rattle.std.specs.Ordering.{nat_cmp}
use Rattle.std.specs.FinMap as map
use Rattle.f2_format.specs.Geometry.{ImageGeometry, node_third, data_third}
use Rattle.f2_model.specs.Tree.{Rows}
use Rattle.f2_model.specs.Count.{nodes_of_tree, data_of_tree}
use Rattle.f2_model.specs.State.{Mark, rolled}
use Rattle.f2_image.specs.Images.{Image}
use Rattle.f2_image.specs.Packs.{Checkpoint, IsCheckpoint}
use Rattle.f2_image.specs.Bases.{IsBase}
use Rattle.f2_image.specs.Chains.{AreMarks}
use Rattle.f2_image.specs.Faults as faults
use Rattle.f2_image.specs.Faults.{HasTree, IsTooFull}
use Rattle.f2_found.specs.Found.{IsFound}
use Rattle.f2_found.specs.declared.found.Found.{Found}
use Rattle.f2_overlay.specs.declared.rolls.Roll.{Roll}
use Rattle.f2_overlay_laws.specs.Sound.{IsRoomy}
use Rattle.f2_overlay_laws.proofs.AllRight.{all_right}
use Rattle.f2_overlay_laws.proofs.ReadTree.{read_tree}
use Rattle.f2_recover.specs.Faults.{IsRightFault}
use Rattle.f2_recover.specs.declared.faults.BadImage.TheVariants.{TooFull}
use Rattle.f2_recover.specs.declared.faults.MountFault.{MountFault}
use Rattle.f2_recover.specs.declared.faults.MountFault.TheVariants.{Bad, Read, Memory}
use Rattle.f2_recover.specs.declared.walk.Walk.{Walk}
use Rattle.f2_tree_size.specs.Sizes as sizes
use Rattle.f2_tree_size.specs.Sizes.{HasRoom, IsOver, IsRoomFault}
use Rattle.f2_mount.specs.Recovering.{IsRolledUp, IsTreeOf}

module _ (image : Image) (ckpt : Checkpoint) (geom : ImageGeometry) (same : ckpt.geom ≡ geom) where
  -- a tree that takes more than a third of a zone
  too_full : (tree : Rows) → HasTree image ckpt tree → (limit : ℕ) → IsOver geom tree limit → IsTooFull image ckpt limit
  too_full tree has limit (sizes.nodes third more) = faults.tree_nodes tree has (third ∙ ap node_third (sym same)) more
  too_full tree has limit (sizes.blocks third more) = faults.tree_blocks tree has (third ∙ ap data_third (sym same)) more

  fault_stands : (tree : Rows) → HasTree image ckpt tree → faults.HasTable ckpt → (fault : MountFault) → IsRoomFault geom tree fault → IsRightFault image ckpt fault
  fault_stands tree has table (Bad (TooFull limit)) over = (table, too_full tree has limit over)
  fault_stands tree has table (Bad bad) none = absurd none
  fault_stands tree has table Read none = tt
  fault_stands tree has table Memory none = tt

  -- a base and marks of an image of which the same tree was found whatever they are
  module _ (walk : Walk) (rolls : map.FinMap nat_cmp Roll) (right : IsRolledUp image ckpt walk rolls) (tree : Found)
      (found : (base : Rows) (marks : List Mark) → IsBase image ckpt base → AreMarks image ckpt base marks → IsFound image (rolled base marks) tree) where
    found_of : (rows : Rows) → HasTree image ckpt rows → IsFound image rows tree
    found_of rows has = subst (λ (r : Rows). IsFound image r tree) (sym has.is) (found has.base has.marks has.is_base has.are_marks)

    roomy : ((rows : Rows) → IsFound image rows tree → HasRoom geom rows) → IsRoomy image ckpt
    roomy room = record {
      nodes = λ rows has. subst (λ (e : ImageGeometry). nodes_of_tree rows ≤ node_third e) (sym same) (room rows (found_of rows has)).nodes;
      blocks = λ rows has. subst (λ (e : ImageGeometry). data_of_tree rows ≤ data_third e) (sym same) (room rows (found_of rows has)).blocks;
    }

    pub has_tree : IsCheckpoint image ckpt → ((rows : Rows) → IsFound image rows tree → HasRoom geom rows) → (base : Rows) × ((marks : List Mark) × IsTreeOf image ckpt tree base marks)
    has_tree is_point room =
        let read = right.right in
        let there = read_tree image ckpt walk read.base read.log in (
          there.0,
          (
            there.1.0,
            record {
              means = record {
                checkpoint = is_point;
                sound = all_right image ckpt walk read.base read.log read.nids read.apart read.marks read.pages (roomy room);
                is_base = there.1.1.0;
                are_marks = there.1.1.1;
              };
              found = found there.0 there.1.0 there.1.1.0 there.1.1.1;
            },
          ),
        )

    pub has_fault : (fault : MountFault) → ((rows : Rows) → IsFound image rows tree → IsRoomFault geom rows fault) → IsRightFault image ckpt fault
    has_fault fault told =
        let read = right.right in
        let there = read_tree image ckpt walk read.base read.log in
        let rows = rolled there.0 there.1.0 in
        let has : HasTree image ckpt (rolled there.0 there.1.0) = record { base = there.0; marks = there.1.0; is_base = there.1.1.0; are_marks = there.1.1.1; is = refl } in
        fault_stands rows has read.base.has fault (told rows (found_of rows has))
