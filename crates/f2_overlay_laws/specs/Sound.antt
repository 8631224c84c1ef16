-- An image whose base and node log were read, and in which all is right that was looked at: it stands for a tree.
use Rattle.std.specs.Prelude.{◌≤◌}
use Rattle.f2_format.specs.Geometry.{node_third, data_third}
use Rattle.f2_model.specs.Tree.{Rows}
use Rattle.f2_model.specs.Count.{nodes_of_tree, data_of_tree}
use Rattle.f2_image.specs.Images.{Image}
use Rattle.f2_image.specs.Packs.{Checkpoint, IsCheckpoint}
use Rattle.f2_image.specs.Faults.{HasTree, IsSound}
use Rattle.f2_overlay.specs.Nodes.{HasRightNids, IsApart}
use Rattle.f2_overlay.specs.Names.{HasRightMarks}
use Rattle.f2_overlay.specs.Rolls.{HasRightPages}
use Rattle.f2_recover.specs.Walking.{IsBaseRead}
use Rattle.f2_recover.specs.declared.walk.Walk.{Walk}
use Rattle.f2_scan.specs.Laws.{HasNoLogFault}

-- the tree of an image fits it
pub record IsRoomy (image : Image) (ckpt : Checkpoint) : Type 0 where
  pub nodes : (tree : Rows) → HasTree image ckpt tree → nodes_of_tree tree ≤ node_third ckpt.geom
  pub blocks : (tree : Rows) → HasTree image ckpt tree → data_of_tree tree ≤ data_third ckpt.geom

-- an image is sound where its base was read, its node log has none of its faults, and nids, names and pages of what the log brings are right
abbrev pub AllRightIsSound : Type 0
AllRightIsSound =
    (image : Image) (ckpt : Checkpoint) (walk : Walk) → IsCheckpoint image ckpt → IsBaseRead image ckpt walk → HasNoLogFault image ckpt → HasRightNids image ckpt → IsApart image ckpt
    → HasRightMarks image ckpt → HasRightPages image ckpt → IsRoomy image ckpt → IsSound image ckpt
