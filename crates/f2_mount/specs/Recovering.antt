-- What is recovered of an image.
use Rattle.std.specs.Prelude.{◌≡◌, ◌≤◌, List, length}
use Rattle.std.specs.Ordering.{nat_cmp}
use Rattle.std.specs.FinMap as map
use Rattle.f2_model.specs.Tree.{Rows}
use Rattle.f2_model.specs.State.{Mark, rolled}
use Rattle.f2_image.specs.Images.{Image}
use Rattle.f2_image.specs.Packs.{Checkpoint}
use Rattle.f2_image.specs.Faults.{MOST_VERSION}
use Rattle.f2_image.specs.Meanings.{MeansAt}
use Rattle.f2_found.specs.Found.{IsFound}
use Rattle.f2_found.specs.declared.found.Found.{Found}
use Rattle.f2_overlay.specs.Names.{HasRightMarks}
use Rattle.f2_overlay.specs.Nodes.{HasRightNids, IsApart}
use Rattle.f2_overlay.specs.Rolls.{AreRolls, HasRightPages}
use Rattle.f2_overlay.specs.declared.rolls.Roll.{Roll}
use Rattle.f2_recover.specs.Walking.{IsBaseRead}
use Rattle.f2_recover.specs.declared.walk.Walk.{Walk}
use Rattle.f2_scan.specs.Laws.{HasNoLogFault}
use Rattle.f2_mount.specs.declared.recovering.Recovered.{Recovered}

-- a base was read, its node log has none of its faults, and what the log brings is right
pub record IsLogRight (image : Image) (ckpt : Checkpoint) (walk : Walk) : Type 0 where
  pub base : IsBaseRead image ckpt walk
  pub log : HasNoLogFault image ckpt
  pub nids : HasRightNids image ckpt
  pub apart : IsApart image ckpt
  pub marks : HasRightMarks image ckpt
  pub pages : HasRightPages image ckpt

-- the same, and these are the files that were marked
pub record IsRolledUp (image : Image) (ckpt : Checkpoint) (walk : Walk) (files : map.FinMap nat_cmp Roll) : Type 0 where
  pub right : IsLogRight image ckpt walk
  pub rolls : AreRolls image ckpt walk files

-- an image means a base and marks, and their tree was found in it
pub record IsTreeOf (image : Image) (ckpt : Checkpoint) (tree : Found) (base : Rows) (marks : List Mark) : Type 0 where
  pub means : MeansAt image ckpt base marks
  pub found : IsFound image (rolled base marks) tree

-- an image stands for a tree, which was found in it: its base with its marks rolled forward, of a version before the last one
pub record IsRecovered (image : Image) (recovered : Recovered) : Type 0 where
  pub ckpt : Checkpoint
  pub base : Rows
  pub marks : List Mark
  pub is : IsTreeOf image ckpt recovered.tree base marks
  pub counted : recovered.marks ≡ length marks
  pub version : recovered.version ≡ ckpt.head.version
  pub early : ckpt.head.version ≤ MOST_VERSION
