use Rattle.std.proofs.Common.{◌≡◌}
use Rattle.f2_image.specs.Images.{Image}
use Rattle.f2_image.specs.Packs.{Checkpoint}
use Rattle.f2_image.specs.Faults.{HasTable}
use Rattle.f2_recover.specs.Walking.{IsBaseRead}
use Rattle.f2_overlay.specs.Owning.{AreBaseTo}
use Rattle.f2_overlay.proofs.owners.owners_of_base.Given as goal

abbrev pub invariant-loop-ino : goal.invariant-loop-ino
invariant-loop-ino l = (image : Image) (ckpt : Checkpoint) → HasTable ckpt → ckpt.geom ≡ l.g → IsBaseRead image ckpt l.walk → AreBaseTo image ckpt l.ino l.owners
