use Rattle.f2_image.specs.Images.{Image}
use Rattle.f2_image.specs.Packs.{Checkpoint}
use Rattle.f2_recover.specs.Told.{OnlyReads}
use Rattle.f2_overlay.specs.Pending.{ArePending}
use Rattle.f2_overlay.specs.Rolling.{IsGround, IsRolledTo}
use Rattle.f2_overlay.proofs.rolls.roll_log.Given as goal

abbrev pub invariant-loop-place : goal.invariant-loop-place
invariant-loop-place g l = record {
  reads : OnlyReads (g.D.Disk.contents l.fn.disk) (g.D.Disk.meter l.fn.disk) (g.D.Disk.contents l.disk) (g.D.Disk.meter l.disk);
  pending : ArePending l.log l.place l.rolling.pending;
  rolled : (image : Image) (ckpt : Checkpoint) → IsGround (g.D.Disk.contents l.fn.disk) l.g image ckpt l.walk l.log → IsRolledTo image ckpt l.walk l.place l.rolling;
}
