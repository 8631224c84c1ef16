use Rattle.std.proofs.Common.{◌≡◌, ◌-◌}
use Rattle.f2_format.specs.Geometry.{nid_limit}
use Rattle.f2_image.specs.Images.{Image}
use Rattle.f2_image.specs.Packs.{Checkpoint}
use Rattle.f2_recover.specs.Told.{OnlyReads}
use Rattle.f2_recover.specs.Reading.{IsRead}
use Rattle.f2_recover.specs.Walking.{IsQueue}
use Rattle.f2_recover.proofs.WalkSteps.{IsWalkedBefore}
use Rattle.f2_recover.proofs.walk.walk_base.Given as goal

-- the directories of the queue before this place were walked
abbrev pub invariant-loop-next : goal.invariant-loop-next
invariant-loop-next g l = record {
  reads : OnlyReads (g.D.Disk.contents l.fn.disk) (g.D.Disk.meter l.fn.disk) (g.D.Disk.contents l.disk) (g.D.Disk.meter l.disk);
  geom : l.walk.zones.geom ≡ l.fn.g;
  queue : IsQueue l.fn.g l.walk.rows l.walk.order.items;
  walked : (image : Image) (ckpt : Checkpoint) → IsRead (g.D.Disk.contents l.fn.disk) l.fn.g l.fn.table image ckpt → IsWalkedBefore image ckpt l.walk l.next;
}

abbrev pub decreases-loop-next : goal.decreases-loop-next
decreases-loop-next g l = nid_limit l.fn.g - l.next
