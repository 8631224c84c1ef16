use Rattle.std.proofs.Common.{◌≡◌, ◌-◌, ◌++◌, ℕ, List, false, length}
use Rattle.std.specs.FinSet as set
use Rattle.f2_image.specs.Images.{Image}
use Rattle.f2_image.specs.Packs.{Checkpoint}
use Rattle.f2_image.specs.Faults.{IsBelow}
use Rattle.f2_recover.specs.Told.{OnlyReads}
use Rattle.f2_recover.specs.Reading.{IsRead}
use Rattle.f2_recover.specs.Dents.{AreDentsAt}
use Rattle.f2_recover.specs.Walking.{IsQueue, IsLonger, IsWalkedTo, AreFirstNames}
use Rattle.f2_recover.proofs.Sets.{Numbers}
use Rattle.f2_recover.proofs.walk.take_dents.Given as goal

-- the dents so far were taken, and the others are still to be
abbrev pub invariant-loop-dent : goal.invariant-loop-dent
invariant-loop-dent g l = record {
  all : l.yielded ++ l.dent-iterator.rest.items ≡ l.fn.dents.items;
  reads : OnlyReads (g.D.Disk.contents l.fn.disk) (g.D.Disk.meter l.fn.disk) (g.D.Disk.contents l.disk) (g.D.Disk.meter l.disk);
  geom : l.walk.zones.geom ≡ l.fn.g;
  queue : IsQueue l.fn.g l.walk.rows l.walk.order.items;
  longer : IsLonger l.fn.walk l.walk;
  walked : (image : Image) (ckpt : Checkpoint) (done : Numbers) (places : List (ℕ × ℕ)) → IsRead (g.D.Disk.contents l.fn.disk) l.fn.g l.fn.table image ckpt → set.contains done l.fn.directory ≡ false
      → AreDentsAt image ckpt l.fn.directory places l.fn.dents.items → IsBelow image ckpt (l.fn.depth - 1) l.fn.directory → IsWalkedTo image ckpt done l.fn.directory places 0 l.fn.walk
      → IsWalkedTo image ckpt done l.fn.directory places (length l.yielded) l.walk × AreFirstNames l.fn.dents.items (length l.yielded) l.names;
}
