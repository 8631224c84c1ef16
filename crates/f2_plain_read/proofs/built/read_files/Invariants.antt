use Rattle.std.proofs.Common.{length}
use Rattle.f2_image.specs.Images.{Image}
use Rattle.f2_model.specs.Tree.{Rows}
use Rattle.f2_laid.specs.declared.stored.Stored.{Stored}
use Rattle.f2_disk.specs.Using.{OnlyReads}
use Rattle.f2_plain_read.specs.Told.{Tells}
use Rattle.f2_plain_read.specs.Reads.{IsLaidOut}
use Rattle.f2_plain_read.specs.Building.{IsBuilt, AreBelow, IsTableFor}
use Rattle.f2_plain_read.proofs.built.read_files.Given as goal

abbrev pub invariant-loop-ino : goal.invariant-loop-ino
invariant-loop-ino g l = record {
  reads : OnlyReads g.D.Disk.contents g.D.Disk.meter l.initial.disk l.disk;
  built : (image : Image) → Tells (g.D.Disk.contents l.initial.disk) image → (tree : Rows) (stored : Stored) → IsLaidOut image tree stored → IsTableFor l.table stored.places → IsBuilt tree stored.places l.ino l.built;
  keys : AreBelow (length l.table) l.built.places;
}
