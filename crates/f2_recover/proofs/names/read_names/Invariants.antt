use Rattle.std.proofs.Common.{take}
use Rattle.f2_image.specs.Images.{Image}
use Rattle.f2_recover.specs.Told.{Tells, OnlyReads}
use Rattle.f2_recover.specs.Dents.{AreFit}
use Rattle.f2_recover.proofs.DirectoryDents.{AreDentriesOf}
use Rattle.f2_recover.proofs.names.read_names.Given as goal

abbrev pub invariant-loop-block : goal.invariant-loop-block
invariant-loop-block g l = record {
  reads : OnlyReads (g.D.Disk.contents l.fn.disk) (g.D.Disk.meter l.fn.disk) (g.D.Disk.contents l.disk) (g.D.Disk.meter l.disk);
  dents : (image : Image) → Tells (g.D.Disk.contents l.fn.disk) image → AreDentriesOf image (take l.block-index l.blocks) l.dents.items;
  fit : AreFit l.dents.items;
}
