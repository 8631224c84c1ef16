use Rattle.std.proofs.Common.{◌≡◌, ◌*◌, length}
use Rattle.f2_format.specs.Geometry.{ENTRIES_A_NAT_BLOCK}
use Rattle.f2_image.specs.Images.{Image}
use Rattle.f2_image.specs.Packs.{Checkpoint}
use Rattle.f2_recover.specs.Told.{Tells, OnlyReads}
use Rattle.f2_recover.specs.Tables.{IsCkptWith, IsTable}
use Rattle.f2_recover.proofs.table.read_table.Given as goal

abbrev pub invariant-loop-block : goal.invariant-loop-block
invariant-loop-block g l = record {
  reads : OnlyReads (g.D.Disk.contents l.fn.disk) (g.D.Disk.meter l.fn.disk) (g.D.Disk.contents l.disk) (g.D.Disk.meter l.disk);
  size : length l.table.items ≡ ENTRIES_A_NAT_BLOCK * l.block;
  table : (image : Image) (ckpt : Checkpoint) → Tells (g.D.Disk.contents l.fn.disk) image → IsCkptWith l.fn.g l.fn.bitmap l.fn.journal ckpt → IsTable image ckpt l.block l.table.items;
}
