use Rattle.std.proofs.Common.{◌≡◌, ◌*◌, length}
use Rattle.f2_format.specs.Geometry.{ENTRIES_A_NAT_BLOCK}
use Rattle.f2_image.specs.Images.{Image}
use Rattle.f2_disk.specs.Using.{OnlyReads}
use Rattle.f2_plain_read.specs.Told.{Tells}
use Rattle.f2_plain_read.specs.Points.{IsTable}
use Rattle.f2_plain_read.proofs.table.read_table.Given as goal

abbrev pub invariant-loop-number : goal.invariant-loop-number
invariant-loop-number g l = record {
  reads : OnlyReads g.D.Disk.contents g.D.Disk.meter l.initial.disk l.disk;
  size : length l.table.items ≡ ENTRIES_A_NAT_BLOCK * l.number;
  table : (image : Image) → Tells (g.D.Disk.contents l.initial.disk) image → IsTable l.geometry l.second image l.number l.table.items;
}
