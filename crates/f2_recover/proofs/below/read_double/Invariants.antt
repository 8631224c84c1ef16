use Rattle.std.proofs.Common.{◌≡◌, ◌+◌, ◌*◌}
use Rattle.f2_recover.specs.Told.{OnlyReads}
use Rattle.f2_recover.specs.Seeing.{Goes}
use Rattle.f2_recover.proofs.below.read_double.Given as goal

abbrev pub invariant-loop-slot : goal.invariant-loop-slot
invariant-loop-slot g l = record {
  reads : OnlyReads (g.D.Disk.contents l.fn.disk) (g.D.Disk.meter l.fn.disk) (g.D.Disk.contents l.disk) (g.D.Disk.meter l.disk);
  geom : l.zones.geom ≡ l.fn.zones.geom;
  seen : Goes (g.D.Disk.contents l.fn.disk) l.fn.table l.fn.node (923 + 1018 * 2038) l.fn.zones l.fn.file (2042 + l.slot * 1019) (923 + 1018 * (2038 + l.slot * 1018)) l.zones l.file;
}
