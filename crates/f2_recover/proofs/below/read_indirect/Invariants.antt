use Rattle.std.proofs.Common.{◌≡◌, ◌+◌, ◌*◌}
use Rattle.f2_recover.specs.Told.{OnlyReads}
use Rattle.f2_recover.specs.Seeing.{Goes}
use Rattle.f2_recover.proofs.below.read_indirect.Given as goal

abbrev pub invariant-loop-slot : goal.invariant-loop-slot
invariant-loop-slot g l = record {
  reads : OnlyReads (g.D.Disk.contents l.fn.disk) (g.D.Disk.meter l.fn.disk) (g.D.Disk.contents l.disk) (g.D.Disk.meter l.disk);
  geom : l.zones.geom ≡ l.fn.zones.geom;
  seen : Goes (g.D.Disk.contents l.fn.disk) l.fn.table l.fn.node (923 + 1018 * l.fn.number) l.fn.zones l.fn.file (l.fn.node.offset + 1 + l.slot) (923 + 1018 * (l.fn.number + l.slot)) l.zones l.file;
}
