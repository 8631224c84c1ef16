use Rattle.std.proofs.Common.{take}
use Rattle.f2_disk.specs.Contents.{WhereTold}
use Rattle.f2_disk.specs.Using.{WritesAtMost}
use Rattle.f2_plain_save.specs.Writing.{HasPut, OnlyAdds}
use Rattle.f2_plain_save.proofs.writing.write_all.Given as goal

abbrev pub invariant-loop-planned : goal.invariant-loop-planned
invariant-loop-planned g l =
    record {
      put : WhereTold (g.D.Disk.contents l.initial.disk) (g.D.Disk.contents l.disk) (HasPut (take l.planned-index l.blocks));
      added : WhereTold (g.D.Disk.contents l.initial.disk) (g.D.Disk.contents l.disk) (OnlyAdds l.blocks);
      writes : WritesAtMost l.planned-index g.D.Disk.contents g.D.Disk.meter l.initial.disk l.disk;
    }
