use Rattle.f2_disk.specs.Contents.{WhereTold}
use Rattle.f2_disk.specs.Using.{WritesAtMost}
use Rattle.f2_plain_save.specs.Blanks.{IsCleared}
use Rattle.f2_plain_save.proofs.blanks.clear.Given as goal

abbrev pub invariant-loop-at : goal.invariant-loop-at
invariant-loop-at g l =
    record {
      cleared : WhereTold (g.D.Disk.contents l.initial.disk) (g.D.Disk.contents l.disk) (IsCleared l.at);
      writes : WritesAtMost l.at g.D.Disk.contents g.D.Disk.meter l.initial.disk l.disk;
    }
