use Rattle.f2_disk.proofs.ContentsLaws.{whole_alone}
use Rattle.f2_disk.proofs.mem_disk.MemDiskDisk.blocks.Goals as goal

pub returns-clause-whole : goal.returns-clause-whole
returns-clause-whole c = rw (← c.self.view_is) (whole_alone _ c.self.invariant.1)
