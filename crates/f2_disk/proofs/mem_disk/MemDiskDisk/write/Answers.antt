use Rattle.f2_disk.proofs.ContentsLaws.{written_alone}
use Rattle.f2_disk.proofs.mem_disk.MemDiskDisk.write.Goals as goal

pub returns-clause-written : goal.returns-clause-written
returns-clause-written c = rw (← c.self.view_is) (written_alone c.args.at c.args.from.now c.self.inside.blocks.items)
