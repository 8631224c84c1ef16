use Rattle.std.proofs.Common.{Some, ap, sym}
use Rattle.f2_disk.specs.Contents.{alone}
use Rattle.f2_disk.proofs.ContentsLaws.{latest_alone}
use Rattle.f2_disk.proofs.mem_disk.MemDiskDisk.flush.Goals as goal

pub returns-clause-flushed : goal.returns-clause-flushed
returns-clause-flushed c = ap (λ image. Some (alone image)) (sym (latest_alone c.args.self.now))
