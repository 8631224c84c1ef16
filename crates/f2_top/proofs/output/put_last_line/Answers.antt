use Rattle.f2_top.proofs.output.put_last_line.Goals as goal

pub returns-in-Script-clause-bytes : goal.returns-in-Script-clause-bytes
returns-in-Script-clause-bytes g c = rw c.in-Script.is (rw c.from.ensures at c.put_numbered.ensures.bytes)

pub returns-in-DiskFault-clause-bytes : goal.returns-in-DiskFault-clause-bytes
returns-in-DiskFault-clause-bytes g c = rw c.in-DiskFault.is c.put-in-DiskFault.ensures.bytes
