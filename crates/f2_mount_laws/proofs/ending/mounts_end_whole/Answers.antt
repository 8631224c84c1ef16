use Rattle.f2_mount_laws.proofs.Mounted.{mounts_begin, mounts_end_whole}
use Rattle.f2_mount_laws.proofs.ending.mounts_end_whole.Goals as goal

pub returns-clause-begin : goal.returns-clause-begin
returns-clause-begin c = mounts_begin

pub returns-clause-end : goal.returns-clause-end
returns-clause-end c = mounts_end_whole
