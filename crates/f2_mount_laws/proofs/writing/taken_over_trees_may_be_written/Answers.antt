use Rattle.f2_mount_laws.proofs.Proper.{may_be_written}
use Rattle.f2_mount_laws.proofs.writing.taken_over_trees_may_be_written.Goals as goal

pub returns : goal.returns
returns c = may_be_written
