use Rattle.f2_change_laws.proofs.FreeWrites.{free_writes_keep}
use Rattle.f2_change_laws.proofs.writing.free_writes_keep.Goals as goal

pub returns : goal.returns
returns c = free_writes_keep
