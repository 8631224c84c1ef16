use Rattle.f2_live_laws.proofs.InMemory.{changes_in_memory_keep_live}
use Rattle.f2_live_laws.proofs.changing.changes_in_memory_keep_live.Goals as goal

pub returns : goal.returns
returns c = changes_in_memory_keep_live
