use Rattle.f2_stored_laws.proofs.InMemory.{memory_keeps}
use Rattle.f2_stored_laws.proofs.safety.changes_in_memory_keep.Goals as goal

pub returns : goal.returns
returns c = memory_keeps
