use Rattle.f2_laws.proofs.room.free_ino_is_there.Goals as goal
use Rattle.f2_laws.proofs.FreeInos.{rows_take_nodes, free_ino_found}

pub returns-clause-nodes : goal.returns-clause-nodes
returns-clause-nodes c = rows_take_nodes

pub returns-clause-free : goal.returns-clause-free
returns-clause-free c = free_ino_found
