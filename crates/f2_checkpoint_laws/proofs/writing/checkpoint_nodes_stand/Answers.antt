use Rattle.f2_checkpoint_laws.proofs.Writes.{node_stands}
use Rattle.f2_checkpoint_laws.proofs.writing.checkpoint_nodes_stand.Goals as goal

pub returns : goal.returns
returns c = node_stands
