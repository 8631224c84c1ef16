use Rattle.f2_event_laws.proofs.FlushedNodes.{flushed_nodes}
use Rattle.f2_event_laws.proofs.flusher.flushed_nodes_keep.Goals as goal

pub returns : goal.returns
returns c = flushed_nodes
