use Rattle.f2_event_laws.proofs.WholeNodes.{drawn_nodes_whole}
use Rattle.f2_event_laws.proofs.nodes.drawn_nodes_keep_whole.Goals as goal

pub returns : goal.returns
returns c = drawn_nodes_whole
