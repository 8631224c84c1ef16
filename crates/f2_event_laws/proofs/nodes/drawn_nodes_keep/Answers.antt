use Rattle.f2_event_laws.proofs.DrawnNodes.{drawn_nodes}
use Rattle.f2_event_laws.proofs.nodes.drawn_nodes_keep.Goals as goal

pub returns : goal.returns
returns c = drawn_nodes
