use Rattle.f2_place_laws.proofs.LiveNodes.{live_with_node}
use Rattle.f2_place_laws.proofs.living.written_nodes_stand.Goals as goal

pub returns : goal.returns
returns c lists new geom tree places unwritten ino offset old node content live was keeps free within here written =
    live_with_node geom tree places ino offset old node was keeps lists new unwritten content live free here within written
