use Rattle.std.specs.FinMap as map
use Rattle.f2_takeover.specs.Nodes.{AreNodesTo}
use Rattle.f2_takeover.proofs.ways.nodes_above.Given as goal

abbrev pub invariant-loop-listed : goal.invariant-loop-listed
invariant-loop-listed l = AreNodesTo (map.get l.rolls l.ino) (map.get l.walk.rows l.ino) l.pages l.listed-index l.nodes
