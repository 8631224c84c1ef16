use Rattle.std.specs.FinMap as map
use Rattle.f2_takeover.specs.Nodes.{AreTakenTo}
use Rattle.f2_takeover.proofs.ways.take_all.Given as goal

abbrev pub invariant-loop-place : goal.invariant-loop-place
invariant-loop-place l = AreTakenTo (map.get l.rolls l.ino) (map.get l.walk.rows l.ino) l.offsets l.place l.fn.nodes l.nodes
