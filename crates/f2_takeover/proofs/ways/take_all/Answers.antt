use Rattle.std.specs.FinMap as map
use Rattle.f2_takeover.proofs.NodeSteps.{taken_none, taken_more}
use Rattle.f2_takeover.proofs.ways.take_all.Goals as goal

pub loop-place-init : goal.loop-place-init
loop-place-init c = taken_none (map.get c.args.rolls.now c.args.ino) (map.get c.args.walk.now.rows c.args.ino) c.args.offsets.now c.args.nodes.now

pub loop-place-preserved : goal.loop-place-preserved
loop-place-preserved c =
    taken_more (map.get c.args.rolls.now c.args.ino) (map.get c.args.walk.now.rows c.args.ino) c.args.offsets.now c.loop-place.place c.args.nodes.now c.loop-place.nodes c.take_node.new.nodes c.loop-place.invariant c.in_ok-take_node.ensures
