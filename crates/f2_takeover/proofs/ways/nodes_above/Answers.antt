use Rattle.std.proofs.Common.{◌≡◌, length, subst, arith, ap, ◌∙◌}
use Rattle.std.specs.FinMap as map
use Rattle.f2_takeover.specs.Nodes.{Nodes, node_from, with_node, AreNodesTo}
use Rattle.f2_takeover.proofs.NodeSteps.{nodes_none, nodes_more}
use Rattle.f2_takeover.proofs.ways.nodes_above.Goals as goal

pub loop-listed-init : goal.loop-listed-init
loop-listed-init c =
    let roll = map.get c.args.rolls.now c.args.ino in
    let base = map.get c.args.walk.now.rows c.args.ino in
    nodes_none roll base c.args.pages.now c.take_node.new.nodes (c.in_ok-take_node.ensures ∙ ap (λ (m : Nodes). with_node m 0 (node_from roll base 0)) c.new-nodes.ensures)

pub loop-listed-preserved : goal.loop-listed-preserved
loop-listed-preserved c =
    nodes_more (map.get c.args.rolls.now c.args.ino) (map.get c.args.walk.now.rows c.args.ino) c.args.pages.now c.loop-listed.listed-index c.loop-listed.nodes c.take_way.new.nodes c.loop-listed.invariant
    c.in_ok-take_way.ensures.way c.in_ok-take_way.ensures.none

pub returns : goal.returns
returns c =
    let ended : c.loop-listed.listed-index ≡ length c.args.pages.now = omega (arith, c.loop-listed-test.false, c.loop-listed.auto.listed-index-end) in
    subst (λ n. AreNodesTo (map.get c.args.rolls.now c.args.ino) (map.get c.args.walk.now.rows c.args.ino) c.args.pages.now n c.loop-listed.nodes) ended c.loop-listed.invariant
