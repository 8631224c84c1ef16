use Rattle.std.proofs.Common.{◌+◌, ◌<◌, ◌≤◌, ap, arith}
use Rattle.f2_model.specs.Fallback.{Both, owed}
use Rattle.f2_model.specs.declared.bounds.Limits.{Limits}
use Rattle.f2_reference.proofs.TickSteps.{is_below, is_not_below, node-TicksTo, full_of_nodes-TicksTo}
use Rattle.f2_reference.proofs.ticks.tick_node.Goals as goal

pub returns-then-node_writes-owed-clause-ok : goal.returns-then-node_writes-owed-clause-ok
returns-then-node_writes-owed-clause-ok c =
    let old = c.args.plain.now in
    let told = ap (λ (both : Both). both.nodes) c.in_ok-owed.ensures.exact in
    let granted = ap (λ (limits : Limits). limits.nodes) c.limits.ensures in
    let full : old.limits.nodes ≤ old.state.node_writes + (owed old.state).nodes = omega (arith, told, granted, c.node_writes.ensures, c.from.ensures, c.if-node_writes-owed.true) in
    full_of_nodes-TicksTo old c.requires.may c.args.node c.requires.no_page c.requires.node (is_not_below _ _ full)

pub returns-clause-ok : goal.returns-clause-ok
returns-clause-ok c =
    let old = c.args.plain.now in
    let told = ap (λ (both : Both). both.nodes) c.in_ok-owed.ensures.exact in
    let granted = ap (λ (limits : Limits). limits.nodes) c.limits.ensures in
    let fits : old.state.node_writes + (owed old.state).nodes < old.limits.nodes = omega (arith, told, granted, c.node_writes.ensures, c.from.ensures, c.if-node_writes-owed.false) in
    node-TicksTo old c.requires.may c.args.node c.requires.no_page c.requires.node c.node_logged.new.self (is_below _ _ fits) c.in_ok-node_logged.ensures.ok
