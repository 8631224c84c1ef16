use Rattle.std.proofs.Common.{ℕ, ◌+◌, List, subst}
use Rattle.f2_takeover.specs.Orders.{AreInos, AreListedTo}
use Rattle.f2_takeover.proofs.OrderSteps.{listed_none, listed_in_order}
use Rattle.f2_takeover.proofs.InoLists.{are_inos}
use Rattle.f2_takeover.proofs.order.in_order.Goals as goal

pub loop-depth-init : goal.loop-depth-init
loop-depth-init c = listed_none c.args.rows.now c.in_ok-inos.inos.items c.in_ok-order.order.items c.in_ok-order.ensures.items

pub loop-depth-preserved : goal.loop-depth-preserved
loop-depth-preserved c =
    subst (λ (inos : List ℕ). (AreInos c.args.rows.now inos → AreListedTo c.args.rows.now inos c.loop-depth.depth 0 c.loop-depth.order.items → AreListedTo c.args.rows.now inos (c.loop-depth.depth + 1) 0 c.push_level.new.order.items)) c.deref.ensures.value
    c.in_ok-push_level.ensures (are_inos c.args.rows.now c.in_ok-inos.inos.items c.in_ok-inos.ensures) c.loop-depth.invariant

pub returns : goal.returns
returns c rooted = listed_in_order c.args.rows.now c.in_ok-inos.inos.items c.loop-depth.depth c.loop-depth.order.items c.loop-depth-test.false c.loop-depth.invariant rooted
