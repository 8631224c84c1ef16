use Rattle.f2_takeover.specs.Orders.{AreListedTo}
use Rattle.f2_takeover.proofs.order.in_order.Given as goal

abbrev pub invariant-loop-depth : goal.invariant-loop-depth
invariant-loop-depth l = AreListedTo l.rows l.inos.items l.depth 0 l.order.items
