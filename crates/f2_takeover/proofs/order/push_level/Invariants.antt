use Rattle.f2_takeover.specs.Orders.{AreInos, AreListedTo}
use Rattle.f2_takeover.proofs.order.push_level.Given as goal

abbrev pub invariant-loop-ino : goal.invariant-loop-ino
invariant-loop-ino l = AreInos l.rows l.inos → AreListedTo l.rows l.inos l.depth 0 l.fn.order.items → AreListedTo l.rows l.inos l.depth l.ino-index l.order.items
