use Rattle.std.proofs.Common.{◌≡◌}
use Rattle.f2_seat_lock.specs.Map.{places}
use Rattle.f2_leaf_tests.proofs.seat_lock.make_steps.Given as goal

abbrev pub invariant-loop-number : goal.invariant-loop-number
invariant-loop-number g l = record { lock : l.pass.lock ≡ l.lock; places : places l.pass.parts ≡ places l.initial.pass.parts }
