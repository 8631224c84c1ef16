use Rattle.std.proofs.Common.{◌-◌, ◌≤◌, length}
use Rattle.f2_warm_log.specs.Log.{IsSubmittedBelow}
use Rattle.f2_warm_log.proofs.positions.lowest_open.Given as goal

abbrev pub invariant-loop-gap : goal.invariant-loop-gap
invariant-loop-gap l = record { bound : l.gap ≤ length l.positions; below : IsSubmittedBelow l.positions l.gap }

abbrev pub decreases-loop-gap : goal.decreases-loop-gap
decreases-loop-gap l = length l.positions - l.gap
