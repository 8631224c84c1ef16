use Rattle.std.proofs.Common.{◌≢◌, ℕ, ◌<◌}
use Rattle.f2_gate.specs.Seats.{phase_of}
use Rattle.f2_gate.proofs.least_in.Given as goal

-- no seat that was passed is in the phase
abbrev pub invariant-loop-seat : goal.invariant-loop-seat
invariant-loop-seat l = (other : ℕ) → other < l.seat → phase_of l.phases other ≢ l.phase
