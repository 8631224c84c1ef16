use Rattle.std.proofs.Common.{◌≡◌, ◌*◌, ◌^◌, ◌≤◌, drop}
use Rattle.std.specs.List.{fold}
use Rattle.f2_files.specs.Known.{IsKnownOf}
use Rattle.f2_model.specs.Fallback.{sum_of, owed_by, owed}
use Rattle.f2_model.specs.State.{State}
use Rattle.f2_flights.specs.Parts.{flight_of}
use Rattle.f2_since.proofs.blocks.owed.Given as goal

-- the flights that are left make the sum whole
abbrev pub invariant-loop-flight : goal.invariant-loop-flight
invariant-loop-flight l = record {
  whole : (state : State) → IsKnownOf l.files state → fold (λ total flight. sum_of total (owed_by state (flight_of flight))) l.total (drop l.flight-index l.flight-items) ≡ owed state;
  nodes : l.total.nodes ≤ l.flight-index * 2 ^ 64;
  pages : l.total.pages ≤ l.flight-index * 2 ^ 64;
}
