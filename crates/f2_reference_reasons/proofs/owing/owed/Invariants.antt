use Rattle.std.proofs.Common.{◌≡◌, ◌*◌, ◌^◌, ◌≤◌, drop}
use Rattle.std.specs.List.{fold}
use Rattle.f2_model.specs.Fallback.{sum_of, owed_by, owed}
use Rattle.f2_flights.specs.Parts.{flight_of}
use Rattle.f2_reference_reasons.specs.Boths.{both_of}
use Rattle.f2_reference_reasons.proofs.owing.owed.Given as goal

-- the flights that are left make the sum whole
abbrev pub invariant-loop-flight : goal.invariant-loop-flight
invariant-loop-flight l = record {
  whole : fold (λ total flight. sum_of total (owed_by l.plain.state (flight_of flight))) (both_of l.total) (drop l.flight-index l.flight-items) ≡ owed l.plain.state;
  nodes : l.total.nodes ≤ l.flight-index * 2 ^ 64;
  pages : l.total.pages ≤ l.flight-index * 2 ^ 64;
}
