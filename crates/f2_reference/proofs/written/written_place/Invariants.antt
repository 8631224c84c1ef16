use Rattle.std.proofs.Common.{◌≡◌, min, map as map_list, drop}
use Rattle.std.specs.List.{fold, filter_map}
use Rattle.f2_reference.specs.Written.{lost_place, written_place}
use Rattle.f2_flights.specs.Parts.{flight_of}
use Rattle.f2_reference.proofs.written.written_place.Given as goal

-- the least place so far, with those of the calls that are left, is the least of all
abbrev pub invariant-loop-flight : goal.invariant-loop-flight
invariant-loop-flight l = fold min l.place (filter_map (lost_place l.plain.state) (map_list flight_of (drop l.flight-index l.flight-items))) ≡ written_place l.plain.state
