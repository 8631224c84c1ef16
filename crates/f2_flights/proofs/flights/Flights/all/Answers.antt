use Rattle.std.proofs.Common.{◌≡◌, ◌∙◌, ap, map, rules}
use Rattle.std.proofs.lemmas.Result.{IfOk-weaker}
use Rattle.std.specs.Map.{values_of}
use Rattle.f2_flights.specs.Parts.{flight_of}
use Rattle.f2_flights.proofs.FlightViews.{values-shown_seen}
use Rattle.f2_flights.proofs.flights.Flights.all.Goals as goal

pub returns : goal.returns
returns c = IfOk-weaker c.collect.result (λ all. all.items ≡ values_of c.self.inside.flights.entries) _
    (λ all e. ap (map flight_of) e ∙ values-shown_seen c.self.inside.flights.entries flight_of _ c.self.view_is c.values.ensures.ordered) (search rules)
