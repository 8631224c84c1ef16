use Rattle.f2_flights.specs.Parts.{flight_of}
use Rattle.f2_flights.proofs.FlightViews.{shown_seen-remove}
use Rattle.f2_flights.proofs.flights.Flights.remove.Goals as goal

pub returns : goal.returns
returns c = shown_seen-remove c.self.inside.flights.entries flight_of _ c.self.view_is _ c.args.seat c.remove.ensures.updates.0
