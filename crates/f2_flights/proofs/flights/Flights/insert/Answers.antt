use Rattle.f2_model.proofs.MapViews.{shown_seen-insert}
use Rattle.f2_flights.specs.Parts.{flight_of}
use Rattle.f2_flights.proofs.flights.Flights.insert.Goals as goal

pub returns-clause-ok : goal.returns-clause-ok
returns-clause-ok c = shown_seen-insert c.self.inside.flights.entries flight_of _ c.self.view_is _ c.args.seat c.args.flight c.in_ok-insert.ensures.updates.0
