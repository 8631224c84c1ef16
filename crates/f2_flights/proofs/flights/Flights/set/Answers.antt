use Rattle.std.proofs.Common.{◌∙◌, ap, sym}
use Rattle.std.specs.Option.{option_map}
use Rattle.f2_model.proofs.MapViews.{lookup-shown_seen, shown_seen-insert}
use Rattle.f2_flights.specs.Parts.{flight_of}
use Rattle.f2_flights.proofs.FlightViews.{none_there}
use Rattle.f2_flights.proofs.flights.Flights.set.Goals as goal

pub unreachable-requires : goal.unreachable-requires
unreachable-requires c =
    none_there _ (sym (lookup-shown_seen c.self.inside.flights.entries flight_of _ c.self.view_is c.args.seat) ∙ ap (option_map flight_of) c.in-Err.ensures.absent) c.requires

pub returns : goal.returns
returns c = shown_seen-insert c.self.inside.flights.entries flight_of _ c.self.view_is _ c.args.seat c.args.flight c.in-Ok.ensures.updates.0
