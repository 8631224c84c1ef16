use Rattle.std.proofs.Common.{◌∙◌, ap}
use Rattle.std.specs.Option.{option_map}
use Rattle.f2_model.proofs.MapViews.{lookup-shown_seen}
use Rattle.f2_flights.specs.Parts.{flight_of}
use Rattle.f2_flights.proofs.flights.Flights.get.Goals as goal

pub returns : goal.returns
returns c = ap (option_map flight_of) (c.copied.ensures ∙ c.get.ensures.value) ∙ lookup-shown_seen c.self.inside.flights.entries flight_of _ c.self.view_is c.args.seat
