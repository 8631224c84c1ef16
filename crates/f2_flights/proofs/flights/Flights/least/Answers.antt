use Rattle.std.proofs.Common.{◌∙◌, subst}
use Rattle.std.specs.Map.Iter.{TakesFirst, deref}
use Rattle.f2_flights.specs.Parts.{flight_of}
use Rattle.f2_flights.proofs.FlightViews.{least-seen}
use Rattle.f2_flights.proofs.flights.Flights.least.Goals as goal

pub returns : goal.returns
returns c = c.copied.ensures ∙ least-seen c.self.inside.flights.entries flight_of _ c.self.view_is _ (λ x. x.now) _ c.keys.ensures.ordered (subst (λ ks. TakesFirst deref ks c.next.result c.next.new.self) c.keys.ensures.rest c.next.ensures.steps)
