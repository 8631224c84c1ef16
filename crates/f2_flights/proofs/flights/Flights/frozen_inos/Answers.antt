use Rattle.std.proofs.Common.{ℕ, List, ◌≡◌, IfOk, subst, rules, tests}
use Rattle.std.specs.Map.{values_of}
use Rattle.std.proofs.lemmas.Iterator.{items_from_collect}
use Rattle.std.proofs.lemmas.Iterator.Consumers.{YieldsList-at, YieldsList-from_rest, YieldsList-from_filter_map}
use Rattle.f2_model.specs.Fallback.{frozen_ino}
use Rattle.f2_flights.specs.Parts.{flight_of}
use Rattle.f2_flights.proofs.FlightViews.{filter_map-shown_seen}
use Rattle.f2_flights.proofs.flights.Flights.frozen_inos.Goals as goal

pub returns : goal.returns
returns c = subst (λ (xs : List ℕ). IfOk c.collect.result (λ inos. inos.items ≡ xs))
    (filter_map-shown_seen c.self.inside.flights.entries flight_of _ c.self.view_is frozen_ino c.values.ensures.ordered)
    (items_from_collect _ c.collect.ensures.ran (YieldsList-from_filter_map _ (λ v. frozen_ino (flight_of v)) (YieldsList-at c.filter_map.ensures.source (YieldsList-from_rest (values_of c.self.inside.flights.entries) c.values.ensures.rest)) c.filter_map.ensures.closure (λ x r q k. search (rules, tests))))
