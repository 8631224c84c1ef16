use Rattle.std.proofs.Common.{ℕ, ◌∙◌, ap, rules, tests}
use Rattle.std.specs.Option.{option_map}
use Rattle.std.proofs.lemmas.Iterator.Search.{find_from_yields_List}
use Rattle.std.proofs.lemmas.Iterator.Consumers.{YieldsList-from_rest}
use Rattle.f2_model.specs.Step.{is_check}
use Rattle.f2_flights.specs.declared.flights.Flight.{Flight}
use Rattle.f2_flights.specs.Parts.{flight_of}
use Rattle.f2_flights.proofs.FlightViews.{first-seen}
use Rattle.f2_flights.proofs.flights.Flights.checking.Goals as goal

pub returns-in_err-found : goal.returns-in_err-found
returns-in_err-found c =
    let found = find_from_yields_List (λ e. is_check (flight_of e.1)) _ _ c.find.result c.find.ensures.ran (YieldsList-from_rest c.self.inside.flights.entries c.iter.ensures.rest) (λ x b q k. search (rules, tests)) in
    let seat = ap (option_map (λ (e : ℕ × Flight). e.0)) found ∙ first-seen c.self.inside.flights.entries flight_of _ c.self.view_is is_check c.iter.ensures.ordered in
    c.from_residual.ensures ∙ (rw c.in_err-found.was at seat)

pub returns : goal.returns
returns c =
    let found = find_from_yields_List (λ e. is_check (flight_of e.1)) _ _ c.find.result c.find.ensures.ran (YieldsList-from_rest c.self.inside.flights.entries c.iter.ensures.rest) (λ x b q k. search (rules, tests)) in
    let seat = ap (option_map (λ (e : ℕ × Flight). e.0)) found ∙ first-seen c.self.inside.flights.entries flight_of _ c.self.view_is is_check c.iter.ensures.ordered in
    rw c.in_ok-found.was at seat
