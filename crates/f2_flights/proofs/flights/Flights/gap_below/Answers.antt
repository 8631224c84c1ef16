use Rattle.std.proofs.Common.{◌≡◌, ◌∙◌, ℕ, List, [], ◌∷◌, min, nat_lt, Option, Some, None, refl, ap, rules, tests}
use Rattle.std.specs.List.{filter, fold, reduce}
use Rattle.std.specs.Map.{values_of}
use Rattle.std.specs.Option.{option_map}
use Rattle.std.proofs.lemmas.Iterator.Consumers.{YieldsList-at, YieldsList-from_rest, YieldsList-from_filter, YieldsList-from_filter_map, min_from_yields_List}
use Rattle.f2_model.specs.Lists.{lesser, least_number}
use Rattle.f2_model.specs.Step.{open_position}
use Rattle.f2_flights.specs.Parts.{flight_of}
use Rattle.f2_flights.proofs.FlightViews.{filter_map-shown_seen}
use Rattle.f2_flights.proofs.flights.Flights.gap_below.Goals as goal

-- the least of some numbers, gathered from the first one on
least_from : (least : ℕ) (xs : List ℕ) → Some (fold min least xs) ≡ fold lesser (Some least) xs
least_from least [] = refl
least_from least (x ∷ xs) = least_from (min least x) xs

least_reduced : (xs : List ℕ) → reduce min xs ≡ least_number xs
least_reduced [] = refl
least_reduced (x ∷ xs) = least_from x xs

as_it_is : (o : Option ℕ) → o ≡ option_map (λ x. x) o
as_it_is None = refl
as_it_is (Some x) = refl

pub returns : goal.returns
returns c =
    let entries = c.self.inside.flights.entries in
    as_it_is c.min.result
    ∙ min_from_yields_List _ c.min.result c.min.ensures.ran
    (YieldsList-from_filter _ (λ n. nat_lt n c.args.position)
    (YieldsList-at c.filter.ensures.source
    (YieldsList-from_filter_map _ (λ v. open_position (flight_of v)) (YieldsList-at c.filter_map.ensures.source (YieldsList-from_rest (values_of entries) c.values.ensures.rest)) c.filter_map.ensures.closure (λ x r q k. search (rules, tests))))
    c.filter.ensures.closure (λ x b q k. search (rules, tests)))
    ∙ ap (λ (xs : List ℕ). reduce min (filter (λ n. nat_lt n c.args.position) xs)) (filter_map-shown_seen entries flight_of _ c.self.view_is open_position c.values.ensures.ordered)
    ∙ least_reduced _
