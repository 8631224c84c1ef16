use Rattle.std.proofs.Common.{◌≡◌, true, refl, sym, ap, ◌∙◌}
use Rattle.std.specs.FinMap as map
use Rattle.f2_model.specs.Step.{is_shut}
use Rattle.f2_flights.specs.Parts.{flight_of}
use Rattle.f2_reference.proofs.GoSteps.{shut_told, none-GoesTo, closed-GoesTo}
use Rattle.f2_reference.proofs.goes.go.Goals as goal

pub returns-in_default-clause-ok : goal.returns-in_default-clause-ok
returns-in_default-clause-ok c =
    none-GoesTo c.args.plain.now c.args.plain.now c.args.seat (sym (c.in_default.ensures ∙ ap (λ f. map.get f c.args.seat) c.flights.ensures)) refl c.args.choices

pub returns-then-eq-clause-ok : goal.returns-then-eq-clause-ok
returns-then-eq-clause-ok c =
    let shut : is_shut c.args.plain.now.state.mode ≡ true = ap is_shut (sym c.mode.ensures) ∙ sym (shut_told c.mode.result) ∙ sym c.if-eq.ensures in
    closed-GoesTo c.args.plain.now c.leaves.new.self c.args.seat (flight_of c.in-Some.flight)
    (sym (c.in-Some.ensures ∙ ap (λ f. map.get f c.args.seat) c.flights.ensures)) shut c.leaves.ensures c.args.choices
