use Rattle.std.proofs.Common.{◌≡◌, ◌∙◌, refl, sym, ap}
use Rattle.std.specs.FinMap as map
use Rattle.f2_model.specs.Step.{first_key, least_in_flight}
use Rattle.f2_reference.proofs.BeginTurns.{on_some, answered_only, check_begun}
use Rattle.f2_reference.proofs.begins.begin_check.Goals as goal

pub returns-in-Some-clause-ok : goal.returns-in-Some-clause-ok
returns-in-Some-clause-ok c =
    answered_only c.args.choices c.args.plain.now c.args.plain.now c.args.seat c.args.request _ _ refl
    (on_some (least_in_flight c.args.plain.now.state) _ _ c.in-Some.by (ap (λ flights. first_key (map.entries flights)) (sym c.flights.ensures) ∙ sym c.in-Some.ensures) refl)

pub returns-clause-ok : goal.returns-clause-ok
returns-clause-ok c =
    check_begun c.args.choices c.args.plain.now c.begins_check.new.self c.args.seat c.args.request c.args.plan c.requires.check c.requires.rowless
    (ap (λ flights. first_key (map.entries flights)) (sym c.flights.ensures) ∙ sym c.in_default.ensures) c.in_ok-begins_check.ensures.ok
