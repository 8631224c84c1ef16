use Rattle.std.proofs.Common.{◌≡◌, ◌∙◌, refl, sym, ap, Option, Some, None, nat_lt}
use Rattle.std.specs.List.{filter, filter_map}
use Rattle.std.specs.Option.{option_map}
use Rattle.std.specs.FinMap as map
use Rattle.f2_model.specs.Lists.{least_number}
use Rattle.f2_model.specs.State.{Marked}
use Rattle.f2_model.specs.Step.{gap_below, open_position}
use Rattle.f2_flights.specs.Parts.{part_of, progress_of, slot_of}
use Rattle.f2_reference.proofs.GoSteps.{again-GoesTo, roll-GoesTo}
use Rattle.f2_reference.proofs.goes.go_marked.Goals as goal

pub returns-in-Some-clause-ok : goal.returns-in-Some-clause-ok
returns-in-Some-clause-ok c =
    let old = c.args.plain.now in
    let gap : gap_below old.state c.args.progress.position ≡ Some c.in-Some.position =
    ap (λ flights. least_number (filter (λ one. nat_lt one c.args.progress.position) (filter_map open_position (map.values flights)))) (sym c.flights.ensures) ∙ sym c.in-Some.ensures in
    again-GoesTo old old c.args.seat c.args.ino (progress_of c.args.progress) c.requires.flight c.requires.unshut (ap part_of c.requires.part) (ap (option_map slot_of) c.requires.slot) c.in-Some.position gap refl

pub returns-clause-ok : goal.returns-clause-ok
returns-clause-ok c =
    let old = c.args.plain.now in
    let no_gap : gap_below old.state c.args.progress.position ≡ None =
    ap (λ flights. least_number (filter (λ one. nat_lt one c.args.progress.position) (filter_map open_position (map.values flights)))) (sym c.flights.ensures) ∙ sym c.in_default.ensures in
    roll-GoesTo old c.acknowledges.new.self c.args.seat c.args.ino (progress_of c.args.progress) c.requires.flight c.requires.unshut (ap part_of c.requires.part) (ap (option_map slot_of) c.requires.slot) no_gap c.in_ok-acknowledges.ensures.ok
