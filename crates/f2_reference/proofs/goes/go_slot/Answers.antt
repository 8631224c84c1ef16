use Rattle.std.proofs.Common.{sym, ap, subst}
use Rattle.std.specs.Option.{option_map}
use Rattle.f2_flights.specs.Parts.{drawn_of, progress_of, slot_of}
use Rattle.f2_reference.specs.Going.{GoesTo}
use Rattle.f2_reference.proofs.GoSteps.{slot-GoesTo}
use Rattle.f2_reference.proofs.goes.go_slot.Goals as goal

pub returns-clause-ok : goal.returns-clause-ok
returns-clause-ok c =
    let old = c.args.plain.now in
    subst (GoesTo old c.submitted.new.self c.args.seat) (sym c.step_of.ensures)
    (slot-GoesTo old c.submitted.new.self c.args.seat c.args.ino (progress_of c.args.progress) c.requires.flight c.requires.unshut c.args.slot.position (drawn_of c.args.slot.drawn) (ap (option_map slot_of) c.requires.slot) c.submitted.ensures)
