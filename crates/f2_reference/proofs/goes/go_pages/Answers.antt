use Rattle.std.proofs.Common.{sym, ap, ◌∙◌}
use Rattle.f2_model.specs.Step as machine
use Rattle.f2_reference.proofs.GoSteps.{page-GoesTo, flushed-GoesTo}
use Rattle.f2_reference.proofs.goes.go_pages.Goals as goal

pub returns-in_ok-page_written-in-Some-clause-ok : goal.returns-in_ok-page_written-in-Some-clause-ok
returns-in_ok-page_written-in-Some-clause-ok c =
    page-GoesTo c.args.plain.now c.page_written.new.self c.args.seat c.args.ino c.in-Some.page c.requires.at
    (sym (c.in-Some.ensures ∙ ap (λ d. machine.least_of d c.args.ino) c.dirty_pages.ensures)) c.in_ok-page_written-in-Some.ensures.ok

pub returns-in_ok-flushed-in-None-clause-ok : goal.returns-in_ok-flushed-in-None-clause-ok
returns-in_ok-flushed-in-None-clause-ok c =
    flushed-GoesTo c.args.plain.now c.flushed.new.self c.args.seat c.args.ino c.requires.at
    (sym (c.in-None.ensures ∙ ap (λ d. machine.least_of d c.args.ino) c.dirty_pages.ensures)) c.in_ok-flushed-in-None.ensures.ok
