use Rattle.std.proofs.Common.{sym, subst}
use Rattle.f2_reference_calls.specs.Given.{IsFitting}
use Rattle.f2_reference_calls.proofs.Fitting.{fitting_after}
use Rattle.f2_reference_calls.proofs.outcomes.outcome.Goals as goal

pub returns-in_ok-answer-in-None-clause-fitting : goal.returns-in_ok-answer-in-None-clause-fitting
returns-in_ok-answer-in-None-clause-fitting c =
    subst IsFitting (sym c.in_ok-after.ensures)
    (fitting_after c.args.limits c.args.tree.now c.args.request.now c.args.ino c.requires.fitting c.requires.size (sym c.in_default.ensures))
