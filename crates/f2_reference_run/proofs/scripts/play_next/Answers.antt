use Rattle.std.proofs.Common.{refl, sym, subst}
use Rattle.std.specs.Prelude.{Some}
use Rattle.f2_reference_run.specs.Runs.{PlaysNext}
use Rattle.f2_reference_run.proofs.scripts.play_next.Goals as goal

pub returns-in_ok-printed-in-Some-default : goal.returns-in_ok-printed-in-Some-default
returns-in_ok-printed-in-Some-default c =
    subst (λ from. PlaysNext from c.args.line c.in_ok-printed-in-Some-default.printed.items (Some c.play.new.self)) (sym c.in-Some-default.is-0)
    (c.play.new.self, refl, c.in_ok-printed-in-Some-default.ensures)
