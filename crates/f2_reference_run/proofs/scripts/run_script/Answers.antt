use Rattle.std.proofs.Common.{sym, subst, false}
use Rattle.f2_reference_run.specs.Runs.{AreStanding}
use Rattle.f2_reference_run.proofs.Running.{lines_stand}
use Rattle.f2_reference_run.proofs.scripts.run_script.Goals as goal

pub run_lines-requires : goal.run_lines-requires
run_lines-requires c = subst (AreStanding false) (sym c.into_vec.ensures) (lines_stand false _ c.in-Ok.lines c.in-Ok.ensures.ok)
