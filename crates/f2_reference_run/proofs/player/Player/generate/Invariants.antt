use Rattle.std.proofs.Common.{◌≤◌}
use Rattle.f2_play.specs.Calls.{Generates}
use Rattle.f2_reference_run.specs.Runs.{Leads}
use Rattle.f2_reference_run.proofs.player.Player.generate.Given as goal

abbrev pub invariant-loop : goal.invariant-loop
invariant-loop l = record {
  made : Leads (Generates l.start l.counter l.x l.fine) l.initial.self l.self;
  few : l.fine ≤ l.counter;
}
