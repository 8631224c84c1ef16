use Rattle.std.specs.List.{AllByRecursion}
use Rattle.f2_play.specs.Calls.{Passes}
use Rattle.f2_reference_run.specs.Runs.{Leads, stops}
use Rattle.f2_reference_run.proofs.player.Player.go.Given as goal

abbrev pub invariant-loop : goal.invariant-loop
invariant-loop l = Leads (AllByRecursion (Passes (stops l.stop) l.seat)) l.initial.self l.self
