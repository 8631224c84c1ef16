use Rattle.std.proofs.Common.{length, ◌≤◌, ◌-◌}
use Rattle.std.specs.Io.KnownBytes.{Consumes}
use Rattle.f2_top.proofs.input.read_script.Given as goal

abbrev pub invariant-loop-page : goal.invariant-loop-page
invariant-loop-page g l = record {
  taken : Consumes (g.S.Source.remaining l.fn.source) (g.S.Source.remaining l.source) l.script.items;
  later : g.S.Source.faults l.fn.source ≤ g.S.Source.faults l.source;
}

abbrev pub decreases-loop-page : goal.decreases-loop-page
decreases-loop-page g l = 1048577 - length l.script.items
