use Rattle.std.proofs.Common.{length, ◌≤◌}
use Rattle.f2_top.proofs.PutLemmas.{PutSoFar}
use Rattle.f2_top.proofs.output.put.Given as goal

abbrev pub invariant-loop-left : goal.invariant-loop-left
invariant-loop-left g l = record {
  so_far : PutSoFar (g.K.Sink.written l.fn.sink) (g.K.Sink.written l.sink) l.fn.text l.left;
  later : g.K.Sink.faults l.fn.sink ≤ g.K.Sink.faults l.sink;
}

abbrev pub decreases-loop-left : goal.decreases-loop-left
decreases-loop-left g l = length l.left
