use Rattle.std.proofs.Common.{◌≡◌, ◌≤◌}
use Rattle.std.specs.List.{AllByRecursion}
use Rattle.std.specs.Vec.Iter.{into_iter_items, into_iter_len}
use Rattle.f2_top.specs.Replay.{CountsFaults}
use Rattle.f2_top.specs.Runs.{IsPlayable, StaysCalm}
use Rattle.f2_top.proofs.PlayLemmas.{Runs}
use Rattle.f2_top.proofs.player.play_lines.Given as goal

abbrev pub invariant-loop-line : goal.invariant-loop-line
invariant-loop-line g l = record {
  runs : CountsFaults (g.B.Disk.meter l.fn.core.disk) → Runs (g.B.Disk.contents l.fn.core.disk) l.fn.core (into_iter_items l.fn.lines) (into_iter_items l.lines)
      (g.K.Sink.written l.fn.sink) (g.K.Sink.written l.sink) (g.B.Disk.contents l.core.disk) l.core;
  geometry : l.core.geometry ≡ l.fn.core.geometry;
  playable : AllByRecursion IsPlayable (into_iter_items l.lines);
  calm : StaysCalm (g.B.Disk.meter l.fn.core.disk) (g.B.Disk.meter l.core.disk);
  later : g.K.Sink.faults l.fn.sink ≤ g.K.Sink.faults l.sink;
}

abbrev pub decreases-loop-line : goal.decreases-loop-line
decreases-loop-line g l = into_iter_len l.lines
