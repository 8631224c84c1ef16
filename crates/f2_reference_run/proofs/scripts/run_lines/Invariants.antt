use Rattle.std.specs.Vec.Iter.{into_iter_items, into_iter_len}
use Rattle.f2_reference_run.proofs.Running.{Progress}
use Rattle.f2_reference_run.proofs.scripts.run_lines.Given as goal

abbrev pub invariant-loop-line : goal.invariant-loop-line
invariant-loop-line l = Progress l.fn.lines.items (into_iter_items l.lines) l.player l.text.items

abbrev pub decreases-loop-line : goal.decreases-loop-line
decreases-loop-line l = into_iter_len l.lines
