use Rattle.std.proofs.Common.{◌≡◌, ◌+◌, ◌≤◌, length}
use Rattle.f2_script.specs.Grammar.{lines_of}
use Rattle.f2_script.proofs.grammar.line_count.Given as goal

abbrev pub invariant-loop-rest : goal.invariant-loop-rest
invariant-loop-rest l = (l.count + length (lines_of l.left) ≡ length (lines_of l.bytes)) × (l.count + length l.left ≤ length l.bytes)

abbrev pub decreases-loop-rest : goal.decreases-loop-rest
decreases-loop-rest l = length l.left
