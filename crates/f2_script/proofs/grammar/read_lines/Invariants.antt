use Rattle.std.proofs.Common.{length}
use Rattle.f2_script.proofs.Reading.{ReadsOn}
use Rattle.f2_script.proofs.grammar.read_lines.Given as goal

abbrev pub invariant-loop-text : goal.invariant-loop-text
invariant-loop-text l = ReadsOn l.grammar l.bytes l.lines l.begun l.left

abbrev pub decreases-loop-text : goal.decreases-loop-text
decreases-loop-text l = length l.left
