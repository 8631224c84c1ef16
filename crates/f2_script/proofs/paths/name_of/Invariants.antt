use Rattle.std.proofs.Common.{length}
use Rattle.f2_script.specs.Paths.{IsNameText}
use Rattle.f2_script.proofs.Growth.{Growth}
use Rattle.f2_script.proofs.paths.name_of.Given as goal

abbrev pub invariant-loop-left : goal.invariant-loop-left
invariant-loop-left l = Growth (IsNameText l.text) (IsNameText l.left) l.name

abbrev pub decreases-loop-left : goal.decreases-loop-left
decreases-loop-left l = length l.left
