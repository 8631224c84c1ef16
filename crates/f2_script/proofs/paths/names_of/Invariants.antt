use Rattle.std.proofs.Common.{eqb, length}
use Rattle.std.specs.List.{slice_split}
use Rattle.f2_script.specs.Paths.{AreNames}
use Rattle.f2_script.proofs.Growth.{Growth}
use Rattle.f2_script.proofs.paths.names_of.Given as goal

abbrev pub invariant-loop-part : goal.invariant-loop-part
invariant-loop-part l = Growth (AreNames (slice_split (λ b. eqb b 47) l.text)) (AreNames (slice_split (λ b. eqb b 47) l.left)) l.path

abbrev pub decreases-loop-part : goal.decreases-loop-part
decreases-loop-part l = length l.left
