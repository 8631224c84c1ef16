use Rattle.std.proofs.Common.{◌≡◌}
use Rattle.std.specs.FinSet as set
use Rattle.f2_model.specs.State.{without_ino}
use Rattle.f2_files.proofs.pairs.Pairs.remove_ino.Given as goal

abbrev pub invariant-loop-number : goal.invariant-loop-number
invariant-loop-number l = without_ino l.ino l.self ≡ without_ino l.ino l.initial.self

abbrev pub decreases-loop-number : goal.decreases-loop-number
decreases-loop-number l = set.len l.self
