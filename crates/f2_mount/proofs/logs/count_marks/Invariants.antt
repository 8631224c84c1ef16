use Rattle.std.proofs.Common.{◌≡◌}
use Rattle.f2_mount.proofs.Counts.{marked_to}
use Rattle.f2_mount.proofs.logs.count_marks.Given as goal

abbrev pub invariant-loop-logged : goal.invariant-loop-logged
invariant-loop-logged l = l.count ≡ marked_to l.log l.logged-index
