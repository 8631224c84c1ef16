use Rattle.std.proofs.Common.{◌≡◌}
use Rattle.f2_takeover.specs.Rows.{AreChangedTo}
use Rattle.f2_takeover.proofs.changes.changed_directories.Given as goal

abbrev pub invariant-loop-ino : goal.invariant-loop-ino
invariant-loop-ino l = record {
  first : l.changed.first ≡ 0;
  count : l.changed.count ≡ l.limit;
  are : AreChangedTo l.rolls l.walk.rows l.limit l.ino l.changed.members;
}
