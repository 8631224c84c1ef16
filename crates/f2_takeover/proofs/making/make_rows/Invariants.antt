use Rattle.f2_takeover.specs.Rows.{AreMadeTo}
use Rattle.f2_takeover.proofs.making.make_rows.Given as goal

abbrev pub invariant-loop-ino : goal.invariant-loop-ino
invariant-loop-ino l = AreMadeTo l.rolls l.walk.rows l.changed.members l.ino l.rows
