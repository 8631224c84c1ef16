use Rattle.f2_found.specs.Made.{AreMadeTo}
use Rattle.f2_found.proofs.making.make_rows.Given as goal

abbrev pub invariant-loop-ino : goal.invariant-loop-ino
invariant-loop-ino l = AreMadeTo l.g.blocks l.rolls l.walk.rows l.ino l.rows
