use Rattle.f2_format.specs.Geometry.{nid_limit}
use Rattle.f2_found.specs.Named.{AreApart, AreAllNamedTo}
use Rattle.f2_found.proofs.naming.make_names.Given as goal

abbrev pub invariant-loop-ino : goal.invariant-loop-ino
invariant-loop-ino l = AreApart l.rolls l.walk.rows l.walk.names → AreAllNamedTo l.rolls l.walk.rows l.walk.names (nid_limit l.g) l.ino l.names
