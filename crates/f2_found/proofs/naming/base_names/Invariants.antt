use Rattle.f2_found.proofs.NameSteps.{AreCopiedUpTo}
use Rattle.f2_found.proofs.naming.base_names.Given as goal

abbrev pub invariant-loop-directory : goal.invariant-loop-directory
invariant-loop-directory l = AreCopiedUpTo l.walk.names l.directory l.names
