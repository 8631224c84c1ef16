use Rattle.f2_laws.proofs.refusals.refusals_leave_the_tree.Goals as goal
use Rattle.f2_laws.proofs.RefusedCalls.{outcome-refused, outcome-space, readers_leave}

pub returns-clause-refused : goal.returns-clause-refused
returns-clause-refused c = outcome-refused

pub returns-clause-space : goal.returns-clause-space
returns-clause-space c = outcome-space

pub returns-clause-readers : goal.returns-clause-readers
returns-clause-readers c = readers_leave
