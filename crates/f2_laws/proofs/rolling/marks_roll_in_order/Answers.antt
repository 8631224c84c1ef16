use Rattle.f2_laws.proofs.rolling.marks_roll_in_order.Goals as goal
use Rattle.f2_laws.proofs.RolledRows.{rolled-append, get-rolled_last}

pub returns-clause-more : goal.returns-clause-more
returns-clause-more c = rolled-append

pub returns-clause-last : goal.returns-clause-last
returns-clause-last c = get-rolled_last
