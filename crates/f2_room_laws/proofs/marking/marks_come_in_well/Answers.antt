use Rattle.f2_room_laws.proofs.marking.marks_come_in_well.Goals as goal
use Rattle.f2_room_laws.proofs.Marks.{rows_come_in, marks_come_in}

pub returns-clause-good : goal.returns-clause-good
returns-clause-good c = rows_come_in

pub returns-clause-proper : goal.returns-clause-proper
returns-clause-proper c = marks_come_in
