use Rattle.f2_room_laws.proofs.room_for_writes.writes_fit.Goals as goal
use Rattle.f2_room_laws.proofs.Roomy.{initial_roomy, events_keep_states_roomy, writes_fit, logged_written}

pub returns-clause-initial : goal.returns-clause-initial
returns-clause-initial c = initial_roomy

pub returns-clause-events : goal.returns-clause-events
returns-clause-events c = events_keep_states_roomy

pub returns-clause-writes : goal.returns-clause-writes
returns-clause-writes c = writes_fit

pub returns-clause-logged : goal.returns-clause-logged
returns-clause-logged c = logged_written
