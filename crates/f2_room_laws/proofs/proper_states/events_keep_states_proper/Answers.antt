use Rattle.f2_room_laws.proofs.proper_states.events_keep_states_proper.Goals as goal
use Rattle.f2_room_laws.proofs.States.{initial_proper}
use Rattle.f2_room_laws.proofs.Events.{events_keep_states_proper}

pub returns-clause-initial : goal.returns-clause-initial
returns-clause-initial c = initial_proper

pub returns-clause-events : goal.returns-clause-events
returns-clause-events c = events_keep_states_proper
