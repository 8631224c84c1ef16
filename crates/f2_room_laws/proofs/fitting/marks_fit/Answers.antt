use Rattle.f2_room_laws.proofs.fitting.marks_fit.Goals as goal
use Rattle.f2_room_laws.proofs.Fittings.{initial_fitting, events_keep_states_fitting, fitting_fits, marks_fit}

pub returns-clause-initial : goal.returns-clause-initial
returns-clause-initial c = initial_fitting

pub returns-clause-events : goal.returns-clause-events
returns-clause-events c = events_keep_states_fitting

pub returns-clause-fits : goal.returns-clause-fits
returns-clause-fits c = fitting_fits

pub returns-clause-runs : goal.returns-clause-runs
returns-clause-runs c = marks_fit
