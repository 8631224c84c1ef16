use Rattle.f2_laws.proofs.survival.durable_rows_survive.Goals as goal
use Rattle.f2_laws.proofs.Survivors.{crashes_leave, step_survives}

pub returns-clause-crashes : goal.returns-clause-crashes
returns-clause-crashes c = crashes_leave

pub returns-clause-events : goal.returns-clause-events
returns-clause-events c = step_survives
