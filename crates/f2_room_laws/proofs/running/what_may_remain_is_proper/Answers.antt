use Rattle.f2_room_laws.proofs.running.what_may_remain_is_proper.Goals as goal
use Rattle.f2_room_laws.proofs.Runs.{runs_proper, remains_proper, what_may_remain_proper, live_proper}

pub returns-clause-runs : goal.returns-clause-runs
returns-clause-runs c = runs_proper

pub returns-clause-left : goal.returns-clause-left
returns-clause-left c = remains_proper

pub returns-clause-remains : goal.returns-clause-remains
returns-clause-remains c = what_may_remain_proper

pub returns-clause-live : goal.returns-clause-live
returns-clause-live c = live_proper
