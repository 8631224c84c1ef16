use Rattle.f2_laws.proofs.beginning.calls_have_their_outcomes.Goals as goal
use Rattle.f2_laws.proofs.Outcomes.{calls_come_to_outcomes}

pub returns : goal.returns
returns c = calls_come_to_outcomes
