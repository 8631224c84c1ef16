use Rattle.f2_laws.proofs.acknowledging.acknowledged_fsyncs_are_marked.Goals as goal
use Rattle.f2_laws.proofs.Acknowledged.{acknowledged_marked, acks_acknowledge}

pub returns-clause-marked : goal.returns-clause-marked
returns-clause-marked c = acknowledged_marked

pub returns-clause-acks : goal.returns-clause-acks
returns-clause-acks c = acks_acknowledge
