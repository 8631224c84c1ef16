use Rattle.f2_since.proofs.Fsyncs.{fsyncs_go_on, fsyncs_end, others_dont_count}
use Rattle.f2_since.proofs.laws.counts_stay.Goals as goal

pub returns-clause-others : goal.returns-clause-others
returns-clause-others c = others_dont_count

pub returns-clause-go_on : goal.returns-clause-go_on
returns-clause-go_on c = fsyncs_go_on

pub returns-clause-end : goal.returns-clause-end
returns-clause-end c = fsyncs_end
