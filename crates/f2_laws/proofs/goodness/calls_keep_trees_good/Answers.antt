use Rattle.f2_laws.proofs.goodness.calls_keep_trees_good.Goals as goal
use Rattle.f2_laws.proofs.Calls.{calls_keep_good}

pub returns : goal.returns
returns c = calls_keep_good
