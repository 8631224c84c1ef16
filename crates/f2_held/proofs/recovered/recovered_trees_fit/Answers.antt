use Rattle.f2_held.proofs.Recovering.{recovered_trees_fit}
use Rattle.f2_held.proofs.Coming.{rows_come_in}
use Rattle.f2_held.proofs.Counting.{count_is_the_most}
use Rattle.f2_held.proofs.recovered.recovered_trees_fit.Goals as goal

pub returns-clause-fit : goal.returns-clause-fit
returns-clause-fit c = recovered_trees_fit

pub returns-clause-count : goal.returns-clause-count
returns-clause-count c = count_is_the_most

pub returns-clause-rows : goal.returns-clause-rows
returns-clause-rows c = rows_come_in
