use Rattle.f2_held.proofs.MapSums.{directories_sum}
use Rattle.f2_held.proofs.directories.Directories.sum.Goals as goal

pub returns-clause-small : goal.returns-clause-small
returns-clause-small c = directories_sum _ c.self.inside.sum c.self.invariant
