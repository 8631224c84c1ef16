use Rattle.std.specs.FinMap as map
use Rattle.f2_index.specs.Paged.{Paged, IsCut}
use Rattle.f2_index.proofs.index.Index.cut.Given as goal

-- whatever the rest of the cut leaves, the whole cut leaves
abbrev pub invariant-loop : goal.invariant-loop
invariant-loop l = (last : Paged) → IsCut l.from l.self last → IsCut l.from l.initial.self last

abbrev pub decreases-loop : goal.decreases-loop
decreases-loop l = map.len l.self.pages
