use Rattle.f2_shape.proofs.Counted.{CountedTo}
use Rattle.f2_shape.proofs.count.nodes_of.Given as goal

abbrev pub invariant-loop-page : goal.invariant-loop-page
invariant-loop-page l = CountedTo l.pages l.page-index l.count l.before
