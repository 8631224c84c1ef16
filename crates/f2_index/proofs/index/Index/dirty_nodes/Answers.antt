use Rattle.std.proofs.Common.{ap, sym, ◌∙◌}
use Rattle.std.specs.FinSet as set
use Rattle.f2_index.specs.Paged.{Paged, nodes_of_pages}
use Rattle.f2_index.proofs.Needed.{dirty_of-needed}
use Rattle.f2_index.proofs.index.Index.dirty_nodes.Goals as goal

pub returns-clause-needed : goal.returns-clause-needed
returns-clause-needed c =
    ap (λ (v : Paged). set.is_subset v.dirty (nodes_of_pages v.pages)) (sym c.self.view_is)
    ∙ dirty_of-needed c.self.inside.pages c.self.inside.nodes c.self.invariant
