use Rattle.std.proofs.Common.{ap, ◌∙◌}
use Rattle.f2_index.specs.Nodes.{dirty_of}
use Rattle.f2_index.proofs.Indexed.{AreNodesOf-empty, dirty_of-empty}
use Rattle.f2_index.proofs.index.Index.new.Goals as goal

pub invariant_of-result : goal.invariant_of-result
invariant_of-result c = rw (c.new.ensures, c.new-2.ensures) AreNodesOf-empty

pub returns : goal.returns
returns c =
    let dirty = ap dirty_of c.new-2.ensures ∙ dirty_of-empty in
    λ i. record { pages = c.new.ensures i; dirty = dirty i }
