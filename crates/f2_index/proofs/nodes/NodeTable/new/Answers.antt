use Rattle.std.proofs.Common.{ap, ◌∙◌}
use Rattle.f2_index.specs.Slots.{nodes_of}
use Rattle.f2_index.proofs.Slots.{AreKept-empty, nodes_of-empty}
use Rattle.f2_index.proofs.nodes.NodeTable.new.Goals as goal

pub invariant_of-result : goal.invariant_of-result
invariant_of-result c = rw (c.new.ensures, c.new-2.ensures.items) (AreKept-empty _)

pub returns : goal.returns
returns c = ap nodes_of c.new.ensures ∙ nodes_of-empty
