use Rattle.std.proofs.Common.{◌≡◌, ◌+◌, ◌*◌, ◌<◌, ◌==◌, ℕ, false, if◌then◌else◌}
use Rattle.std.specs.FinSet as set
use Rattle.f2_format.specs.Offsets.{double_indirect}
use Rattle.f2_index.specs.Paged.{nodes_of_pages}
use Rattle.f2_blocks.specs.Tree.{has_nids}
use Rattle.f2_blocks.proofs.present.+has_node.Given as goal

-- how many nodes are on the way down from the node
abbrev pub decreases-has_node : goal.decreases-has_node
decreases-has_node g l = if l.offset == double_indirect then 2 else if has_nids l.offset then 1 else 0

abbrev pub invariant-loop-slot : goal.invariant-loop-slot
invariant-loop-slot g l = (k : ℕ) → k < l.slot → set.contains (nodes_of_pages (g.P.PageAddresses.addresses l.index)) (l.first + k * l.apart) ≡ false
