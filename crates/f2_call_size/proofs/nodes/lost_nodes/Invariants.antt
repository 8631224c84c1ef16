use Rattle.std.proofs.Common.{◌++◌, take}
use Rattle.f2_format.specs.Offsets.{nodes_over}
use Rattle.f2_call_size.specs.Beyond.{IsBeyond, pages_below}
use Rattle.f2_call_size.proofs.nodes.lost_nodes.Given as goal

-- the nodes that the pages so far need beyond those before the number
abbrev pub invariant-loop-page : goal.invariant-loop-page
invariant-loop-page l = IsBeyond (nodes_over (pages_below l.own l.end)) l.found (nodes_over (pages_below l.own l.end ++ take l.page-index l.lost))
