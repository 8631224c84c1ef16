use Rattle.std.proofs.Common.{◌++◌, take}
use Rattle.std.specs.FinMap as map
use Rattle.f2_format.specs.Offsets.{nodes_over}
use Rattle.f2_call_size.specs.Beyond.{IsBeyond}
use Rattle.f2_call_size.proofs.nodes.new_nodes.Given as goal

-- the nodes that the pages so far need beyond the file's own
abbrev pub invariant-loop-page : goal.invariant-loop-page
invariant-loop-page l = IsBeyond (nodes_over (map.keys l.own)) l.found (nodes_over (map.keys l.own ++ take l.page-index l.more))
