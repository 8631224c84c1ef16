use Rattle.std.proofs.Common.{◌≡◌, ℕ, List}
use Rattle.std.specs.Prelude.{map as map_list}
use Rattle.std.specs.Map.Iter.{deref_pair}
use Rattle.f2_overlay.specs.declared.taking.NodeAt.{NodeAt}
use Rattle.f2_takeover.specs.declared.nodes.TakenNode.{TakenNode}
use Rattle.f2_takeover.proofs.nodes.TakenNodes.listed.Given as goal

-- entries as nodes with their offsets
abbrev pub nodes_in : List (ℕ × NodeAt) → List TakenNode
nodes_in entries = map_list (λ entry. record { offset = entry.0; nid = entry.1.nid; at = entry.1.at }) entries

abbrev pub invariant-loop-offset : goal.invariant-loop-offset
invariant-loop-offset l = l.list.items ≡ nodes_in (map_list deref_pair l.yielded)
