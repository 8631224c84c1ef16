-- How joins and differences go together.
use Rattle.std.proofs.Common.{◌≡◌, ap, arith}
use Rattle.f2_model.specs.Fallback.{Both, sum_of}
use Rattle.f2_call_size.specs.Sizes.{IsDifference, added, gone, together}
use Rattle.f2_call_size.specs.declared.sizes.CallSize.{CallSize}
use Rattle.f2_call_size.proofs.Joined.{IsJoin}

nodes_of : (a b : Both) → a ≡ b → a.nodes ≡ b.nodes
nodes_of a b e = ap (λ (x : Both). x.nodes) e

pages_of : (a b : Both) → a ≡ b → a.pages ≡ b.pages
pages_of a b e = ap (λ (x : Both). x.pages) e

-- a row comes
pub comes : (rest all row new without with : Both) (names : CallSize) → IsJoin rest all row without with → IsDifference without with names → row ≡ new → IsDifference rest all (together (added new) names)
comes rest all row new without with names join change is = record {
  nodes = omega (arith, join.nodes, change.nodes, nodes_of row new is);
  pages = omega (arith, join.pages, change.pages, pages_of row new is);
}

-- a row goes
pub goes : (rest all row old without with : Both) (names : CallSize) → IsJoin rest all row without with → IsDifference with without names → row ≡ old → IsDifference all rest (together (gone old) names)
goes rest all row old without with names join change is = record {
  nodes = omega (arith, join.nodes, change.nodes, nodes_of row old is);
  pages = omega (arith, join.pages, change.pages, pages_of row old is);
}

-- a row grows in its place, and shrinks
pub grows : (rest before after row new without with now size : Both) → IsJoin rest before row without with → IsJoin rest after new without now → with ≡ now → new ≡ sum_of row size → IsDifference before after (added size)
grows rest before after row new without with now size one other same is = record {
  nodes = omega (arith, one.nodes, other.nodes, nodes_of with now same, nodes_of new (sum_of row size) is);
  pages = omega (arith, one.pages, other.pages, pages_of with now same, pages_of new (sum_of row size) is);
}

pub shrinks : (rest before after row new without with now size : Both) → IsJoin rest before row without with → IsJoin rest after new without now → with ≡ now → row ≡ sum_of new size → IsDifference before after (gone size)
shrinks rest before after row new without with now size one other same is = record {
  nodes = omega (arith, one.nodes, other.nodes, nodes_of with now same, nodes_of row (sum_of new size) is);
  pages = omega (arith, one.pages, other.pages, pages_of with now same, pages_of row (sum_of new size) is);
}

-- a row gets another name in its directory, or comes to another one
pub stays : (rest before after row new without with now : Both) (names : CallSize) → IsJoin rest before row without with → IsJoin rest after new without now → row ≡ new → IsDifference with now names → IsDifference before after names
stays rest before after row new without with now names one other same change = record {
  nodes = omega (arith, one.nodes, other.nodes, nodes_of row new same, change.nodes);
  pages = omega (arith, one.pages, other.pages, pages_of row new same, change.pages);
}

pub moves : (rest before after row new without with to_without to_with : Both) (left come : CallSize) → IsJoin rest before row without with → IsJoin rest after new to_without to_with → row ≡ new → IsDifference with without left → IsDifference to_without to_with come → IsDifference before after (together left come)
moves rest before after row new without with to_without to_with left come one other same goes comes = record {
  nodes = omega (arith, one.nodes, other.nodes, nodes_of row new same, goes.nodes, comes.nodes);
  pages = omega (arith, one.pages, other.pages, pages_of row new same, goes.pages, comes.pages);
}
