use Rattle.std.proofs.Common.{◌≡◌, ℕ, List}
use Rattle.std.specs.Prelude.{map as map_list}
use Rattle.std.specs.Map.Iter.{deref_pair}
use Rattle.f2_recover.specs.declared.nodes.PageAt.{PageAt}
use Rattle.f2_overlay.proofs.addresses.Addresses.listed.Given as goal

-- entries as pages with their addresses
abbrev pub pages_in : List (ℕ × ℕ) → List PageAt
pages_in entries = map_list (λ entry. record { page = entry.0; at = entry.1 }) entries

abbrev pub invariant-loop-page : goal.invariant-loop-page
invariant-loop-page l = l.list.items ≡ pages_in (map_list deref_pair l.yielded)
