use Rattle.std.proofs.Common.{◌≡◌, drop}
use Rattle.std.specs.FinMap as map
use Rattle.f2_model.specs.Tree.{names_under}
use Rattle.f2_reference_calls.specs.Given.{rows_at}
use Rattle.f2_reference_calls.proofs.Listed.{NameMap, with_names, names_at}
use Rattle.f2_reference_calls.proofs.listings.sorted_names.Given as goal

-- the names so far are the keys of a map, which those that are left make whole
abbrev pub invariant-loop-row : goal.invariant-loop-row
invariant-loop-row l =
    (m : NameMap)
    × (names_at l.names.keys ≡ map.keys m)
    × (with_names m (names_under (rows_at (drop l.row-index l.rows)) l.directory) ≡ with_names map.empty (names_under (rows_at l.rows) l.directory))
