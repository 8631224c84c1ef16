use Rattle.std.proofs.Common.{◌≡◌, ◌*◌, ◌^◌, ◌≤◌, drop}
use Rattle.std.specs.FinMap as map
use Rattle.f2_model.specs.Count.{data_of_row, data_of_tree}
use Rattle.f2_reference_calls.specs.Given.{rows_at}
use Rattle.f2_reference_calls.proofs.Summed.{more_of}
use Rattle.f2_reference_calls.proofs.counts.data_of_tree.Given as goal

-- the rows that are left make the count whole
abbrev pub invariant-loop-row : goal.invariant-loop-row
invariant-loop-row l = record {
  whole : more_of (data_of_row (map.values l.tree)) l.blocks (rows_at (drop l.row-index l.row-items)) ≡ data_of_tree l.tree;
  fits : l.blocks ≤ l.row-index * 2 ^ 64;
}
