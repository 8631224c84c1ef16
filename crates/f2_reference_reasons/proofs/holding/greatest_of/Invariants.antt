use Rattle.std.proofs.Common.{◌≡◌, ◌^◌, ◌≤◌, drop}
use Rattle.std.specs.List.{fold}
use Rattle.f2_model.specs.Count.{nodes_of_row, data_of_row}
use Rattle.f2_model.specs.Fallback.{greater_of, greatest_of}
use Rattle.f2_reference_calls.specs.Given.{rows_at}
use Rattle.f2_reference_reasons.specs.Boths.{both_of}
use Rattle.f2_reference_reasons.proofs.holding.greatest_of.Given as goal

-- the rows that are left make the greatest whole
abbrev pub invariant-loop-row : goal.invariant-loop-row
invariant-loop-row l = record {
  whole : fold (λ most row. greater_of most (record { nodes = nodes_of_row (rows_at l.rows) row; pages = data_of_row (rows_at l.rows) row })) (both_of l.most) (rows_at (drop l.row-index l.row-items)) ≡ greatest_of (rows_at l.rows) l.ino;
  nodes : l.most.nodes ≤ 2 ^ 64;
  pages : l.most.pages ≤ 2 ^ 64;
}
